use Rattle.std.proofs.Common.{rules, ◌≤◌, length, arith}
use Rattle.hk_turns.proofs.Taking.{all_empty}
use Rattle.hk_turns.proofs.worker.take_first.Goals as goal

pub returns-clause-empty : goal.returns-clause-empty
returns-clause-empty g c =
    let past : length c.args.inlets.now.items ≤ c.loop-place.place = search rules in
    λ none. (c.loop-place.invariant.0, all_empty c.args.inlets.now.items (λ i below. c.loop-place.invariant.1 i (omega (arith, below, past))))
