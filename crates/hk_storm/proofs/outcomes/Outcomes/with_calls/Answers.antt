use Rattle.std.proofs.Common.{rules, ◌<◌, ◌≤◌, ◌+◌, ◌-◌, sym, ap, ◌∙◌, arith}
use Rattle.hk_storm.specs.declared.outcomes.Outcomes.{Outcomes}
use Rattle.hk_storm.specs.Outcomes.{with_outcome, with_calls}
use Rattle.hk_storm.proofs.Outcoming.{calls_first, calls_turn, calls_end}
use Rattle.hk_storm.proofs.outcomes.Outcomes.with_calls.Goals as goal

pub loop-before-init : goal.loop-before-init
loop-before-init c = λ replies told. calls_first c.args.self replies c.args.calls (0 + 1) (c.args.calls - 0) (omega arith) (omega arith)

pub loop-before-preserved : goal.loop-before-preserved
loop-before-preserved c = λ replies told.
    let within : c.loop-before.before < c.args.calls = search rules in
    c.loop-before.invariant replies told
    ∙ (calls_turn c.loop-before.outcomes replies (c.loop-before.before + 1) (c.args.calls - c.loop-before.before) (c.args.calls - (c.loop-before.before + 1)) (omega (arith, within))
    ∙ ap (λ (o : Outcomes). with_calls o replies (c.loop-before.before + 1 + 1) (c.args.calls - (c.loop-before.before + 1))) (sym (c.in_ok-next.ensures ∙ ap (with_outcome c.loop-before.outcomes) (c.outcome_at.ensures ∙ told (c.loop-before.before + 1)))))

pub returns : goal.returns
returns c = λ replies told.
    let past : c.args.calls ≤ c.loop-before.before = search rules in
    sym (c.loop-before.invariant replies told ∙ calls_end c.loop-before.outcomes replies (c.loop-before.before + 1) (c.args.calls - c.loop-before.before) (omega (arith, past)))
