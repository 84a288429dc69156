use Rattle.std.proofs.Common.{rules, ◌≡◌, ◌⊎◌, ◌+◌, ◌<◌, Some, None, refl, ap, subst, List, ℕ}
use Rattle.hk_turns.specs.Rounds.{RoundState, behind_key, next_shard}
use Rattle.hk_turns.proofs.Walking.{walks_on, walks_to}
use Rattle.hk_turns.proofs.round.next_due.Goals as goal

pub returns-in-Some-clause-walks : goal.returns-in-Some-clause-walks
returns-in-Some-clause-walks g c =
    let below : c.loop-shard.shard < 8 = search rules in
    c.loop-shard.invariant.1 (Some (c.loop-shard.shard, c.in-Some.due)) c.pass.new.self
    (walks_to (g.W.Workplace.finds c.args.place.now) (g.W.Workplace.lacks c.args.place.now) c.loop-shard.shard c.loop-shard.round c.pass.new.self c.in-Some.due below c.loop-shard.invariant.0 c.in-Some.ensures.found
    (subst (λ (k : List ℕ). (c.pass.new.self ≡ behind_key c.loop-shard.round c.loop-shard.shard k) ⊎ (c.pass.new.self ≡ next_shard c.loop-shard.round c.loop-shard.shard)) c.key.ensures c.pass.ensures))

pub loop-shard-preserved : goal.loop-shard-preserved
loop-shard-preserved g c =
    let below : c.loop-shard.shard < 8 = search rules in
    let nothing : c.found_at.result ≡ None = search rules in (
      ap (λ (r : RoundState). r.shard) c.leave.ensures,
      λ found after walks. c.loop-shard.invariant.1 found after
          (walks_on (g.W.Workplace.finds c.args.place.now) (g.W.Workplace.lacks c.args.place.now) c.loop-shard.shard (c.loop-shard.shard + 1) c.loop-shard.round c.leave.new.self after found below refl c.loop-shard.invariant.0 c.leave.ensures (c.found_at.ensures.none nothing) walks),
    )
