use Rattle.std.proofs.Common.{List}
use Rattle.hk_init.specs.Deeds.{Outcome}
use Rattle.hk_init.proofs.Rounds.{Heard}
use Rattle.hk_init.proofs.leaves.ask_each.Given as goal

abbrev pub invariant-loop-place : goal.invariant-loop-place
invariant-loop-place g l = (outcomes : List Outcome) × Heard l.leave outcomes l.place l.leaving l.unknown l.told (g.A.AskHost.deeds l.initial.asker) (g.A.AskHost.deeds l.asker)
