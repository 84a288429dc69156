use Rattle.std.proofs.Common.{List}
use Rattle.hk_init.specs.Deeds.{Outcome}
use Rattle.hk_init.proofs.Finding.{Untold}
use Rattle.hk_init.proofs.lookup.look_up.Given as goal

abbrev pub invariant-loop-place : goal.invariant-loop-place
invariant-loop-place g l = (outcomes : List Outcome) × Untold l.host outcomes l.place l.told (g.A.AskHost.deeds l.initial.asker) (g.A.AskHost.deeds l.asker)
