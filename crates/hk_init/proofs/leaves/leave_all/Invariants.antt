use Rattle.std.proofs.Common.{List}
use Rattle.hk_init.specs.Deeds.{Deed, Does}
use Rattle.hk_init.specs.Leaving.{GoesOnFor}
use Rattle.hk_init.proofs.leaves.leave_all.Given as goal

abbrev pub invariant-loop-round : goal.invariant-loop-round
invariant-loop-round g l = (deeds : List Deed) × Does (g.A.AskHost.deeds l.initial.asker) (g.A.AskHost.deeds l.asker) deeds × GoesOnFor l.leave l.count l.round deeds
