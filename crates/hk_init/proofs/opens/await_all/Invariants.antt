use Rattle.std.proofs.Common.{List}
use Rattle.hk_init.specs.Deeds.{Deed, Does}
use Rattle.hk_init.specs.Phases.{Waits}
use Rattle.hk_init.proofs.opens.await_all.Given as goal

abbrev pub invariant-loop-round : goal.invariant-loop-round
invariant-loop-round g l = (deeds : List Deed) × Does (g.A.AskHost.deeds l.initial.asker) (g.A.AskHost.deeds l.asker) deeds × Waits l.words l.count l._round l.lacking deeds
