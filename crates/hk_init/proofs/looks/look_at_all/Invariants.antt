use Rattle.std.proofs.Common.{◌≡◌, length}
use Rattle.hk_inside.specs.declared.inquiry.Inquiry.TheVariants.{Look as LookOf}
use Rattle.hk_init.specs.Deeds.{Does, exchanges}
use Rattle.hk_init.specs.Phases.{stood}
use Rattle.hk_init.proofs.looks.look_at_all.Given as goal

abbrev pub invariant-loop-place : goal.invariant-loop-place
invariant-loop-place g l = Does (g.A.AskHost.deeds l.initial.asker) (g.A.AskHost.deeds l.asker) (exchanges (LookOf l.founding) (stood l.states)) × (length l.states ≡ l.place)
