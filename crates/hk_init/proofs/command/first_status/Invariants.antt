use Rattle.std.proofs.Common.{◌≡◌, List, length, true}
use Rattle.std.specs.List.{list_all}
use Rattle.hk_inside.specs.declared.inquiry.Inquiry.TheVariants.{Status as StatusOf}
use Rattle.hk_init.specs.Deeds.{Outcome, Does, exchanges}
use Rattle.hk_init.specs.Init.{lacks_status, first_fault}
use Rattle.hk_init.proofs.command.first_status.Given as goal

abbrev pub invariant-loop-place : goal.invariant-loop-place
invariant-loop-place g l = (outcomes : List Outcome) × Does (g.A.AskHost.deeds l.initial.asker) (g.A.AskHost.deeds l.asker) (exchanges StatusOf outcomes) ×
    (length outcomes ≡ l.place) × (list_all lacks_status outcomes ≡ true) × (l.first ≡ first_fault outcomes)
