use Rattle.std.proofs.Common.{◌≡◌, List, length, true}
use Rattle.std.specs.List.{list_all}
use Rattle.hk_inside.specs.declared.inquiry.Inquiry.TheVariants.{Status as StatusOf}
use Rattle.hk_init.specs.Deeds.{Outcome, Does, exchanges}
use Rattle.hk_init.specs.Phases.{tells}
use Rattle.hk_init.proofs.opens.first_lacking.Given as goal

abbrev pub invariant-loop-place : goal.invariant-loop-place
invariant-loop-place g l = (outcomes : List Outcome) × Does (g.A.AskHost.deeds l.initial.asker) (g.A.AskHost.deeds l.asker) (exchanges StatusOf outcomes) ×
    (length outcomes ≡ l.place) × (list_all (tells l.words) outcomes ≡ true)
