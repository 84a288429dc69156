use Rattle.std.proofs.Common.{◌≡◌, ◌≤◌, List, length}
use Rattle.std.specs.List.{list_any, sum_by}
use Rattle.hk_inside.specs.declared.inquiry.Inquiry.TheVariants.{Status as StatusOf}
use Rattle.hk_init.specs.Deeds.{Outcome, Does, exchanges}
use Rattle.hk_init.specs.Init.{answer_count, is_denied}
use Rattle.hk_init.proofs.command.confirm_lost.Given as goal

abbrev pub invariant-loop-place : goal.invariant-loop-place
invariant-loop-place g l = (outcomes : List Outcome) × Does (g.A.AskHost.deeds l.initial.asker) (g.A.AskHost.deeds l.asker) (exchanges StatusOf outcomes) ×
    (length outcomes ≡ l.place) × (l.answered ≡ sum_by answer_count outcomes) × (l.denied ≡ list_any is_denied outcomes) × (l.answered ≤ l.place)
