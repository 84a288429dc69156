use Rattle.std.proofs.Common.{◌≡◌, ℕ, List, length, true}
use Rattle.std.specs.List.{list_all}
use Rattle.hk_init.specs.Deeds.{Does}
use Rattle.hk_init.specs.Phases.{in_time, founds, all_took}
use Rattle.hk_init.proofs.founds.found_all.Given as goal

abbrev pub invariant-loop-place : goal.invariant-loop-place
invariant-loop-place g l = (times : List ℕ) × Does (g.A.AskHost.deeds l.initial.asker) (g.A.AskHost.deeds l.asker) (founds l.inquiry (all_took times)) ×
    (length times ≡ l.place) × (list_all (in_time l.began) times ≡ true)
