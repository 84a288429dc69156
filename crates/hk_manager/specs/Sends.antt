-- The letters that a manager sends, in rising order of their addressees.
use Rattle.std.specs.Prelude.{ℕ, List, [], map, Option, Some, None, not, ◌==◌}
use Rattle.std.specs.List.{filter, range_with_len}
use Rattle.hk_base.specs.declared.letter.Actor.{Actor}
use Rattle.hk_base.specs.declared.letter.Actor.TheVariants.{Node, Manager}
use Rattle.hk_base.specs.declared.letter.Body.{Body}
use Rattle.hk_base.specs.declared.letter.Letter.{Letter}
use Rattle.hk_manager.specs.Manager.{ManagerState}

abbrev pub letter_to : ManagerState → ℕ → Body → Actor → Letter
letter_to m epoch body to = record { epoch = epoch; from = Manager m.id; to = to; body = body }

-- the same to every manager, itself too
abbrev pub to_all : ManagerState → ℕ → Body → List Letter
to_all m epoch body = map (λ to. letter_to m epoch body (Manager to)) (range_with_len 0 m.managers)

-- the same to every other manager
abbrev pub to_others : ManagerState → ℕ → Body → List Letter
to_others m epoch body = map (λ to. letter_to m epoch body (Manager to)) (filter (λ to. not (to == m.id)) (range_with_len 0 m.managers))

-- the same to every member of the view that it holds
abbrev pub to_members : ManagerState → ℕ → Body → List Letter
to_members m epoch body = map (λ member. letter_to m epoch body (Node member)) m.held.members

-- what is to be said, if anything, is said to every manager
abbrev pub told_all : ManagerState → ℕ → Option Body → List Letter
told_all m epoch None = []
told_all m epoch (Some body) = to_all m epoch body
