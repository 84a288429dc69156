-- Whether what was noted outside a view is past.
use Rattle.std.specs.Prelude.{◌≡◌, ◌⊎◌, ◌<◌, ◌≤◌, ℕ, List, [], ◌∷◌, Option, None, Some, Bool, false, nat_le, ◌==◌, ◌&&◌, not, Result, Ok, Err}
use Rattle.std.specs.List.{find, AllByRecursion}
use Rattle.hk_base.specs.declared.stamp.NodeId.{NodeId}
use Rattle.hk_base.specs.declared.view.View.{View}
use Rattle.hk_base.specs.View.{is_member}
use Rattle.hk_lease.specs.declared.grants.NotPast.{NotPast}

-- the until is not below now, and its node is outside the view
abbrev pub may_run : View → ℕ → NodeId × ℕ → Bool
may_run view now grant = nat_le now grant.1 && not (is_member grant.0 view.members)

-- the first that may run, in rising order of the nodes
abbrev pub first_running : List (NodeId × ℕ) → View → ℕ → Option (NodeId × ℕ)
first_running grants view now = find (may_run view now) grants

-- Ok where none may run; else the first, told with its until
abbrev pub past_or : Option (NodeId × ℕ) → Result Unit NotPast
past_or None = Ok tt
past_or (Some grant) = Err (record { node = grant.0; end = grant.1 })

abbrev pub past_answer : List (NodeId × ℕ) → View → ℕ → Result Unit NotPast
past_answer grants view now = past_or (first_running grants view now)

-- it stands in the list
abbrev pub Among : {X : Type 0} → List X → X → Type 0
Among [] x = ⊥
Among (y ∷ ys) x = (x ≡ y) ⊎ Among ys x

-- Ok exactly where every until that was noted outside the view is below now. Else a node outside whose until is not, and no
-- lower node is one.
abbrev pub IsAllPast : Result Unit NotPast → List (NodeId × ℕ) → View → ℕ → Type 0
IsAllPast (Ok _) grants view now = AllByRecursion (λ grant. is_member grant.0 view.members ≡ false → grant.1 < now) grants
IsAllPast (Err fault) grants view now =
    Among grants (fault.node, fault.end) × (is_member fault.node view.members ≡ false) × (now ≤ fault.end)
    × AllByRecursion (λ grant. is_member grant.0 view.members ≡ false → now ≤ grant.1 → fault.node.0 ≤ grant.0.0) grants
