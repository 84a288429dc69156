-- What a view is.
use Rattle.std.specs.Prelude.{ℕ, zero, suc, ◌+◌, ◌<◌, ◌≤◌, ◌==◌, Bool, List, [], ◌∷◌, length, map, All}
use Rattle.std.specs.List.{list_any}
use Rattle.std.specs.List.Sorted.{IsStrictlyIncreasing}
use Rattle.hk_base.specs.declared.stamp.NodeId.{NodeId}
use Rattle.hk_base.specs.declared.view.View.{View}

abbrev pub member_numbers : List NodeId → List ℕ
member_numbers members = map (λ member. member.0) members

-- the node is one of the members
abbrev pub is_member : NodeId → List NodeId → Bool
is_member node members = list_any (λ member. member.0 == node.0) members

-- 1 to 16 members that rise, each below the next number, which is at most 65,536
pub record IsView (view : View) : Type 0 where
  pub some : 1 ≤ length view.members
  pub few : length view.members ≤ 16
  pub rising : IsStrictlyIncreasing (member_numbers view.members)
  pub below : All (λ member. member.0 < view.next) view.members
  pub next : view.next ≤ 65536

-- so many numbers from n on
abbrev pub counted : ℕ → ℕ → List NodeId
counted n zero = []
counted n (suc k) = record { 0 = n } ∷ counted (n + 1) k

-- the first view has all founders as its members
abbrev pub first_view : ℕ → View
first_view nodes = record { epoch = 1; members = counted 0 nodes; next = nodes }
