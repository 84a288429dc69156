-- Which numbers the views of the shards leave to be bound.
use Rattle.std.specs.Prelude.{ℕ, Bool, not, ◌&&◌, ◌||◌, ◌==◌, nat_lt, nat_le, if◌then◌else◌, List, length, slice_get, Option, None, Some}
use Rattle.std.specs.List.{list_any, list_all}
use Rattle.hk_base.specs.declared.stamp.NodeId.{NodeId}
use Rattle.hk_base.specs.declared.view.View.{View}
use Rattle.hk_base.specs.View.{is_member}

-- the shard has not given the number yet
abbrev pub is_new : NodeId → View → Bool
is_new node view = nat_le view.next node.0

abbrev pub are_new : List View → NodeId → Bool
are_new views node = list_all (λ v. is_new node v) views

abbrev pub have_member : List View → NodeId → Bool
have_member views node = list_all (λ v. is_member node v.members) views

-- A number may be bound that no shard has given, and that of a member of all shards.
abbrev pub may_bind : List View → NodeId → Bool
may_bind views node = are_new views node || have_member views node

-- A shard has given the number, and its node is no member there: it never is again.
abbrev pub is_past : List View → NodeId → Bool
is_past views node = list_any (λ v. not (is_new node v) && not (is_member node v.members)) views

-- All shards have given the number or passed it over, and its node is a member of none: it never is one again.
abbrev pub is_over : List View → NodeId → Bool
is_over views node = list_all (λ v. not (is_new node v) && not (is_member node v.members)) views

-- at most 16 are members
abbrev pub have_room : List View → Bool
have_room views = list_all (λ v. nat_lt (length v.members) 16) views

abbrev pub are_level : List View → ℕ → Bool
are_level views next = list_all (λ v. v.next == next) views

-- the number that all shards give next, if it is one number, and one of 16 bits
abbrev pub next_by : Option View → List View → Option NodeId
next_by None views = None
next_by (Some v) views = if nat_lt v.next 65536 && are_level views v.next then Some (record { 0 = v.next }) else None

abbrev pub next_number : List View → Option NodeId
next_number views = next_by (slice_get views 0) views
