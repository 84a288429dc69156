-- The numbers of nodes of which boards tell: those of members, and the next ones.
use Rattle.std.specs.Prelude.{ℕ, ◌++◌, nat_lt, if◌then◌else◌, List, [], ◌∷◌}
use Rattle.hk_base.specs.declared.stamp.NodeId.{NodeId}
use Rattle.hk_base.specs.declared.view.View.{View}
use Rattle.hk_base.specs.View.{is_member}

-- each once, in the order in which they come first
abbrev pub with_number : List NodeId → NodeId → List NodeId
with_number known node = if is_member node known then known else known ++ node ∷ []

abbrev pub with_numbers : List NodeId → List NodeId → List NodeId
with_numbers known [] = known
with_numbers known (n ∷ ns) = with_numbers (with_number known n) ns

-- the next number, if it is one of 16 bits
abbrev pub with_next : List NodeId → ℕ → List NodeId
with_next known next = if nat_lt next 65536 then with_number known (record { 0 = next }) else known

abbrev pub with_view : List NodeId → View → List NodeId
with_view known v = with_next (with_numbers known v.members) v.next

abbrev pub with_views : List NodeId → List View → List NodeId
with_views known [] = known
with_views known (v ∷ vs) = with_views (with_view known v) vs

-- the members of these views, and the numbers that they give next
abbrev pub numbers : List View → List NodeId
numbers views = with_views [] views
