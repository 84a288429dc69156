-- The lines of views. Shards with equal views share one, which stands where the least of them would.
use Rattle.std.specs.Prelude.{ℕ, ◌+◌, ◌-◌, Bool, true, false, ◌==◌, ◌&&◌, nat_lt, nat_eq, if◌then◌else◌, List, [], ◌∷◌, ◌++◌, take, slice_get, Option, None, Some, codes, decimal}
use Rattle.std.specs.Cmp.Lexicographic.{pointwise}
use Rattle.std.specs.List.{flat_map, list_any}
use Rattle.hk_base.specs.declared.stamp.NodeId.{NodeId}
use Rattle.hk_base.specs.declared.view.View.{View}
use Rattle.hk_status.specs.Words.{field}

-- ---- equal views

abbrev pub same_node : NodeId → NodeId → Bool
same_node one other = nat_eq one.0 other.0

abbrev pub same_view : View → View → Bool
same_view one other =
    (one.epoch == other.epoch) && (one.next == other.next) && pointwise same_node one.members other.members

-- the shard has the view
abbrev pub has_view : List View → View → Option View → Bool
has_view views view None = false
has_view views view (Some other) = same_view view other

abbrev pub has_at : List View → View → ℕ → Bool
has_at views view shard = has_view views view (slice_get views shard)

-- the shard before has it too
abbrev pub goes_on : List View → View → ℕ → Bool
goes_on views view shard = nat_lt 0 shard && has_at views view (shard - 1)

-- ---- which shards have it, as 0-2,5

-- a comma in front of all but the first range
abbrev pub comma : Bool → List ℕ
comma true = codes ","
comma false = []

-- The first shard of a range stands there, and its last, if it is another one, behind a hyphen.
abbrev pub range_part : List View → View → ℕ → List ℕ
range_part views view shard =
    if has_at views view shard then
    (if goes_on views view shard then
    (if has_at views view (shard + 1) then [] else codes "-" ++ decimal shard)
    else comma (list_any (same_view view) (take shard views)) ++ decimal shard)
    else []

-- what stands of the shards from this one on
abbrev pub ranges_from : List View → View → ℕ → List View → List ℕ
ranges_from views view shard [] = []
ranges_from views view shard (v ∷ vs) = range_part views view shard ++ ranges_from views view (shard + 1) vs

-- ---- a line

-- numbers with a comma between each two
abbrev pub members_text : List NodeId → List ℕ
members_text [] = codes "-"
members_text (n ∷ ns) = decimal n.0 ++ flat_map (λ m. codes "," ++ decimal m.0) ns

abbrev pub view_text : View → List ℕ
view_text view =
    field (codes " epoch=") view.epoch ++ (codes " members=" ++ (members_text view.members ++
    (field (codes " next=") view.next ++ codes "\n")))

-- the shards that have the view, and the view
abbrev pub view_line : List View → View → List ℕ
view_line views view = codes "view shards=" ++ (ranges_from views view 0 views ++ view_text view)

-- the line of this shard's view, if no shard before has that
abbrev pub line_at : List View → ℕ → View → List ℕ
line_at views shard view = if list_any (same_view view) (take shard views) then [] else view_line views view

abbrev pub lines_from : List View → ℕ → List View → List ℕ
lines_from views shard [] = []
lines_from views shard (v ∷ vs) = line_at views shard v ++ lines_from views (shard + 1) vs

abbrev pub views_text : List View → List ℕ
views_text views = lines_from views 0 views
