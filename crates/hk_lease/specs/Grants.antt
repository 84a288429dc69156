-- The greatest until that was noted for each node: nodes and untils, in rising order of the nodes.
use Rattle.std.specs.Prelude.{ℕ, List, Option, unwrap_or, max}
use Rattle.std.specs.declared.cmp.Ordering.{Ordering}
use Rattle.std.specs.Ordering.{nat_cmp}
use Rattle.std.specs.BTreeMap.{is_at, insert_entry}
use Rattle.std.specs.Map.{lookup}
use Rattle.hk_base.specs.declared.stamp.NodeId.{NodeId}
use Rattle.hk_lease.specs.Entries.{entry_rolled_back}

abbrev pub by_number : NodeId → NodeId → Ordering
by_number a b = nat_cmp a.0 b.0

-- the until that was noted for a node, if one was
abbrev pub noted_for : List (NodeId × ℕ) → NodeId → Option ℕ
noted_for grants node = lookup (is_at (by_number node)) grants

-- the until of a node, 0 where none was noted
abbrev pub until_of : List (NodeId × ℕ) → NodeId → ℕ
until_of grants node = unwrap_or (lookup (is_at (by_number node)) grants) 0

-- the until is noted too
abbrev pub with_grant : List (NodeId × ℕ) → NodeId → ℕ → List (NodeId × ℕ)
with_grant grants node until = insert_entry by_number grants node (max (until_of grants node) until)

-- what was noted for a node before is given back
abbrev pub until_rolled_back : List (NodeId × ℕ) → NodeId → Option ℕ → List (NodeId × ℕ)
until_rolled_back grants node until = entry_rolled_back (is_at (by_number node)) until grants
