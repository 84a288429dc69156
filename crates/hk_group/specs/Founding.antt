-- What a group is, and its founders.
use Rattle.std.specs.Prelude.{ℕ, ◌≤◌, List}
use Rattle.std.specs.List.{AllByRecursion}
use Rattle.hk_base.specs.declared.time.TheConstants.{MAX_TIME}
use Rattle.hk_base.specs.View.{first_view}
use Rattle.hk_node.specs.Made.{founder}
use Rattle.hk_shard.specs.Shard.{ShardState, IsNew}
use Rattle.hk_group.specs.declared.group.Group.{Group}

-- the limits of a group: 1 to 16 nodes, at most 9 managers, a lease and a skew within the limit of clocks
pub record IsGroup (g : Group) : Type 0 where
  pub some_nodes : 1 ≤ g.nodes
  pub few_nodes : g.nodes ≤ 16
  pub few_managers : g.managers ≤ 9
  pub lease : g.lease ≤ MAX_TIME
  pub skew : g.skew ≤ MAX_TIME

-- at each of these shards nothing has happened yet: its node is a founder of this number, in the first view, whose first leases end at `first_end`
abbrev pub AreFounders : Group → ℕ → ℕ → List ShardState → Type 0
AreFounders g number first_end shards = AllByRecursion (IsNew (founder (record { 0 = number }) (first_view g.nodes) first_end g.skew g.managers)) shards
