-- The names of the cells of all shards of a program.
use Rattle.std.specs.Prelude.{ℕ, List, [], slice_index_or}
use Rattle.atomic_table.specs.Seated.{TableId}
use Rattle.hk_base.specs.declared.stamp.NodeId.{NodeId}
use Rattle.hk_snap.specs.Ends.{no_name}

-- of a shard: its 32 cells, and its lease cell
pub record ShardNames : Type 0 where
  pub cells : List TableId
  pub lease : TableId

-- of a node: by how much other clocks may differ from its own, and its shards, shard 0 first
pub record NodeNames : Type 0 where
  pub skew : ℕ
  pub shards : List ShardNames

abbrev pub no_shard : ShardNames
no_shard = record { cells = []; lease = no_name }

abbrev pub no_node : NodeNames
no_node = record { skew = 0; shards = [] }

abbrev pub node_names : List NodeNames → NodeId → NodeNames
node_names places node = slice_index_or places node.0 no_node

abbrev pub shard_names : List NodeNames → NodeId → ℕ → ShardNames
shard_names places node number = slice_index_or (node_names places node).shards number no_shard
