-- What holds of every shard.
use Rattle.std.specs.Prelude.{◌≡◌, ◌≤◌, List, ℕ, None}
use Rattle.hk_node.specs.declared.event.NodeEvent.{NodeEvent}
use Rattle.hk_node.specs.Rows.{find_row}
use Rattle.hk_node.specs.Node.{NodeState}
use Rattle.hk_node.specs.Calls.{lease_end}
use Rattle.hk_node.specs.Steps.{node_step}
use Rattle.hk_snap.specs.Snapshots.{cell_of}
use Rattle.hk_snap.specs.Ends.{seen_at}
use Rattle.hk_shard.specs.Shown.{last_row}
use Rattle.hk_shard.specs.Shard.{ShardState, IsShard}

-- what was published last of a key is the row that the part has now
abbrev pub CellsShowThePart : Type 0
CellsShowThePart = (s : ShardState) (key : List ℕ) → IsShard s → last_row key (seen_at s.ends (cell_of key)) None ≡ find_row key s.part.rows

-- neither the end of a node's lease nor its clock falls by a step
pub record IsNotBelow (old new : NodeState) : Type 0 where
  pub end : lease_end old ≤ lease_end new
  pub clock : old.clock ≤ new.clock

abbrev pub LeasesNeverFall : Type 0
LeasesNeverFall = (node : NodeState) (event : NodeEvent) → IsNotBelow node (node_step node event).node
