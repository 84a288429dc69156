-- What contracts see of a shard under its lock and of a reader of it, and what each keeps.
use Rattle.std.specs.Prelude.{◌≡◌, ℕ, List, length}
use Rattle.hk_base.specs.declared.stamp.NodeId.{NodeId}
use Rattle.hk_base.specs.declared.call.CallNo.{CallNo}
use Rattle.hk_snap.specs.Snapshots.{cell_of}
use Rattle.hk_snap.specs.Ends.{End, Reader, names, seen_at}
use Rattle.hk_snap.specs.Leases.{Lease}
use Rattle.hk_shard.specs.Shard.{ShardState}
use Rattle.hk_told.specs.declared.ask.Ask.{Ask}
use Rattle.hk_told.specs.Held.{Lists, IsHeld}
use Rattle.hk_told.specs.Kept.{asks_in}
use Rattle.hk_due.specs.Keys.{OpenState, AreOpen}
use Rattle.hk_locked.specs.Places.{NodeNames, node_names, shard_names}

-- the list of each key: all that was published in its cell
abbrev pub lists_in : List End → Lists
lists_in ends key = seen_at ends (cell_of key)

-- a shard under its lock: which one of which node, its node's skew, the asks of updates that wait, and the keys of its open rows
pub record LockedState : Type 0 where
  pub node : NodeId
  pub number : ℕ
  pub skew : ℕ
  pub shard : ShardState
  pub asks : List (CallNo × Ask)
  pub open_keys : OpenState

-- Its cells and its skew are those that the list of names has for it, and its cells' lists show of each ask what it was told. The keys are those of its open
-- rows.
pub record IsLocked (places : List NodeNames) (s : LockedState) : Type 0 where
  pub cells : names s.shard.ends ≡ (shard_names places s.node s.number).cells
  pub lease : s.shard.lease.name ≡ (shard_names places s.node s.number).lease
  pub skew : s.skew ≡ (node_names places s.node).skew
  pub part : s.shard.part.skew ≡ s.skew
  pub held : IsHeld s.shard.part.rows (lists_in s.shard.ends) s.shard.last (asks_in s.asks)
  pub are_open : AreOpen s.open_keys s.shard.part.rows

-- a reader of a shard: which one of which node, its node's skew, and what was seen of its cells and its lease
pub record ReaderState : Type 0 where
  pub node : NodeId
  pub number : ℕ
  pub skew : ℕ
  pub cells : Reader
  pub lease : Lease

-- Its 32 cells and its skew are those that the list of names has for the shard.
pub record IsReader (places : List NodeNames) (r : ReaderState) : Type 0 where
  pub cells : names r.cells.ends ≡ (shard_names places r.node r.number).cells
  pub long : length r.cells.ends ≡ 32
  pub lease : r.lease.name ≡ (shard_names places r.node r.number).lease
  pub skew : r.skew ≡ (node_names places r.node).skew
