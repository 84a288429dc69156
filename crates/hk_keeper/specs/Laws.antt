-- What holds of every wish.
use Rattle.std.specs.Prelude.{◌≡◌, ◌⊎◌, ◌≤◌, ◌+◌, ℕ, true, Some, slice_get}
use Rattle.hk_base.specs.declared.stamp.NodeId.{NodeId}
use Rattle.hk_base.specs.declared.view.Change.TheVariants.{Drop, Add}
use Rattle.hk_lease.specs.Wait.{wait}
use Rattle.hk_keeper.specs.declared.heard.Heard.{Heard}
use Rattle.hk_keeper.specs.declared.heard.ShardHeard.{ShardHeard}
use Rattle.hk_keeper.specs.declared.heard.Wish.TheVariants.{Propose, Activate}
use Rattle.hk_keeper.specs.Heard.{another_ready, next_may_join, is_behind, all_level}
use Rattle.hk_keeper.specs.Table.{is_overtaken, wish_of}

-- No view begins before what may have been granted before this manager's start has ended.
abbrev pub BeginBehindTheWait : Type 0
BeginBehindTheWait = (h : Heard) (shard : ℕ) → h.clock ≤ 1 + wait h.lease → wish_of h shard ≡ Activate → ⊥

-- Whom a manager wishes to drop, another member is ready beside; but where a majority accepted the next view, which its proposal does not change.
abbrev pub LastReadyStays : Type 0
LastReadyStays = (h : Heard) (shard patience : ℕ) (s : ShardHeard) (member : NodeId) → slice_get h.shards shard ≡ Some s →
    wish_of h shard ≡ Propose (record { change = Drop member; patience = patience }) → (is_overtaken h shard s ≡ true) ⊎ (another_ready h s member ≡ true)

-- A number that no shard gave is added only where it is the next one in all, and its node may join.
abbrev pub NumbersMoveTogether : Type 0
NumbersMoveTogether = (h : Heard) (shard patience : ℕ) (s : ShardHeard) → slice_get h.shards shard ≡ Some s →
    wish_of h shard ≡ Propose (record { change = Add; patience = patience }) →
    (is_overtaken h shard s ≡ true) ⊎ (is_behind h s ≡ true) ⊎ ((all_level h s ≡ true) × (next_may_join h s ≡ true))
