-- The only node of a group.
use Rattle.std.specs.Prelude.{◌≡◌, ℕ, ◌+◌, List, [], ◌∷◌}
use Rattle.hk_base.specs.declared.view.View.{View}
use Rattle.hk_base.specs.declared.call.Content.{Content}
use Rattle.hk_base.specs.declared.call.Op.TheVariants.{Write}
use Rattle.hk_node.specs.declared.event.NodeEvent.TheVariants.{Call}
use Rattle.hk_node.specs.Node.{NodeState}
use Rattle.hk_node.specs.Made.{founder}
use Rattle.hk_shard.specs.Shard.{ShardState, IsApplied}

-- the first view of a group in which node 0 is alone
abbrev pub lone_view : View
lone_view = record { epoch = 1; members = record { 0 = 0 } ∷ []; next = 1 }

-- this node as its founder, with a lease that ends then, from no manager
abbrev pub lone_node : ℕ → ℕ → NodeState
lone_node lease_end skew = founder (record { 0 = 0 }) lone_view lease_end skew 0

-- one step more, which writes the content to the key; the call has the number of the step's ticket
abbrev pub IsWritten : ShardState → List ℕ → Content → ShardState → Type 0
IsWritten old key content new = IsApplied old (old.last + 1) (Call (record { 0 = old.last + 1 }) key (Write content)) new
