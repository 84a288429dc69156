-- What a read is told from what a shard shows.
use Rattle.std.specs.Prelude.{◌≡◌, ◌⊎◌, ◌<◌, ◌≤◌, ◌+◌, ℕ, List, Option, Some, None}
use Rattle.hk_base.specs.declared.call.CallNo.{CallNo}
use Rattle.hk_base.specs.declared.call.Op.TheVariants.{Read}
use Rattle.hk_base.specs.declared.call.Answer.{Answer}
use Rattle.hk_base.specs.declared.call.Answer.TheVariants as told
use Rattle.hk_base.specs.declared.call.Why.TheVariants.{Lease}
use Rattle.hk_node.specs.declared.event.NodeEvent.TheVariants.{Call}
use Rattle.hk_node.specs.Node.{NodeState}
use Rattle.hk_node.specs.Calls.{answers, lease_end}
use Rattle.hk_node.specs.Steps.{node_step}
use Rattle.hk_snap.specs.declared.local.Local.{Local}
use Rattle.hk_snap.specs.declared.local.Local.TheVariants.{Found, Missing, Busy, Large, Elsewhere}
use Rattle.hk_snap.specs.Snapshots.{cell_of, last_shown}
use Rattle.hk_snap.specs.Ends.{seen_at}
use Rattle.hk_snap.specs.Locals.{local_of}
use Rattle.hk_shard.specs.Shard.{ShardState, IsShard}

-- the answer to a read that is told, where one is
abbrev pub answer_of : Local → Option Answer
answer_of (Found content tag ticket) = Some (told.Found content tag)
answer_of (Missing ticket) = Some told.Missing
answer_of (Busy why) = Some (told.Busy why)
answer_of Large = None
answer_of Elsewhere = None

-- the node with its clock at the reading
abbrev pub at_clock : ℕ → NodeState → NodeState
at_clock now node = record node { clock = now }

-- what a read of the key is told from what the shard shows, by a lease that ends there
abbrev pub local_at : ShardState → List ℕ → ℕ → ℕ → Local
local_at s key end now = local_of (last_shown (seen_at s.ends (cell_of key))) key end now s.part.skew

-- by the end of the part's own lease
abbrev pub local_in : ShardState → List ℕ → ℕ → Local
local_in s key now = local_at s key (lease_end s.part) now

-- the part, were its clock at the reading, answers this to a read of the key, and nothing else comes of it
abbrev pub ReadAs : ShardState → List ℕ → ℕ → CallNo → Answer → Type 0
ReadAs s key now call answer = node_step (at_clock now s.part) (Call call key Read) ≡ answers (at_clock now s.part) key call answer

-- what a read is told from what the shard shows is what the part answers to it
abbrev pub LocalReadsAreReads : Type 0
LocalReadsAreReads = (s : ShardState) (key : List ℕ) (now : ℕ) (call : CallNo) (answer : Answer) → IsShard s → answer_of (local_in s key now) ≡ Some answer → ReadAs s key now call answer

-- So it is too by an end that the lease cell showed before, which is not above the part's; or it is told that this lease may be over.
abbrev pub EarlierLeasesDo : Type 0
EarlierLeasesDo = (s : ShardState) (key : List ℕ) (end now : ℕ) (call : CallNo) (answer : Answer) → IsShard s → end ≤ lease_end s.part
    → answer_of (local_at s key end now) ≡ Some answer → ((answer ≡ told.Busy (Lease end now)) × (end < now + s.part.skew)) ⊎ ReadAs s key now call answer
