-- In a merged run every node serves, and no event is refused.
use Rattle.std.specs.Prelude.{◌≡◌, ◌<◌, ⊤, ℕ, List, Some, None, Option, Ok}
use Rattle.hk_base.specs.declared.stamp.NodeId.{NodeId}
use Rattle.hk_base.specs.declared.letter.Letter.{Letter}
use Rattle.hk_base.specs.declared.letter.Actor.TheVariants.{Node}
use Rattle.hk_node.specs.Node.{NodeState}
use Rattle.hk_event.specs.declared.event.Header.{Header}
use Rattle.hk_event.specs.declared.event.Event.{Event}
use Rattle.hk_event.specs.declared.event.Event.TheVariants.{Call, Take, Resend, Replay}
use Rattle.hk_world.specs.World.{WorldState, process_at, numbered}
use Rattle.hk_world.specs.Start.{start}
use Rattle.hk_world.specs.Steps.{Accepted, world_step}
use Rattle.hk_merge.specs.Reads.{IsServing}
use Rattle.hk_merge.specs.Aside.{alive}
use Rattle.hk_merge.specs.Merged.{Item, Goes}

-- the node runs and serves
pub record Serves (world : WorldState) (id : NodeId) : Type 0 where
  pub node : NodeState
  pub runs : process_at id world.processes ≡ Some (alive node)
  pub serving : IsServing node

abbrev pub ServingStays : Type 0
ServingStays = (world last : WorldState) (tickets : List ℕ) (items : List Item) (events : List Event) (id : NodeId) → Goes world tickets items events last → Serves world id → Serves last id

abbrev pub FoundersServe : Type 0
FoundersServe = (h : Header) (id : NodeId) → h.managers ≡ 0 → id.0 < h.nodes → Serves (start h) id

-- the letter is to the node
abbrev pub IsTo : Option Letter → NodeId → Type 0
IsTo None id = ⊥
IsTo (Some letter) id = letter.to ≡ Node id

-- the event is one of a merged run, and acts at the node
abbrev pub IsAt : WorldState → NodeId → Event → Type 0
IsAt world id (Call at key op) = at ≡ id
IsAt world id (Take number) = IsTo (numbered number world.letters) id
IsAt world id (Resend at key) = at ≡ id
IsAt world id (Replay at key) = at ≡ id
IsAt world id event = ⊥

-- such an event is accepted where the node serves
abbrev pub MergedAreAccepted : Type 0
MergedAreAccepted = (world : WorldState) (id : NodeId) (event : Event) → Serves world id → IsAt world id event → (a : Accepted) × (world_step world event ≡ Ok a)
