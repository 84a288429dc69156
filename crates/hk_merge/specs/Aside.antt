-- Events of a world that leave what a Read is answered.
use Rattle.std.specs.Prelude.{◌≡◌, ◌≢◌, ◌⊎◌, ℕ, List, [], ◌∷◌, false, Option, Some, None, Ok}
use Rattle.hk_base.specs.declared.stamp.NodeId.{NodeId}
use Rattle.hk_base.specs.declared.call.Op.TheVariants.{Read}
use Rattle.hk_base.specs.declared.letter.Actor.TheVariants.{Node}
use Rattle.hk_base.specs.declared.letter.Letter.{Letter}
use Rattle.hk_node.specs.Node.{NodeState}
use Rattle.hk_node.specs.Laws.{key_in}
use Rattle.hk_event.specs.declared.event.Event.{Event}
use Rattle.hk_event.specs.declared.event.Event.TheVariants.{Call, Take, Resend, Replay}
use Rattle.hk_world.specs.declared.process.Process.{Process}
use Rattle.hk_world.specs.World.{WorldState, process_at, numbered}
use Rattle.hk_world.specs.Steps.{Accepted, world_step}
use Rattle.hk_merge.specs.Reads.{IsServing, AsTo, read_answer}

-- a process that runs
abbrev pub alive : NodeState → Process
alive node = record { node = node; crashed = false }

-- a letter to a node does not touch the key at this one
abbrev pub LetterIsAside : Option Letter → NodeId → List ℕ → Type 0
LetterIsAside None id key = ⊥
LetterIsAside (Some letter) id key = (at : NodeId) × (letter.to ≡ Node at) × ((at ≢ id) ⊎ (key_in letter.body ≢ Some key))

-- The event is one of a merged run. Where it acts at the node, it names another key, or it is a Read.
abbrev pub IsAside : WorldState → NodeId → List ℕ → Event → Type 0
IsAside world id key (Call at k op) = (op ≡ Read) ⊎ ((at ≢ id) ⊎ (k ≢ key))
IsAside world id key (Take number) = LetterIsAside (numbered number world.letters) id key
IsAside world id key (Resend at k) = (at ≢ id) ⊎ (k ≢ key)
IsAside world id key (Replay at k) = (at ≢ id) ⊎ (k ≢ key)
IsAside world id key event = ⊥

-- the node runs in the world, is ready, and is as this one as to the key
pub record Runs (world : WorldState) (id : NodeId) (key : List ℕ) (old : NodeState) : Type 0 where
  pub node : NodeState
  pub runs : process_at id world.processes ≡ Some (alive node)
  pub serving : IsServing node
  pub same : AsTo key old node

abbrev pub EventsKeepAside : Type 0
EventsKeepAside = (world : WorldState) (event : Event) (a : Accepted) (id : NodeId) (key : List ℕ) (node : NodeState) →
    world_step world event ≡ Ok a → IsAside world id key event → process_at id world.processes ≡ Some (alive node) → IsServing node →
    Runs a.world id key node

-- each event is accepted where it stands, and is aside
abbrev pub AreAside : NodeId → List ℕ → WorldState → List Event → WorldState → Type 0
AreAside id key world [] last = last ≡ world
AreAside id key world (event ∷ events) last = (a : Accepted) × (world_step world event ≡ Ok a) × IsAside world id key event × AreAside id key a.world events last

-- Over such events a Read of the key at the node is answered the same.
abbrev pub AsidesKeepReads : Type 0
AsidesKeepReads = (world last : WorldState) (events : List Event) (id : NodeId) (key : List ℕ) (node : NodeState) →
    AreAside id key world events last → process_at id world.processes ≡ Some (alive node) → IsServing node →
    (later : NodeState) × (process_at id last.processes ≡ Some (alive later)) × IsServing later × (read_answer later key ≡ read_answer node key)
