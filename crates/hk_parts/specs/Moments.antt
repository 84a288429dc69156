-- Runs of a world, and their moments, seen from a key.
use Rattle.std.specs.Prelude.{◌≡◌, ℕ, List, [], ◌∷◌, ◌++◌, Ok, Some}
use Rattle.hk_base.specs.declared.stamp.NodeId.{NodeId}
use Rattle.hk_base.specs.declared.letter.Actor.TheVariants as Actor
use Rattle.hk_base.specs.declared.letter.Letter.{Letter}
use Rattle.hk_register.specs.Machine.{In, Update}
use Rattle.hk_register.specs.Machine.Phase.{Valid}
use Rattle.hk_node.specs.Node.{NodeState, epoch_of}
use Rattle.hk_event.specs.declared.event.Header.{Header}
use Rattle.hk_event.specs.declared.event.Event.{Event}
use Rattle.hk_event.specs.declared.event.Event.TheVariants.{Call}
use Rattle.hk_world.specs.Steps.{Accepted, world_step}
use Rattle.hk_effects.specs.Projection.{Trace, project, traced, node_at}
use Rattle.hk_effects.specs.Runs.{start_trace, Follows}

-- how a group begins, and what happens in it
pub record Run : Type 0 where
  pub header : Header
  pub events : List Event

-- the events are accepted one after the other, and lead to this trace of the key
abbrev pub Ends : List ℕ → Run → Trace → Type 0
Ends key run last = Follows key (start_trace run.header) run.events last

-- the run with one more event
abbrev pub with_event : Run → Event → Run
with_event run event = record { header = run.header; events = run.events ++ event ∷ [] }

-- what the key has after some first events of the run: after none of them, after each, and after all
pub record Moment (key : List ℕ) (run : Run) (t : Trace) : Type 0 where
  pub past : List Event
  pub later : List Event
  pub split : run.events ≡ past ++ later
  pub follows : Follows key (start_trace run.header) past t

-- an event of the run, with the moment before it and what it made
pub record EventOf (key : List ℕ) (run : Run) : Type 0 where
  pub past : List Event
  pub event : Event
  pub later : List Event
  pub split : run.events ≡ past ++ event ∷ later
  pub was : Trace
  pub follows : Follows key (start_trace run.header) past was
  pub accepted : Accepted
  pub accepts : world_step was.world event ≡ Ok accepted

-- The letter was sent by an event of the run: by a node that was in the letter's epoch directly after.
pub record Sent (key : List ℕ) (run : Run) (l : Letter) : Type 0 where
  pub at : EventOf key run
  pub among : In at.accepted.shown.letters l
  pub id : NodeId
  pub from : l.from ≡ Actor.Node id
  pub node : NodeState
  pub there : node_at id.0 at.accepted.world.processes ≡ Some node
  pub epoch : l.epoch ≡ epoch_of node

-- The update was begun by an event of the run: by its own call, of its operation, at its coordinator. The coordinator's row was
-- Valid then and had the base as its stamp, and directly after it had the update's.
pub record BegunAt (key : List ℕ) (run : Run) (u : Update) : Type 0 where
  pub at : EventOf key run
  pub event : at.event ≡ Call (record { 0 = u.who }) key u.op
  pub call : at.accepted.shown.call ≡ Some (record { 0 = u.call })
  pub valid : ((project key at.was).node u.who).phase ≡ Valid
  pub base : ((project key at.was).node u.who).stamp ≡ u.base
  pub stamp : ((project key (traced key at.was at.event at.accepted)).node u.who).stamp ≡ u.stamp
