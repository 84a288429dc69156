-- What becomes of an event of one actor, in the words of its own event.
use Rattle.std.specs.Prelude.{ℕ, Option, Some, None, Result, Ok, Err, if◌then◌else◌}
use Rattle.hk_base.specs.declared.stamp.NodeId.{NodeId}
use Rattle.hk_base.specs.declared.call.CallNo.{CallNo}
use Rattle.hk_manager.specs.declared.event.ManagerEvent.{ManagerEvent}
use Rattle.hk_manager.specs.Sound.{IsManagerEvent}
use Rattle.hk_node.specs.declared.event.NodeEvent.{NodeEvent}
use Rattle.hk_node.specs.Sound.{IsNodeEvent}
use Rattle.hk_node.specs.Node.{NodeState}
use Rattle.hk_node.specs.Steps.{node_step}
use Rattle.hk_world.specs.declared.process.Process.{Process}
use Rattle.hk_event.specs.declared.refused.Refused.{Refused}
use Rattle.hk_event.specs.declared.refused.Refused.TheVariants.{NoActor, Crashed}
use Rattle.hk_world.specs.World.{WorldState}
use Rattle.hk_world.specs.Steps.{Accepted, acts_for, live}

-- the node, if it is live, makes the step of the event
abbrev pub made_by : WorldState → NodeId → Option CallNo → NodeEvent → Result Accepted Refused
made_by world id call event = live world id (λ node. Ok (acts_for world id call node (node_step node event)))

-- the same where the node may act; else the refusal
abbrev pub allowed : Result NodeId Refused → WorldState → NodeEvent → Result Accepted Refused
allowed (Ok id) world event = made_by world id None event
allowed (Err refused) world event = Err refused

-- with so many calls made
abbrev pub counting : ℕ → Result Accepted Refused → Result Accepted Refused
counting calls (Ok a) = Ok (record a { world = record a.world { calls = calls } })
counting calls (Err refused) = Err refused

-- a live node
abbrev pub running : Option Process → Result NodeState Refused
running None = Err NoActor
running (Some process) = if process.crashed then Err Crashed else Ok process.node

-- an event by which a node, or a manager, acts: any that is in range but a tick, which is a matter of all clocks
abbrev pub IsAct : NodeEvent → Type 0
IsAct (NodeEvent.Tick now) = ⊥
IsAct event = IsNodeEvent event

abbrev pub IsManagerAct : ManagerEvent → Type 0
IsManagerAct (ManagerEvent.Tick now) = ⊥
IsManagerAct event = IsManagerEvent event
