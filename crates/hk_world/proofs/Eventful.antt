-- Events of one actor, in the words of its own event.
use Rattle.std.proofs.Common.{◌≡◌, ℕ, None, Some, Result, sym, ap, ◌∙◌}
use Rattle.hk_base.specs.declared.stamp.NodeId.{NodeId}
use Rattle.hk_base.specs.declared.letter.Actor.{Actor}
use Rattle.hk_base.specs.declared.letter.Actor.TheVariants.{Node, Manager}
use Rattle.hk_base.specs.declared.letter.Letter.{Letter}
use Rattle.hk_manager.specs.declared.event.ManagerEvent.{ManagerEvent}
use Rattle.hk_manager.specs.declared.event.ManagerEvent.TheVariants as ManagerEvent
use Rattle.hk_manager.specs.Steps.{manager_step}
use Rattle.hk_node.specs.declared.event.NodeEvent.{NodeEvent}
use Rattle.hk_node.specs.declared.event.NodeEvent.TheVariants.{Receive}
use Rattle.hk_node.specs.Steps.{receives}
use Rattle.hk_event.specs.declared.event.Event.TheVariants.{Take}
use Rattle.hk_event.specs.declared.refused.Refused.{Refused}
use Rattle.hk_world.specs.World.{WorldState, numbered}
use Rattle.hk_world.specs.Steps.{Accepted, world_step, takes, live_actor, acts, manages, manager_acts}
use Rattle.hk_world.specs.Acting.{made_by}

abbrev taken_by : WorldState → Letter → Actor → Result Accepted Refused
taken_by w letter actor = live_actor w actor (λ i node. acts w i node (receives node letter)) (λ m manager. manager_acts w m (manager_step manager (ManagerEvent.Receive letter)))

-- a letter that is taken is an event of its addressee
pub takes_is : (w : WorldState) (n : ℕ) (letter : Letter) (id : NodeId) (event : NodeEvent) → numbered n w.letters ≡ Some letter → letter.to ≡ Node id → event ≡ Receive letter →
    world_step w (Take n) ≡ made_by w id None event
takes_is w n letter id event found to is = ap (takes w) found ∙ ap (taken_by w letter) to ∙ ap (made_by w id None) (sym is)

pub manager_takes_is : (w : WorldState) (n : ℕ) (letter : Letter) (m : ℕ) (event : ManagerEvent) → numbered n w.letters ≡ Some letter → letter.to ≡ Manager m → event ≡ ManagerEvent.Receive letter →
    world_step w (Take n) ≡ manages w m event
manager_takes_is w n letter m event found to is = ap (takes w) found ∙ ap (taken_by w letter) to ∙ ap (manages w m) (sym is)
