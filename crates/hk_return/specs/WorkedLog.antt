-- A run of one manager with its log, which stops in the midst of an instance of Paxos, returns, and lets a view begin once it may.
use Rattle.std.specs.Prelude.{◌≡◌, List, [], ◌∷◌, ◌++◌, None, Err}
use Rattle.hk_base.specs.declared.view.Ballot.{Ballot}
use Rattle.hk_base.specs.declared.view.Change.TheVariants.{Drop}
use Rattle.hk_base.specs.declared.view.View.{View}
use Rattle.hk_base.specs.declared.letter.Actor.TheVariants.{Node, Manager}
use Rattle.hk_base.specs.declared.letter.Letter.{Letter}
use Rattle.hk_base.specs.declared.letter.Body.{Body}
use Rattle.hk_base.specs.declared.letter.Body.TheVariants as Body
use Rattle.hk_paxos.specs.Run.{In}
use Rattle.hk_manager.specs.declared.event.ManagerEvent.TheVariants.{Propose, Receive, Activate, Tick}
use Rattle.hk_manager.specs.declared.fault.ManagerFault.TheVariants.{NotPast}
use Rattle.hk_manager.specs.Manager.{ManagerState}
use Rattle.hk_manager.specs.Steps.{manager_step}
use Rattle.hk_earned.specs.Worked.{first_node, second_node}
use Rattle.hk_return.specs.Log.{LogEvent}
use Rattle.hk_return.specs.Log.LogEvent.{Batch, Sync, Say, Return}
use Rattle.hk_return.specs.Group.{Group, GroupEvent, start, IsRun, last_group}
use Rattle.hk_return.specs.Group.GroupEvent.{At}

-- two founders, and the view with the second of them dropped
abbrev pub both : View
both = record { epoch = 1; members = first_node ∷ second_node ∷ []; next = 2 }

abbrev pub dropped : View
dropped = record { epoch = 2; members = first_node ∷ []; next = 2 }

abbrev pub ballot : Ballot
ballot = record { round = 1; manager = 0 }

-- what the only manager writes to itself in the instance of epoch 2
abbrev pub to_itself : Body → Letter
to_itself body = record { epoch = 2; from = Manager 0; to = Manager 0; body = body }

abbrev pub activate : Letter
activate = record { epoch = 2; from = Manager 0; to = Node first_node; body = Body.Activate dropped }

abbrev pub its : List LogEvent → List GroupEvent
its [] = []
its (event ∷ events) = At 0 event ∷ its events

abbrev pub takes : Body → LogEvent
takes body = Batch (Receive (to_itself body) ∷ [])

-- It proposes to drop the second node. That it took its own Prepare is lost, with the Promise that it made; it returns, and goes on.
abbrev pub until_return : List LogEvent
until_return = Batch (Propose 1 (Drop second_node) ∷ []) ∷ Sync ∷ Say (to_itself (Body.Prepare ballot)) ∷ takes (Body.Prepare ballot) ∷ Return 0 ∷ []

abbrev pub until_held : List LogEvent
until_held =
    takes (Body.Prepare ballot) ∷ Sync ∷ Say (to_itself (Body.Promise ballot None)) ∷ takes (Body.Promise ballot None) ∷ Sync ∷ Say (to_itself (Body.Accept ballot dropped)) ∷ takes (Body.Accept ballot dropped)
    ∷ Sync ∷ Say (to_itself (Body.Accepted ballot)) ∷ takes (Body.Accepted ballot) ∷ []

abbrev pub until_begun : List LogEvent
until_begun = Batch (Tick 13 ∷ Activate ∷ []) ∷ Sync ∷ Say activate ∷ []

abbrev pub last : List LogEvent → Group
last events = last_group 1 10 both (start 1 10 both) (its events)

abbrev pub manager : List LogEvent → ManagerState
manager events = ((last events).process 0).manager

-- Leases last 10, so the wait is 11. At its return it reads 1 and notes 12 for each founder; so it refuses to let the view begin at 12, and
-- does at 13.
pub record WorkedLog : Type 0 where
  pub runs : IsRun 1 10 both (start 1 10 both) (its (until_return ++ until_held ++ until_begun))
  pub lost : (manager until_return).instances ≡ (manager (Batch (Propose 1 (Drop second_node) ∷ []) ∷ [])).instances
  pub clock : (manager until_return).clock ≡ 1
  pub noted : (manager until_return).untils ≡ (first_node, 12) ∷ (second_node, 12) ∷ []
  pub holds : (manager (until_return ++ until_held)).held ≡ dropped
  pub waits : manager_step (record (manager (until_return ++ until_held)) { clock = 12 }) Activate ≡ Err (NotPast second_node 12)
  pub begins : In (last (until_return ++ until_held ++ until_begun)).sent activate
