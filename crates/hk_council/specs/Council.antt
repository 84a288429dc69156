-- The managers of a group, every letter ever sent, and the views that were learned.
use Rattle.std.specs.Prelude.{◌≡◌, ◌<◌, ⊤, ℕ, List, [], ◌∷◌, ◌++◌, Bool, true, false, nat_lt, if◌then◌else◌, Result, Ok, Err}
use Rattle.hk_base.specs.declared.view.View.{View}
use Rattle.hk_base.specs.declared.letter.Actor.{Actor}
use Rattle.hk_base.specs.declared.letter.Actor.TheVariants.{Node, Manager}
use Rattle.hk_base.specs.declared.letter.Letter.{Letter}
use Rattle.hk_paxos.specs.Run.{In, put}
use Rattle.hk_manager.specs.declared.event.ManagerEvent.{ManagerEvent}
use Rattle.hk_manager.specs.declared.event.ManagerEvent.TheVariants.{Propose, Receive, Activate, Tick}
use Rattle.hk_manager.specs.declared.fault.ManagerFault.{ManagerFault}
use Rattle.hk_manager.specs.Manager.{ManagerState}
use Rattle.hk_manager.specs.Sound.{manager_new}
use Rattle.hk_manager.specs.Steps.{ManagerStepped, manager_step}

-- Letters stand in the order in which they were sent, and are never taken away: one that is lost is not received, and one may be
-- received again. Learned views stand in the order of their epochs.
pub record Council : Type 0 where
  pub manager : ℕ → ManagerState
  pub stopped : ℕ → Bool
  pub sent : List Letter
  pub learned : List View

-- A manager makes a step. Nodes send letters. A manager stops for good.
pub data Event : Type 0 where
  Step : (manager : ℕ) → (event : ManagerEvent) → Event
  Post : (letters : List Letter) → Event
  Stop : (manager : ℕ) → Event

-- the epoch of the last view
abbrev pub last_epoch : List View → ℕ
last_epoch [] = 0
last_epoch (view ∷ []) = view.epoch
last_epoch (view ∷ next ∷ later) = last_epoch (next ∷ later)

-- a view is learned where its epoch is greater than that of the last one
abbrev pub learned_with : List View → View → List View
learned_with views view = if nat_lt (last_epoch views) view.epoch then views ++ view ∷ [] else views

-- what a step makes of the council: its letters are sent, and the view that is held then is learned
abbrev pub stepped_by : Council → ℕ → Result ManagerStepped ManagerFault → Council
stepped_by c m (Err fault) = c
stepped_by c m (Ok stepped) = record c { manager = put m stepped.manager c.manager; sent = c.sent ++ stepped.letters; learned = learned_with c.learned stepped.manager.held }

abbrev pub next : Council → Event → Council
next c (Step m event) = stepped_by c m (manager_step (c.manager m) event)
next c (Post letters) = record c { sent = c.sent ++ letters }
next c (Stop m) = record c { stopped = put m true c.stopped }

abbrev pub IsNode : Actor → Type 0
IsNode (Node node) = ⊤
IsNode (Manager manager) = ⊥

-- a manager may be given any letter that was ever sent
abbrev pub WasSent : Council → ManagerEvent → Type 0
WasSent c (Receive letter) = In c.sent letter
WasSent c (Propose base change) = ⊤
WasSent c Activate = ⊤
WasSent c (Tick now) = ⊤

module _ (managers : ℕ) where
  -- a manager that did not stop
  pub record IsUp (c : Council) (m : ℕ) : Type 0 where
    pub known : m < managers
    pub running : c.stopped m ≡ false

  -- managers that did not stop make steps, and nodes send letters in no manager's name
  abbrev pub MayHappen : Council → Event → Type 0
  MayHappen c (Step m event) = IsUp c m × WasSent c event
  MayHappen c (Post letters) = (letter : Letter) → In letters letter → IsNode letter.from
  MayHappen c (Stop m) = ⊤

  abbrev pub IsRun : Council → List Event → Type 0
  IsRun c [] = ⊤
  IsRun c (event ∷ events) = MayHappen c event × IsRun (next c event) events

abbrev pub last_council : Council → List Event → Council
last_council c [] = c
last_council c (event ∷ events) = last_council (next c event) events

-- all managers hold the first view, and nothing was sent
abbrev pub start : (managers lease : ℕ) → View → Council
start managers lease first = record { manager = λ m. manager_new m managers first lease; stopped = λ m. false; sent = []; learned = first ∷ [] }
