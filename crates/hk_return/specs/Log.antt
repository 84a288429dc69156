-- A manager that keeps a log of what Paxos says, and is made anew from it.
use Rattle.std.specs.Prelude.{◌≡◌, ◌+◌, ◌≤◌, ⊤, ℕ, List, [], ◌∷◌, ◌++◌, take, map, Bool, true, false, Result, Ok, Err}
use Rattle.std.specs.List.{filter}
use Rattle.hk_base.specs.declared.stamp.NodeId.{NodeId}
use Rattle.hk_base.specs.declared.letter.Actor.TheVariants.{Node, Manager}
use Rattle.hk_base.specs.declared.letter.Letter.{Letter}
use Rattle.hk_base.specs.declared.letter.Body.{Body}
use Rattle.hk_base.specs.View.{is_member}
use Rattle.hk_paxos.specs.Run.{In}
use Rattle.hk_lease.specs.Wait.{wait}
use Rattle.hk_lease.specs.Grants.{until_of}
use Rattle.hk_manager.specs.declared.event.ManagerEvent.{ManagerEvent}
use Rattle.hk_manager.specs.declared.event.ManagerEvent.TheVariants.{Propose, Receive, Activate, Tick}
use Rattle.hk_manager.specs.declared.fault.ManagerFault.{ManagerFault}
use Rattle.hk_manager.specs.Manager.{ManagerState}
use Rattle.hk_manager.specs.Steps.{ManagerStepped, manager_step}
use Rattle.hk_log.specs.Entries.{is_of_paxos}
use Rattle.hk_return.specs.Machine.{with_all}

-- ---- what is logged
-- proposals, and letters of Paxos that come; no grant, no ACTIVATE, and no reading of the clock
abbrev pub is_logged : ManagerEvent → Bool
is_logged (Propose base change) = true
is_logged (Receive letter) = is_of_paxos letter.body
is_logged Activate = false
is_logged (Tick now) = false

-- ---- steps
-- the manager after a step, and the step's letters; a step that is refused changes nothing and sends none
abbrev pub manager_or : ManagerState → Result ManagerStepped ManagerFault → ManagerState
manager_or m (Ok stepped) = stepped.manager
manager_or m (Err fault) = m

abbrev pub letters_or : Result ManagerStepped ManagerFault → List Letter
letters_or (Ok stepped) = stepped.letters
letters_or (Err fault) = []

-- the manager after these steps, one after the other, and the letters of all
abbrev pub after : ManagerState → List ManagerEvent → ManagerState
after m [] = m
after m (event ∷ events) = after (manager_or m (manager_step m event)) events

abbrev pub letters_of : ManagerState → List ManagerEvent → List Letter
letters_of m [] = []
letters_of m (event ∷ events) = letters_or (manager_step m event) ++ letters_of (manager_or m (manager_step m event)) events

-- none of the steps is refused
abbrev pub IsTaken : Result ManagerStepped ManagerFault → Type 0
IsTaken (Ok stepped) = ⊤
IsTaken (Err fault) = ⊥

abbrev pub AreTaken : ManagerState → List ManagerEvent → Type 0
AreTaken m [] = ⊤
AreTaken m (event ∷ events) = IsTaken (manager_step m event) × AreTaken (manager_or m (manager_step m event)) events

-- ---- records
-- Each batch of steps is one record, and the log has of it what is logged. A log is looked at whole here: entry after entry.
abbrev pub steps_of : List (List ManagerEvent) → List ManagerEvent
steps_of [] = []
steps_of (batch ∷ batches) = batch ++ steps_of batches

abbrev pub logged : List ManagerEvent → List ManagerEvent
logged steps = filter is_logged steps

abbrev pub log_of : List (List ManagerEvent) → List ManagerEvent
log_of batches = logged (steps_of batches)

-- ---- the manager that returns
-- all that a manager knows but its clock and the untils
abbrev pub but_times : ManagerState → ManagerState
but_times m = record m { clock = 0; untils = [] }

-- the until is noted for each member of the view that it holds
abbrev pub with_members : ManagerState → ℕ → ManagerState
with_members m until = record m { untils = with_all m.untils m.held.members until }

-- So it becomes where it takes from each of them an ask for a lease, and the answers never go out.
abbrev pub ask_of : ManagerState → NodeId → ManagerEvent
ask_of m node = Receive (record { epoch = 0; from = Node node; to = Manager m.id; body = Body.LeaseAsk 0 })

abbrev pub NotedByAsks : Type 0
NotedByAsks = (m : ManagerState) → after m (map (ask_of m) m.held.members) ≡ with_members m (m.clock + wait m.lease)

-- THE MANAGER THAT RETURNS: it makes the steps of its log anew, from what it was at the very first, and notes the until of a lease that is
-- granted now for each member of each view that it comes to hold by them. Its clock begins anew, at 1.
abbrev pub returned : ManagerState → List ManagerEvent → ManagerState
returned m [] = with_members m (m.clock + wait m.lease)
returned m (entry ∷ log) =
    let noted = with_members m (m.clock + wait m.lease) in
    returned (manager_or noted (manager_step noted entry)) log

-- ---- a process
pub record Process : Type 0 where
  pub manager : ManagerState
  -- Batches of steps: those whose records are on the disk whatever happens, and behind them those of which a stop leaves some first ones.
  pub synced : List (List ManagerEvent)
  pub unsynced : List (List ManagerEvent)
  -- letters: those that are kept back until their record is synced, those that may go out, and those that went out
  pub kept_back : List Letter
  pub free : List Letter
  pub said : List Letter
  -- the manager as it was behind each batch, the last first, and at the very first
  pub was : List ManagerState

-- It makes the steps of a batch and writes their record; what it wrote is synced; a letter goes out, and may go out again; it notes an
-- until for the members of the view that it holds; it stops, with so many of the records left that were not synced, and is made anew.
pub data LogEvent : Type 0 where
  Batch : (steps : List ManagerEvent) → LogEvent
  Sync : LogEvent
  Say : (letter : Letter) → LogEvent
  Note : (until : ℕ) → LogEvent
  Return : (left : ℕ) → LogEvent

-- its first manager, and what becomes of it; a stop loses the letters in its memory
module _ (first : ManagerState) where
  abbrev pub next : Process → LogEvent → Process
  next p (Batch steps) =
      let m : ManagerState = after p.manager steps in
      record p { manager = m; unsynced = p.unsynced ++ steps ∷ []; kept_back = p.kept_back ++ letters_of p.manager steps; was = m ∷ p.was }
  next p Sync = record p { synced = p.synced ++ p.unsynced; unsynced = []; free = p.free ++ p.kept_back; kept_back = [] }
  next p (Say letter) = record p { said = letter ∷ p.said }
  next p (Note until) = record p { manager = with_members p.manager until }
  next p (Return left) = record p {
    manager = returned first (log_of (p.synced ++ take left p.unsynced));
    unsynced = take left p.unsynced;
    free = [];
    kept_back = [];
  }

  -- refused steps stand in no batch
  abbrev pub MayHappen : Process → LogEvent → Type 0
  MayHappen p (Batch steps) = AreTaken p.manager steps
  MayHappen p Sync = ⊤
  MayHappen p (Say letter) = In p.free letter
  MayHappen p (Note until) = ⊤
  MayHappen p (Return left) = ⊤

  abbrev pub IsRun : Process → List LogEvent → Type 0
  IsRun p [] = ⊤
  IsRun p (event ∷ events) = MayHappen p event × IsRun (next p event) events

  abbrev pub last_process : Process → List LogEvent → Process
  last_process p [] = p
  last_process p (event ∷ events) = last_process (next p event) events

  abbrev pub start : Process
  start = record { manager = first; synced = []; unsynced = []; kept_back = []; free = []; said = []; was = first ∷ [] }

  -- The letter is one of a step that it made behind these steps, and that stands next in them. What the clock and the untils were then
  -- is not in the log: the step is one of a manager that is that manager but for them.
  pub record IsSaidIn (steps : List ManagerEvent) (letter : Letter) : Type 0 where
    pub before : List ManagerEvent
    pub step : ManagerEvent
    pub later : List ManagerEvent
    pub stands : steps ≡ before ++ step ∷ later
    pub manager : ManagerState
    pub then : but_times manager ≡ but_times (after first (logged before))
    pub stepped : ManagerStepped
    pub made : manager_step manager step ≡ Ok stepped
    pub said : In stepped.letters letter

  -- By its log it is the manager that it is, but for its clock and untils. From whatever front of records a stop leaves behind the synced
  -- ones, it is made a manager that it was behind a batch. And each letter that went out is of a step of a synced batch, so that what that
  -- step made of it stands in each such log, and nothing that was said is taken back.
  pub record IsReplayed (p : Process) : Type 0 where
    pub same : but_times p.manager ≡ but_times (after first (log_of (p.synced ++ p.unsynced)))
    pub cuts : (left : ℕ) → (m : ManagerState) × In p.was m × (but_times m ≡ but_times (after first (log_of (p.synced ++ take left p.unsynced))))
    pub stays : (letter : Letter) → In p.said letter → IsSaidIn (steps_of p.synced) letter

-- LOGS ARE REPLAYED: so it is at the end of every run, and so at each moment, however often it stopped.
abbrev pub LogsAreReplayed : Type 0
LogsAreReplayed = (first : ManagerState) (events : List LogEvent) → IsRun first (start first) events → IsReplayed first (last_process first (start first) events)

-- What a manager that returns is: the manager of its log, with the clock that it begins with, and for each member of each view that it
-- came to hold by its log an until no earlier than that of a lease that is granted then.
pub record IsReturned (first : ManagerState) (steps : List ManagerEvent) : Type 0 where
  pub same : but_times (returned first (logged steps)) ≡ but_times (after first (logged steps))
  pub clock : (returned first (logged steps)).clock ≡ first.clock
  pub noted : (before later : List ManagerEvent) (node : NodeId) → logged steps ≡ before ++ later → is_member node (after first before).held.members ≡ true →
      first.clock + wait first.lease ≤ until_of (returned first (logged steps)).untils node

abbrev pub UntilsAreNotedAnew : Type 0
UntilsAreNotedAnew = (first : ManagerState) (steps : List ManagerEvent) → IsReturned first steps

-- GRANTS ARE COVERED: whoever was granted a lease by a letter that ever went out, for that node the manager notes an until anew at its
-- return, whatever a stop leaves of the log, no earlier than that of a lease that is granted then.
abbrev pub GrantsAreCovered : Type 0
GrantsAreCovered = (first : ManagerState) (events : List LogEvent) → IsRun first (start first) events → (letter : Letter) → In (last_process first (start first) events).said letter →
    (node : NodeId) (end : ℕ) → letter.to ≡ Node node → letter.body ≡ Body.LeaseGive end → (left : ℕ) →
    first.clock + wait first.lease ≤ until_of (returned first (log_of ((last_process first (start first) events).synced ++ take left (last_process first (start first) events).unsynced))).untils node
