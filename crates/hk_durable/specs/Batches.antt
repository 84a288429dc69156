-- What becomes of the managers of one number while they make a batch of steps.
use Rattle.std.specs.Prelude.{◌≡◌, ◌⊎◌, ◌<◌, ◌≤◌, ⊤, ℕ, suc, ◌+◌, Bool, false, nat_lt, List, [], ◌∷◌, ◌++◌, map, length, if◌then◌else◌, Option, Some, None, Result, Ok, Err, slice_set}
use Rattle.std.specs.List.{slice_get, AllByRecursion}
use Rattle.hk_base.specs.declared.letter.Letter.{Letter}
use Rattle.hk_base.specs.declared.time.TheConstants.{MAX_TIME}
use Rattle.hk_base.specs.Range.{IsLetter}
use Rattle.hk_base.specs.Lengths.{IsInRange}
use Rattle.hk_lease.specs.Wait.{wait}
use Rattle.hk_link.specs.declared.parcel.Parcel.{Parcel}
use Rattle.hk_log.specs.declared.entry.Entry.{Entry}
use Rattle.hk_log.specs.declared.entry.Entry.TheVariants as entry
use Rattle.hk_log.specs.Entries.{is_of_paxos}
use Rattle.hk_manager.specs.declared.event.ManagerEvent.{ManagerEvent}
use Rattle.hk_manager.specs.declared.event.ManagerEvent.TheVariants.{Propose, Receive, Activate, Tick}
use Rattle.hk_manager.specs.declared.fault.ManagerFault.{ManagerFault}
use Rattle.hk_manager.specs.declared.fault.ManagerFault.TheVariants.{Memory}
use Rattle.hk_manager.specs.Manager.{ManagerState}
use Rattle.hk_manager.specs.Sound.{IsManager}
use Rattle.hk_manager.specs.Steps.{ManagerStepped, manager_step, manager_ticks}
use Rattle.hk_durable.specs.declared.batch.Intent.{Intent}
use Rattle.hk_durable.specs.declared.batch.Intent.TheVariants as intent

-- the managers, by their shards; what is to be logged, notes and the last steps; and the letters of these steps, each list with its
-- shard
pub record BatchState : Type 0 where
  pub managers : List ManagerState
  pub entries : List Entry
  pub unsaid : List (ℕ × List Letter)

-- eight managers of one number, whose leases have one length
pub record AreManagers (id lease : ℕ) (managers : List ManagerState) : Type 0 where
  pub few : id < 9
  pub within : lease ≤ MAX_TIME
  pub eight : length managers ≡ 8
  pub sound : AllByRecursion IsManager managers
  pub number : AllByRecursion (λ m. m.id ≡ id) managers
  pub leases : AllByRecursion (λ m. m.lease ≡ lease) managers

-- What a manager logs beside its steps: that the group was founded, that it was opened, that a number was bound.
abbrev pub IsNote : Entry → Type 0
IsNote (entry.Founded founding) = ⊤
IsNote entry.Open = ⊤
IsNote (entry.Bound actor ticket) = ⊤
IsNote (entry.Propose shard base change) = ⊥
IsNote (entry.Receive shard letter) = ⊥

-- where no step waits, notes alone do
abbrev pub AreNotesAlone : List Entry → List (ℕ × List Letter) → Type 0
AreNotesAlone entries [] = AllByRecursion IsNote entries
AreNotesAlone entries (unsaid ∷ rest) = ⊤

-- letters in range, of one of eight shards
abbrev pub IsUnsaid : ℕ × List Letter → Type 0
IsUnsaid unsaid = (unsaid.0 < 8) × AllByRecursion IsLetter unsaid.1

-- all clocks rise to this reading
abbrev pub ticked : ℕ → List ManagerState → List ManagerState
ticked now managers = map (λ m. (manager_ticks m now).manager) managers

abbrev pub with_clocks : ℕ → BatchState → BatchState
with_clocks now b = record b { managers = ticked now b.managers }

-- ---- a step
-- the manager of the shard made the step of the event, and sends these letters
pub record IsStepAt (shard : ℕ) (event : ManagerEvent) (before : List ManagerState) (letters : List Letter) (after : List ManagerState) : Type 0 where
  pub manager : ManagerState
  pub there : slice_get before shard ≡ Some manager
  pub stepped : ManagerStepped
  pub made : manager_step manager event ≡ Ok stepped
  pub after_it : after ≡ slice_set before shard stepped.manager
  pub sends : letters ≡ stepped.letters

-- the manager of the shard refuses it, by this fault
pub record IsRefusedAt (shard : ℕ) (event : ManagerEvent) (fault : ManagerFault) (managers : List ManagerState) : Type 0 where
  pub manager : ManagerState
  pub there : slice_get managers shard ≡ Some manager
  pub refused : manager_step manager event ≡ Err fault

-- a call that tells a fault tells that by which the step is refused, or that memory was wanting
abbrev pub IsRefusal : Result (List Letter) ManagerFault → ℕ → ManagerEvent → List ManagerState → Type 0
IsRefusal (Ok letters) shard event managers = ⊤
IsRefusal (Err Memory) shard event managers = ⊤
IsRefusal (Err fault) shard event managers = IsRefusedAt shard event fault managers

-- what is logged of a step: a proposal, or a letter of Paxos that was taken
abbrev pub entries_of : ℕ → ManagerEvent → List Entry
entries_of shard (Propose base change) = entry.Propose shard base change ∷ []
entries_of shard (Receive letter) = if is_of_paxos letter.body then entry.Receive shard letter ∷ [] else []
entries_of shard Activate = []
entries_of shard (Tick now) = []

-- The step was made: what of it is logged waits for that, and so do its letters.
pub record IsMade (shard : ℕ) (event : ManagerEvent) (before after : BatchState) : Type 0 where
  pub letters : List Letter
  pub step : IsStepAt shard event before.managers letters after.managers
  pub entries : after.entries ≡ before.entries ++ entries_of shard event
  pub unsaid : after.unsaid ≡ before.unsaid ++ (shard, letters) ∷ []

-- or it was refused, or memory was wanting, and nothing happened
abbrev pub IsMadeOrNot : ℕ → ManagerEvent → BatchState → BatchState → Type 0
IsMadeOrNot shard event before after = IsMade shard event before after ⊎ (after ≡ before)

-- events whose letters are in range, also for a frame
abbrev pub IsGivenEvent : ManagerEvent → Type 0
IsGivenEvent (Propose base change) = ⊤
IsGivenEvent (Receive letter) = IsInRange letter
IsGivenEvent Activate = ⊤
IsGivenEvent (Tick now) = now ≤ MAX_TIME

abbrev pub list_of : {A : Type 0} → Option A → List A
list_of None = []
list_of (Some x) = x ∷ []

-- ---- a batch
-- the manager of each parcel's shard takes its letter, one after the other
abbrev pub TakeAll : List Parcel → BatchState → BatchState → Type 0
TakeAll [] before after = after ≡ before
TakeAll (parcel ∷ parcels) before after = (between : BatchState) × IsMadeOrNot parcel.shard (Receive parcel.letter) before between × TakeAll parcels between after

-- A manager lets no view begin before its clock reads more than 1 and the wait. By then each lease has ended that it granted before it returned: also one for
-- a view that its log lost, and that it came to hold again since.
abbrev pub may_begin : Option ManagerState → Bool
may_begin (Some m) = nat_lt (1 + wait m.lease) m.clock
may_begin None = false

-- what a manager is to do of itself, if anything
abbrev pub event_of : Bool → Intent → Option ManagerEvent
event_of may intent.Nothing = None
event_of may (intent.Propose base change) = Some (Propose base change)
event_of may intent.Activate = if may then Some Activate else None

abbrev pub IsFulfilled : ℕ → Option ManagerEvent → BatchState → BatchState → Type 0
IsFulfilled shard None before after = after ≡ before
IsFulfilled shard (Some event) before after = IsMadeOrNot shard event before after

-- the managers from a shard on do what they are to do, one after the other
abbrev pub FulfilFrom : ℕ → List Intent → BatchState → BatchState → Type 0
FulfilFrom shard [] before after = after ≡ before
FulfilFrom shard (i ∷ intents) before after = (between : BatchState) × IsFulfilled shard (event_of (may_begin (slice_get before.managers shard)) i) before between × FulfilFrom (suc shard) intents between after

-- nothing waits
abbrev pub at_rest : List ManagerState → BatchState
at_rest managers = record { managers = managers; entries = []; unsaid = [] }
