-- Managers that are made anew from their log.
use Rattle.std.specs.Prelude.{◌≡◌, ◌+◌, ⊤, ℕ, List, [], ◌∷◌, map, slice_set, Option, Some, None, Result, Ok, Err}
use Rattle.std.specs.List.{slice_get}
use Rattle.hk_base.specs.declared.stamp.NodeId.{NodeId}
use Rattle.hk_lease.specs.Wait.{wait}
use Rattle.hk_log.specs.declared.entry.Entry.{Entry}
use Rattle.hk_log.specs.declared.entry.Entry.TheVariants as entry
use Rattle.hk_manager.specs.declared.event.ManagerEvent.{ManagerEvent}
use Rattle.hk_manager.specs.declared.event.ManagerEvent.TheVariants.{Propose, Receive}
use Rattle.hk_manager.specs.Manager.{ManagerState}
use Rattle.hk_manager.specs.declared.fault.ManagerFault.{ManagerFault}
use Rattle.hk_manager.specs.declared.fault.ManagerFault.TheVariants.{Memory}
use Rattle.hk_manager.specs.Steps.{ManagerStepped, manager_step}
use Rattle.hk_return.specs.Log.{ask_of, manager_or, with_members, returned}
use Rattle.hk_durable.specs.Laws.{steps_in}

-- it notes the until of a lease that is granted now for each member of the view that it holds
abbrev pub noted : ManagerState → ManagerState
noted m = with_members m (m.clock + wait m.lease)

-- A manager takes asks for leases of these nodes, one after the other, each addressed to the number of this one.
abbrev pub TakesAsks : ManagerState → List NodeId → ManagerState → ManagerState → Type 0
TakesAsks addressee [] before after = after ≡ before
TakesAsks addressee (node ∷ nodes) before after = TakesAsks addressee nodes (manager_or before (manager_step before (ask_of addressee node))) after

-- ---- a step that is made anew
abbrev pub manager_of : Result ManagerStepped ManagerFault → Result ManagerState ManagerFault
manager_of (Ok stepped) = Ok stepped.manager
manager_of (Err fault) = Err fault

-- A manager notes the until, and then makes the step of its log anew. Where it refuses that, the log is not its own.
abbrev pub anew : ManagerState → ManagerEvent → Result ManagerState ManagerFault
anew m event = manager_of (manager_step (noted m) event)

-- the manager of a shard becomes another one
abbrev pub with_manager : ℕ → List ManagerState → Result ManagerState ManagerFault → Result (List ManagerState) ManagerFault
with_manager shard managers (Ok m) = Ok (slice_set managers shard m)
with_manager shard managers (Err fault) = Err fault

abbrev pub anew_by : Option ManagerState → ℕ → ManagerEvent → List ManagerState → Result (List ManagerState) ManagerFault
anew_by (Some m) shard event managers = with_manager shard managers (anew m event)
anew_by None shard event managers = Ok managers

-- the manager of the shard does so; there is one for each of the eight shards
abbrev pub anew_at : ℕ → ManagerEvent → List ManagerState → Result (List ManagerState) ManagerFault
anew_at shard event managers = anew_by (slice_get managers shard) shard event managers

-- ---- entries that are taken up
-- the managers behind an entry of the log, or the fault by which one refuses its step; notes tell them nothing
abbrev pub taken_up : Entry → List ManagerState → Result (List ManagerState) ManagerFault
taken_up (entry.Founded founding) managers = Ok managers
taken_up entry.Open managers = Ok managers
taken_up (entry.Propose shard base change) managers = anew_at shard (Propose base change) managers
taken_up (entry.Receive shard letter) managers = anew_at shard (Receive letter) managers
taken_up (entry.Bound actor ticket) managers = Ok managers

abbrev pub up_to_fault : (List ManagerState → Result (List ManagerState) ManagerFault) → Result (List ManagerState) ManagerFault → Result (List ManagerState) ManagerFault
up_to_fault rest (Ok managers) = rest managers
up_to_fault rest (Err fault) = Err fault

-- behind entries, one after the other, or the first fault
abbrev pub all_taken_up : List Entry → List ManagerState → Result (List ManagerState) ManagerFault
all_taken_up [] managers = Ok managers
all_taken_up (e ∷ entries) managers = up_to_fault (λ between. all_taken_up entries between) (taken_up e managers)

-- What a call of the code answers: what is to come is there, or just this fault is told; or memory was wanting.
abbrev pub IsAnswered : {A : Type 0} → Result Unit ManagerFault → Result A ManagerFault → A → Type 0
IsAnswered (Ok done) due after = due ≡ Ok after
IsAnswered (Err Memory) due after = ⊤
IsAnswered (Err fault) due after = due ≡ Err fault

-- REPLAY IS THE RETURN: managers that took up the entries of their log, and noted the untils once more, are each the manager that returns by what the log tells of its shard.
abbrev pub ReplayIsReturn : Type 0
ReplayIsReturn = (entries : List Entry) (before after : List ManagerState) → all_taken_up entries before ≡ Ok after →
    (shard : ℕ) (m : ManagerState) → slice_get before shard ≡ Some m → slice_get (map noted after) shard ≡ Some (returned m (steps_in shard entries))
