-- With what a host's manager begins, by its log.
use Rattle.std.specs.Prelude.{◌≡◌, ⊤, ℕ, List, [], replicate, slice_get, false, if◌then◌else◌, Option, None, Some, Result, Ok, Err}
use Rattle.hk_base.specs.declared.view.View.{View}
use Rattle.hk_fields.specs.declared.hosts.HostTickets.{HostTickets}
use Rattle.hk_log.specs.declared.entry.Founding.{Founding}
use Rattle.hk_log.specs.declared.entry.Entry.{Entry}
use Rattle.hk_disk.specs.Writing.{IsSureLog}
use Rattle.hk_manager.specs.Manager.{ManagerState}
use Rattle.hk_manager.specs.Sound.{manager_new}
use Rattle.hk_restore.specs.declared.fault.RestoreFault.{RestoreFault}
use Rattle.hk_restore.specs.declared.fault.RestoreFault.TheVariants as faults
use Rattle.hk_restore.specs.declared.group.Terms.{Terms}
use Rattle.hk_restore.specs.declared.group.RestoredGroup.{RestoredGroup}
use Rattle.hk_restore.specs.declared.group.Restored.{Restored}
use Rattle.hk_restore.specs.Restoring.{restored}
use Rattle.hk_office.specs.declared.office.Office.{Office}
use Rattle.hk_office.specs.declared.office.GroupLog.{GroupLog}
use Rattle.hk_office.specs.Office.{hosts_of, began}
use Rattle.hk_managing.specs.declared.begin.BeginFault.{BeginFault}
use Rattle.hk_managing.specs.declared.begin.BeginFault.TheVariants.{Memory, Failed, Damaged, DoesNotReplay, OfHost, OtherTerms}
use Rattle.hk_managing.specs.declared.begin.Begun.{Begun}
use Rattle.hk_managing.specs.Turns.{LogTells}

-- ---- the office

-- what the log has of the group
abbrev pub group_log : Option RestoredGroup → GroupLog
group_log None = record { founding = None; is_open = false; bindings = [] }
group_log (Some g) = record { founding = Some g.founding; is_open = g.is_open; bindings = g.bindings }

-- A founding names its hosts' managers by the tickets that they had: a manager that returns is the one that was founded. Its node does not return, and has the new
-- ticket of its process.
abbrev pub tickets_by : Option HostTickets → HostTickets → HostTickets
tickets_by None drawn = drawn
tickets_by (Some host) drawn = record { manager = host.manager; node = drawn.node }

abbrev pub own_tickets : ℕ → HostTickets → Option Founding → HostTickets
own_tickets place drawn founding = tickets_by (slice_get (hosts_of founding) place) drawn

abbrev pub office_by : Terms → HostTickets → GroupLog → ℕ → Office
office_by t drawn logged now = began t (own_tickets t.place drawn logged.founding) logged now

-- ---- the cores

-- They hold the first view, and made no step.
abbrev pub new_cores : Terms → View → List ManagerState
new_cores t first = replicate 8 (manager_new t.place t.managers first t.lease)

-- Where the group is open they are those that return.
abbrev pub cores_by : Terms → View → Option RestoredGroup → List ManagerState
cores_by t first None = new_cores t first
cores_by t first (Some g) = if g.is_open then g.managers else new_cores t first

-- ---- both, by what the log gives

abbrev pub begun_by : Terms → HostTickets → View → ℕ → Restored → Begun
begun_by t drawn first now found = record {
  office = office_by t drawn (group_log found.group) now;
  managers = cores_by t first found.group;
  records = found.records;
}

-- ---- what is answered

-- a fault of the log's records
abbrev pub told_as : RestoreFault → BeginFault
told_as faults.Memory = Memory
told_as (faults.DoesNotReplay at) = DoesNotReplay at
told_as (faults.OfHost host of) = OfHost host of
told_as (faults.OtherTerms lease skew) = OtherTerms lease skew

-- a fault of the file, or want of memory
abbrev pub IsOfFile : BeginFault → Type 0
IsOfFile Memory = ⊤
IsOfFile Failed = ⊤
IsOfFile (Damaged at) = ⊤
IsOfFile (DoesNotReplay at) = ⊥
IsOfFile (OfHost host of) = ⊥
IsOfFile (OtherTerms lease skew) = ⊥

-- what the log gives, or just its fault; or memory was wanting
abbrev pub IsBegun : Result Begun BeginFault → Terms → HostTickets → View → ℕ → Result Restored RestoreFault → Type 0
IsBegun (Ok begun) t drawn first now due = (found : Restored) × (due ≡ Ok found) × (begun ≡ begun_by t drawn first now found)
IsBegun (Err Memory) t drawn first now due = ⊤
IsBegun (Err Failed) t drawn first now due = ⊥
IsBegun (Err (Damaged at)) t drawn first now due = ⊥
IsBegun (Err (DoesNotReplay at)) t drawn first now due = due ≡ Err (faults.DoesNotReplay at)
IsBegun (Err (OfHost host of)) t drawn first now due = due ≡ Err (faults.OfHost host of)
IsBegun (Err (OtherTerms lease skew)) t drawn first now due = due ≡ Err (faults.OtherTerms lease skew)

-- The file has some records, which are sure, and what begins is by these. The office is the one of which they tell.
pub record Begins {F : Type 0} (holds is_sure : F → List ℕ → Type 0) (t : Terms) (drawn : HostTickets) (first : View) (now : ℕ) (file : F) (check : List ℕ) (begun : Begun) : Type 0 where
  pub records : List (List Entry)
  pub sure : IsSureLog holds is_sure file check records
  pub found : Restored
  pub gives : restored t first records ≡ Ok found
  pub begins : begun ≡ begun_by t drawn first now found
  pub tells : LogTells records begun.office

-- a fault that is told of the log's records is that which some records give, the first one of theirs
abbrev pub ComesOf : Terms → View → RestoreFault → Type 0
ComesOf t first fault = (records : List (List Entry)) × (restored t first records ≡ Err fault)

abbrev pub IsExplained : Terms → View → {A : Type 0} → Result A BeginFault → Type 0
IsExplained t first (Ok begun) = ⊤
IsExplained t first (Err Memory) = ⊤
IsExplained t first (Err Failed) = ⊤
IsExplained t first (Err (Damaged at)) = ⊤
IsExplained t first (Err (DoesNotReplay at)) = ComesOf t first (faults.DoesNotReplay at)
IsExplained t first (Err (OfHost host of)) = ComesOf t first (faults.OfHost host of)
IsExplained t first (Err (OtherTerms lease skew)) = ComesOf t first (faults.OtherTerms lease skew)
