-- What a log makes of a process that begins again.
use Rattle.std.specs.Prelude.{◌≡◌, ⊤, ℕ, List, [], ◌∷◌, ◌++◌, map, replicate, length, Bool, true, false, not, ◌&&◌, ◌==◌, if◌then◌else◌, Option, Some, None, Result, Ok, Err}
use Rattle.std.specs.Option.{option_map}
use Rattle.hk_base.specs.declared.letter.Actor.{Actor}
use Rattle.hk_base.specs.declared.view.View.{View}
use Rattle.hk_fields.specs.declared.tickets.Ticket.{Ticket}
use Rattle.hk_log.specs.declared.entry.Founding.{Founding}
use Rattle.hk_log.specs.declared.entry.Entry.{Entry}
use Rattle.hk_log.specs.declared.entry.Entry.TheVariants as entry
use Rattle.hk_log.specs.Records.{record_starts}
use Rattle.hk_manager.specs.declared.fault.ManagerFault.{ManagerFault}
use Rattle.hk_manager.specs.Manager.{ManagerState}
use Rattle.hk_manager.specs.Sound.{manager_new}
use Rattle.hk_durable.specs.Replays.{noted, taken_up}
use Rattle.hk_restore.specs.declared.fault.RestoreFault.{RestoreFault}
use Rattle.hk_restore.specs.declared.fault.RestoreFault.TheVariants.{Memory, DoesNotReplay, OfHost, OtherTerms}
use Rattle.hk_restore.specs.declared.group.Terms.{Terms}
use Rattle.hk_restore.specs.declared.group.RestoredGroup.{RestoredGroup}
use Rattle.hk_restore.specs.declared.group.Restored.{Restored}

-- the group so far, if one was founded; or why the log gives nothing
abbrev pub SoFar : Type 0
SoFar = Result (Option RestoredGroup) RestoreFault

-- ---- a founding
-- it was founded at this host
abbrev pub is_of_host : Terms → Founding → Bool
is_of_host t f = f.place == t.place && length f.hosts == t.managers

-- with this lease and this skew
abbrev pub has_terms : Terms → Founding → Bool
has_terms t f = f.lease == t.lease && f.skew == t.skew

abbrev pub founding_fault : Terms → Founding → Option RestoreFault
founding_fault t f =
    if not (is_of_host t f) then Some (OfHost f.place (length f.hosts))
    else (if not (has_terms t f) then Some (OtherTerms f.lease f.skew)
    else None)

-- the group that it begins: not open, with nothing bound, and with managers that hold the first view and made no step
abbrev pub begun : Terms → View → Founding → RestoredGroup
begun t view f = record { founding = f; is_open = false; bindings = []; managers = replicate 8 (manager_new t.place t.managers view t.lease) }

abbrev pub unless : Option RestoreFault → RestoredGroup → SoFar
unless (Some fault) group = Err fault
unless None group = Ok (Some group)

abbrev pub founded : Terms → View → Founding → SoFar
founded t view f = unless (founding_fault t f) (begun t view f)

-- ---- what stands behind it
-- a group is opened once
abbrev pub opened : ℕ → Option RestoredGroup → SoFar
opened at None = Err (DoesNotReplay at)
opened at (Some g) = if g.is_open then Err (DoesNotReplay at) else Ok (Some (record g { is_open = true }))

abbrev pub bound : ℕ → Actor → Ticket → Option RestoredGroup → SoFar
bound at actor ticket None = Err (DoesNotReplay at)
bound at actor ticket (Some g) = Ok (Some (record g { bindings = g.bindings ++ record { actor = actor; ticket = ticket } ∷ [] }))

abbrev pub with_managers : ℕ → RestoredGroup → Result (List ManagerState) ManagerFault → SoFar
with_managers at g (Ok managers) = Ok (Some (record g { managers = managers }))
with_managers at g (Err fault) = Err (DoesNotReplay at)

-- an open group makes steps, where no manager refuses them
abbrev pub stepped : ℕ → Entry → Option RestoredGroup → SoFar
stepped at e None = Err (DoesNotReplay at)
stepped at e (Some g) = if g.is_open then with_managers at g (taken_up e g.managers) else Err (DoesNotReplay at)

-- ---- a log
-- An entry of the record that begins at a byte. A founding begins anew: what stands before it is of an earlier group.
abbrev pub behind_entry : Terms → View → ℕ → Entry → Option RestoredGroup → SoFar
behind_entry t view at (entry.Founded founding) group = founded t view founding
behind_entry t view at entry.Open group = opened at group
behind_entry t view at (entry.Bound actor ticket) group = bound at actor ticket group
behind_entry t view at (entry.Propose shard base change) group = stepped at (entry.Propose shard base change) group
behind_entry t view at (entry.Receive shard letter) group = stepped at (entry.Receive shard letter) group

abbrev pub up_to_fault : (Option RestoredGroup → SoFar) → SoFar → SoFar
up_to_fault rest (Ok group) = rest group
up_to_fault rest (Err fault) = Err fault

-- the entries of that record, one after the other, up to the first fault
abbrev pub behind_entries : Terms → View → ℕ → List Entry → Option RestoredGroup → SoFar
behind_entries t view at [] group = Ok group
behind_entries t view at (e ∷ entries) group = up_to_fault (λ next. behind_entries t view at entries next) (behind_entry t view at e group)

-- records that begin at these bytes, likewise
abbrev pub behind_records : Terms → View → List (List Entry) → List ℕ → Option RestoredGroup → SoFar
behind_records t view [] starts group = Ok group
behind_records t view (r ∷ records) [] group = Ok group
behind_records t view (r ∷ records) (at ∷ starts) group = up_to_fault (λ next. behind_records t view records starts next) (behind_entries t view at r group)

-- the managers note the until for each member of the view that they hold at the end
abbrev pub returns : RestoredGroup → RestoredGroup
returns g = record g { managers = map noted g.managers }

abbrev pub with_untils : Option RestoredGroup → Option RestoredGroup
with_untils group = option_map returns group

abbrev pub restored_with : ℕ → SoFar → Result Restored RestoreFault
restored_with count (Ok group) = Ok (record { group = with_untils group; records = count })
restored_with count (Err fault) = Err fault

-- WHAT A LOG GIVES, whose host has these terms and whose group began with this view; or the first fault
abbrev pub restored : Terms → View → List (List Entry) → Result Restored RestoreFault
restored t view records = restored_with (length records) (behind_records t view records (record_starts records) None)

-- ---- what the code answers
-- what is due, or just its fault; or memory was wanting
abbrev pub IsMade : Result Unit RestoreFault → SoFar → Option RestoredGroup → Type 0
IsMade (Ok done) due group = due ≡ Ok group
IsMade (Err Memory) due group = ⊤
IsMade (Err fault) due group = due ≡ Err fault

abbrev pub IsRestored : Result Restored RestoreFault → Result Restored RestoreFault → Type 0
IsRestored (Ok found) due = due ≡ Ok found
IsRestored (Err Memory) due = ⊤
IsRestored (Err fault) due = due ≡ Err fault
