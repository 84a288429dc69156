-- What finds the entries of a journal that notes ask for: the tickets of all, and by keys the tickets that are above all before them.
use Rattle.std.specs.Prelude.{◌≡◌, ℕ, List, [], ◌∷◌, ◌++◌, max, nat_lt, nat_le, Option, Some, None, if◌then◌else◌}
use Rattle.std.specs.Ordering.{nat_cmp}
use Rattle.std.specs.Option.{option_map}
use Rattle.std.specs.List.{find, list_any}
use Rattle.std.specs.BTreeMap.{insert_entry, is_at}
use Rattle.std.specs.Map.{lookup, set_value}
use Rattle.hk_copy.specs.Batches.{key_cmp}
use Rattle.hk_journal.specs.declared.step_entry.JournalEntry.{JournalEntry}
use Rattle.hk_merge.specs.declared.note.Note.{Note}
use Rattle.hk_merge.specs.Merged.{next_entry, place_before, place_behind}
use Rattle.hk_merge.specs.Placed.{is_founded}

-- with a ticket behind the others, unless one is not below it
abbrev pub put_above : Option ℕ → List ℕ → ℕ → List ℕ
put_above None tickets ticket = tickets ++ ticket ∷ []
put_above (Some found) tickets ticket = tickets

abbrev pub with_ticket : List ℕ → ℕ → List ℕ
with_ticket tickets ticket = put_above (find (nat_le ticket) tickets) tickets ticket

-- such tickets by keys
abbrev pub KeyTickets : Type 0
KeyTickets = List (List ℕ × List ℕ)

abbrev pub tickets_at : List ℕ → KeyTickets → Option (List ℕ)
tickets_at key kept = lookup (is_at (key_cmp key)) kept

abbrev pub put_at : Option (List ℕ) → KeyTickets → List ℕ → ℕ → KeyTickets
put_at None kept key ticket = insert_entry key_cmp kept key (ticket ∷ [])
put_at (Some tickets) kept key ticket = set_value (is_at (key_cmp key)) kept (with_ticket tickets ticket)

-- with an entry of that ticket, under the key that it names, if it names one
abbrev pub with_named : Option (List ℕ) → KeyTickets → ℕ → KeyTickets
with_named None kept ticket = kept
with_named (Some key) kept ticket = put_at (tickets_at key kept) kept key ticket

-- the first one behind a ticket
abbrev pub first_above : Option (List ℕ) → ℕ → Option ℕ
first_above None ticket = None
first_above (Some tickets) ticket = find (nat_lt ticket) tickets

abbrev pub next_ticket : List ℕ → ℕ → List JournalEntry → Option ℕ
next_ticket key ticket journal = option_map (λ e. e.ticket) (next_entry key ticket journal)

-- what is kept tells of each ticket whether an entry has it, and of each key the ticket of its next entry
pub record IsIndexed (tickets : List ℕ) (kept : KeyTickets) (journal : List JournalEntry) : Type 0 where
  pub founded : (ticket : ℕ) → list_any (is_at (nat_cmp ticket)) tickets ≡ is_founded journal ticket
  pub next : (key : List ℕ) (ticket : ℕ) → first_above (tickets_at key kept) ticket ≡ next_ticket key ticket journal

-- where a note stands, by the ticket of the next entry of its key
abbrev pub place_by : Option ℕ → ℕ → Note → List ℕ
place_by None listed note = place_behind (max note.own note.ticket) listed note
place_by (Some next) listed note = if nat_le next (max note.own note.ticket) then place_before next listed note else place_behind (max note.own note.ticket) listed note
