-- Whether tickets rise, as it is looked at.
use Rattle.std.specs.Prelude.{ℕ, List, [], ◌∷◌, Bool, true, false, Option, Some, None, nat_lt, if◌then◌else◌}
use Rattle.hk_journal.specs.declared.step_entry.JournalEntry.{JournalEntry}

abbrev pub is_above : Option ℕ → ℕ → Bool
is_above None ticket = true
is_above (Some last) ticket = nat_lt last ticket

-- the tickets rise from the last one on
abbrev pub rises_above : Option ℕ → List JournalEntry → Bool
rises_above last [] = true
rises_above last (entry ∷ entries) = if is_above last entry.ticket then rises_above (Some entry.ticket) entries else false
