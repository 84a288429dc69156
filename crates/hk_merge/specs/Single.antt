-- There is one merged list at most; and the rule with "earlier" for "no later" would be wrong.
use Rattle.std.specs.Prelude.{◌≡◌, ℕ, List, max, Option, Some, None, nat_lt, if◌then◌else◌}
use Rattle.std.specs.declared.cmp.Ordering.TheVariants.{Less}
use Rattle.hk_journal.specs.declared.step_entry.JournalEntry.{JournalEntry}
use Rattle.hk_merge.specs.declared.note.Note.{Note}
use Rattle.hk_merge.specs.Merged.{JournalList, Item, AreMerged, entry_place, place_before, place_behind, place_cmp}

abbrev pub MergedIsSingle : Type 0
MergedIsSingle = (journals : JournalList) (notes : List Note) (xs ys : List Item) → AreMerged journals notes xs → AreMerged journals notes ys → xs ≡ ys

-- the other rule: directly before the next entry only where its ticket is lower
abbrev pub early_place_at : Option JournalEntry → ℕ → ℕ → Note → List ℕ
early_place_at None late listed note = place_behind late listed note
early_place_at (Some next) late listed note = if nat_lt next.ticket late then place_before next.ticket listed note else place_behind late listed note

-- a note whose own ticket is that of the next entry of its key would stand behind that entry, which may have changed the row
abbrev pub EarlyRuleFails : Type 0
EarlyRuleFails = (next : JournalEntry) (listed : ℕ) (note : Note) → next.ticket ≡ max note.own note.ticket →
    place_cmp (entry_place note.node next) (early_place_at (Some next) (max note.own note.ticket) listed note) ≡ Less
