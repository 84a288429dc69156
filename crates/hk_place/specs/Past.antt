-- When the rows of a node changed, by its journal.
use Rattle.std.specs.Prelude.{◌≡◌, ℕ, List, [], ◌∷◌, map, nat_le, Option, None, Some, unwrap_or, if◌then◌else◌}
use Rattle.std.specs.Ordering.{is_eq}
use Rattle.std.specs.Option.{option_or}
use Rattle.std.specs.BTreeMap.{is_at}
use Rattle.std.specs.Map.{lookup}
use Rattle.hk_copy.specs.Batches.{key_cmp}
use Rattle.hk_node.specs.Node.{NodeState}
use Rattle.hk_journal.specs.declared.step_entry.JournalEntry.{JournalEntry}
use Rattle.hk_journal.specs.Journal.{AreRising, published}

-- a node as it was, and what happened at it since
pub record Past : Type 0 where
  pub base : NodeState
  pub journal : List JournalEntry

-- the tickets of the steps that changed the row of the key, the first one first
abbrev pub tickets_of : NodeState → List JournalEntry → List ℕ → List ℕ
tickets_of base journal key = map (λ s. s.ticket) (published (λ k. is_eq (key_cmp k key)) base journal)

-- the last of some tickets that is not above the moment
abbrev pub last_upto : ℕ → List ℕ → Option ℕ
last_upto moment [] = None
last_upto moment (t ∷ tickets) = option_or (last_upto moment tickets) (if nat_le t moment then Some t else None)

-- the ticket of the last step up to the moment that changed the row of the key, if one did
abbrev pub last_change : Past → ℕ → List ℕ → Option ℕ
last_change past moment key = last_upto moment (tickets_of past.base past.journal key)

-- ---- found by their keys
abbrev pub KeyTickets : Type 0
KeyTickets = List (List ℕ × List ℕ)

abbrev pub tickets_in : KeyTickets → List ℕ → List ℕ
tickets_in kept key = unwrap_or (lookup (is_at (key_cmp key)) kept) []

-- by each key the tickets of the steps that changed its row
pub record IsIndex (kept : KeyTickets) (past : Past) : Type 0 where
  pub tickets : (key : List ℕ) → tickets_in kept key ≡ tickets_of past.base past.journal key
  pub rising : AreRising past.journal
