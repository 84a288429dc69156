-- The tickets of a key rise with those of the journal, and which of them is the last up to a moment.
use Rattle.std.proofs.Common.{◌≡◌, ◌≢◌, ℕ, zero, suc, ◌+◌, ◌-◌, ◌≤◌, ◌<◌, List, [], ◌∷◌, ◌++◌, length, map, Bool, true, false, cond, leb, Option, None, Some, refl, sym, ap, ◌∙◌, arith, get_or}
use Rattle.std.specs.Prelude.{⊤}
use Rattle.std.specs.Ordering.{is_eq}
use Rattle.std.specs.Option.{option_or}
use Rattle.std.specs.List.{filter, AllByRecursion, AllWithin}
use Rattle.std.specs.List.Sorted.{IsNonDecreasingBy}
use Rattle.hk_copy.specs.Batches.{key_cmp}
use Rattle.hk_key.specs.declared.row.Row.{Row}
use Rattle.hk_node.specs.Node.{NodeState}
use Rattle.hk_journal.specs.declared.step_entry.JournalEntry.{JournalEntry}
use Rattle.hk_journal.specs.Journal.{ShownRow, call_of, changed, after, published, IsBelow, AreRising}
use Rattle.hk_place.specs.Past.{tickets_of, last_upto}

-- ---- lists that rise
abbrev AllFrom : ℕ → List ℕ → Type 0
AllFrom low ts = AllByRecursion (λ t. low ≤ t) ts

abbrev Rise : List ℕ → Type 0
Rise [] = ⊤
Rise (t ∷ ts) = AllFrom t ts × Rise ts

from_at : (low : ℕ) (ts : List ℕ) (i d : ℕ) → AllFrom low ts → i < length ts → low ≤ get_or ts i d
from_at low [] i d all l = absurd (omega (arith, l))
from_at low (t ∷ ts) zero d all l = all.0
from_at low (t ∷ ts) (suc i) d all l = from_at low ts i d all.1 (omega (arith, l))

pub rise_by_place : (ts : List ℕ) → Rise ts → IsNonDecreasingBy (λ (t : ℕ). t) ts
rise_by_place [] rise i j d le l = absurd (omega (arith, l))
rise_by_place (t ∷ ts) rise zero zero d le l = omega arith
rise_by_place (t ∷ ts) rise zero (suc j) d le l = from_at t ts j d rise.0 (omega (arith, l))
rise_by_place (t ∷ ts) rise (suc i) zero d le l = absurd (omega (arith, le))
rise_by_place (t ∷ ts) rise (suc i) (suc j) d le l = rise_by_place ts rise.1 i j d (omega (arith, le)) (omega (arith, l))

-- ---- the tickets of a key
abbrev ticket_of : ShownRow → ℕ
ticket_of s = s.ticket

abbrev shown : JournalEntry → List ℕ × Row → ShownRow
shown entry r = record { key = r.0; row = r.1; ticket = entry.ticket; call = call_of entry.event }

abbrev is_key : List ℕ → ShownRow → Bool
is_key k s = is_eq (key_cmp s.key k)

-- those of one step stand before others
module _ (k : List ℕ) (entry : JournalEntry) (rest : List ShownRow) where
  abbrev with_rest : List (List ℕ × Row) → List ℕ
  with_rest rows = map ticket_of (filter (is_key k) (map (shown entry) rows) ++ rest)

  all_with : (low : ℕ) → low ≤ entry.ticket → AllFrom low (map ticket_of rest) → (rows : List (List ℕ × Row)) → AllFrom low (with_rest rows)
  all_with low le all [] = all
  all_with low le all (r ∷ rows) = by_test (is_eq (key_cmp r.0 k)) (all_with low le all rows)
    where
      by_test : (b : Bool) → AllFrom low (with_rest rows) → AllFrom low (map ticket_of (cond b (shown entry r ∷ filter (is_key k) (map (shown entry) rows)) (filter (is_key k) (map (shown entry) rows)) ++ rest))
      by_test true more = (le, more)
      by_test false more = more

  rise_with : AllFrom entry.ticket (map ticket_of rest) → Rise (map ticket_of rest) → (rows : List (List ℕ × Row)) → Rise (with_rest rows)
  rise_with all rise [] = rise
  rise_with all rise (r ∷ rows) = by_test (is_eq (key_cmp r.0 k)) (rise_with all rise rows)
    where
      by_test : (b : Bool) → Rise (with_rest rows) → Rise (map ticket_of (cond b (shown entry r ∷ filter (is_key k) (map (shown entry) rows)) (filter (is_key k) (map (shown entry) rows)) ++ rest))
      by_test true more = (all_with entry.ticket (omega arith) all rows, more)
      by_test false more = more

below_more : (low : ℕ) (entry : JournalEntry) (journal : List JournalEntry) → low < entry.ticket → IsBelow entry.ticket journal → IsBelow low journal
below_more low entry [] l below = tt
below_more low entry (next ∷ journal) l below = omega (arith, l, below)

module _ (k : List ℕ) where
  all_above : (low : ℕ) (base : NodeState) (journal : List JournalEntry) → IsBelow low journal → AreRising journal → AllFrom low (tickets_of base journal k)
  all_above low base [] below rising = tt
  all_above low base (entry ∷ journal) below rising =
      all_with k entry (published (λ q. is_eq (key_cmp q k)) (after base entry) journal) low (omega (arith, below))
      (all_above low (after base entry) journal (below_more low entry journal below rising.0) rising.1) (changed base.rows (after base entry).rows)

  pub tickets_rise : (base : NodeState) (journal : List JournalEntry) → AreRising journal → Rise (tickets_of base journal k)
  tickets_rise base [] rising = tt
  tickets_rise base (entry ∷ journal) rising =
      rise_with k entry (published (λ q. is_eq (key_cmp q k)) (after base entry) journal) (all_above entry.ticket (after base entry) journal rising.0 rising.1)
      (tickets_rise (after base entry) journal rising.1) (changed base.rows (after base entry).rows)

-- ---- the last up to a moment
abbrev pub last_at : List ℕ → ℕ → Option ℕ
last_at ts zero = None
last_at ts (suc n) = Some (get_or ts n 0)

abbrev Passes : ℕ → ℕ → Type 0
Passes moment t = leb t moment ≡ true

abbrev Fails : ℕ → ℕ → Type 0
Fails moment t = leb t moment ≡ false

with_first : (moment t : ℕ) (ts : List ℕ) (n : ℕ) → leb t moment ≡ true → option_or (last_at ts n) (cond (leb t moment) (Some t) None) ≡ last_at (t ∷ ts) (suc n)
with_first moment t ts zero e = ap (λ (b : Bool). cond b (Some t) None) e
with_first moment t ts (suc n) e = refl

pub last_is : (moment : ℕ) (ts : List ℕ) (n : ℕ) → n ≤ length ts → AllWithin (Passes moment) ts 0 n → AllWithin (Fails moment) ts n (length ts) → last_upto moment ts ≡ last_at ts n
last_is moment [] zero le front back = refl
last_is moment [] (suc n) le front back = absurd (omega (arith, le))
last_is moment (t ∷ ts) zero le front back =
    let none : last_upto moment ts ≡ None = last_is moment ts zero (omega arith) (λ i d low high. absurd (omega (arith, high))) (λ i d low high. back (suc i) d (omega arith) (omega (arith, high))) in
    let far : leb t moment ≡ false = back 0 0 (omega arith) (omega arith) in
    ap (λ (o : Option ℕ). option_or o (cond (leb t moment) (Some t) None)) none ∙ ap (λ (b : Bool). cond b (Some t) None) far
last_is moment (t ∷ ts) (suc n) le front back =
    let rest : last_upto moment ts ≡ last_at ts n =
    last_is moment ts n (omega (arith, le)) (λ i d low high. front (suc i) d (omega arith) (omega (arith, high))) (λ i d low high. back (suc i) d (omega (arith, low)) (omega (arith, high))) in
    let near : leb t moment ≡ true = front 0 0 (omega arith) (omega arith) in
    ap (λ (o : Option ℕ). option_or o (cond (leb t moment) (Some t) None)) rest ∙ with_first moment t ts n near

pub last_none : (ts : List ℕ) (n : ℕ) → n ≡ 0 → None ≡ last_at ts n
last_none ts zero e = refl
last_none ts (suc n) e = absurd (omega (arith, e))

pub last_some : (ts : List ℕ) (n : ℕ) → n ≢ 0 → Some (get_or ts (n - 1) 0) ≡ last_at ts n
last_some ts zero some = absurd (some refl)
last_some ts (suc n) some = let before : suc n - 1 ≡ n = omega arith in ap (λ (m : ℕ). Some (get_or ts m 0)) before
