-- What finds a journal's entries finds them with one entry more.
use Rattle.std.proofs.Common.{◌≡◌, Ordering, Greater, Result, Ok, Err, OnOk, ℕ, List, [], ◌∷◌, ◌++◌, Bool, true, false, cond, ◌&&◌, ◌||◌, ◌==◌, nat_lt, nat_le, max, Option, Some, None, refl, sym, ap, ◌∙◌, arith}
use Rattle.std.specs.Ordering.{match_ordering, nat_cmp}
use Rattle.std.specs.Option.{option_or, option_map}
use Rattle.std.specs.List.{find, filter, list_any}
use Rattle.std.specs.BTreeMap.{is_at}
use Rattle.std.specs.BTreeMap.Range.{range_contains}
use Rattle.std.specs.BTreeSet.{insert_key}
use Rattle.std.specs.declared.ops.Bound.TheVariants.{Included, Excluded, Unbounded}
use Rattle.std.proofs.lemmas.Bool.{false≢true}
use Rattle.std.proofs.lemmas.Bool.Decides.{nat_tests}
use Rattle.std.proofs.lemmas.Option.{none-some}
use Rattle.std.proofs.lemmas.List.Folds.{find-append, list_any-append}
use Rattle.hk_copy.specs.Batches.{key_cmp}
use Rattle.hk_journal.specs.declared.step_entry.JournalEntry.{JournalEntry}
use Rattle.hk_node.specs.Laws.{key_of}
use Rattle.hk_merge.specs.declared.note.Note.{Note}
use Rattle.hk_merge.specs.Merged.{is_named, is_next, note_place_at}
use Rattle.hk_merge.specs.Placed.{is_founded}
use Rattle.hk_merge.specs.Indexed.{KeyTickets, put_above, with_ticket, tickets_at, put_at, with_named, first_above, next_ticket, place_by, IsIndexed}
use Rattle.hk_merge.proofs.Entries.{found_same, found_other, list_equal}
use Rattle.hk_merge.proofs.Settings.{itself, at_is, at_far, set_same, set_other}

-- ---- the first of a range
abbrev pub first_of : List ℕ → Option ℕ
first_of [] = None
first_of (x ∷ xs) = Some x

first_filtered : (p q : ℕ → Bool) → ((x : ℕ) → p x ≡ q x) → (xs : List ℕ) → first_of (filter p xs) ≡ find q xs
first_filtered p q same [] = refl
first_filtered p q same (x ∷ xs) = by_test (p x) (q x) (same x) (first_filtered p q same xs)
  where
    by_test : (a b : Bool) → a ≡ b → first_of (filter p xs) ≡ find q xs → first_of (cond a (x ∷ filter p xs) (filter p xs)) ≡ cond b (Some x) (find q xs)
    by_test true true e more = refl
    by_test false false e more = more
    by_test true false e more = absurd (false≢true (sym e))
    by_test false true e more = absurd (false≢true e)

and_true : (b : Bool) → (b && true) ≡ b
and_true true = refl
and_true false = refl

from_test : (ticket x : ℕ) → range_contains nat_cmp (Included ticket) Unbounded x ≡ nat_le ticket x
from_test ticket x = grind (arith, nat_tests)

above_test : (ticket x : ℕ) → range_contains nat_cmp (Excluded ticket) Unbounded x ≡ nat_lt ticket x
above_test ticket x = grind (arith, nat_tests)

pub first_from_is : (ticket : ℕ) (xs found : List ℕ) → filter (range_contains nat_cmp (Included ticket) Unbounded) xs ≡ found → first_of found ≡ find (nat_le ticket) xs
first_from_is ticket xs found is = ap first_of (sym is) ∙ first_filtered (range_contains nat_cmp (Included ticket) Unbounded) (nat_le ticket) (from_test ticket) xs

pub first_above_is : (ticket : ℕ) (xs found : List ℕ) → filter (range_contains nat_cmp (Excluded ticket) Unbounded) xs ≡ found → first_of found ≡ find (nat_lt ticket) xs
first_above_is ticket xs found is = ap first_of (sym is) ∙ first_filtered (range_contains nat_cmp (Excluded ticket) Unbounded) (nat_lt ticket) (above_test ticket) xs

-- ---- one ticket more
abbrev passing : ℕ → ℕ → Option ℕ
passing ticket x = cond (nat_lt ticket x) (Some x) None

or_none : {X : Type 0} (o : Option X) → option_or o None ≡ o
or_none None = refl
or_none (Some x) = refl

-- where none is above a ticket, and one is not below x, x is not above it
none_above : (ticket x y : ℕ) (xs : List ℕ) → find (nat_lt ticket) xs ≡ None → find (nat_le x) xs ≡ Some y → nat_lt ticket x ≡ false
none_above ticket x y [] none found = absurd (none-some y found)
none_above ticket x y (z ∷ xs) none found = by_tests (nat_lt ticket z) (nat_le x z) refl refl none found (none_above ticket x y xs)
  where
    by_tests : (a b : Bool) → nat_lt ticket z ≡ a → nat_le x z ≡ b → cond a (Some z) (find (nat_lt ticket) xs) ≡ None → cond b (Some z) (find (nat_le x) xs) ≡ Some y →
        (find (nat_lt ticket) xs ≡ None → find (nat_le x) xs ≡ Some y → nat_lt ticket x ≡ false) → nat_lt ticket x ≡ false
    by_tests true b is le none found more = absurd (none-some z (sym none))
    by_tests false true is le none found more = grind (arith, nat_tests)
    by_tests false false is le none found more = more none found

found_above : (xs : List ℕ) (x ticket : ℕ) → find (nat_lt ticket) (with_ticket xs x) ≡ option_or (find (nat_lt ticket) xs) (passing ticket x)
found_above xs x ticket = by_found (find (nat_le x) xs) refl
  where
    by_found : (o : Option ℕ) → find (nat_le x) xs ≡ o → find (nat_lt ticket) (put_above o xs x) ≡ option_or (find (nat_lt ticket) xs) (passing ticket x)
    by_found None is = find-append (nat_lt ticket) xs (x ∷ [])
    by_found (Some y) is = by_rest (find (nat_lt ticket) xs) refl
      where
        by_rest : (o : Option ℕ) → find (nat_lt ticket) xs ≡ o → o ≡ option_or o (passing ticket x)
        by_rest (Some z) e = refl
        by_rest None e = sym (ap (λ (b : Bool). cond b (Some x) None) (none_above ticket x y xs e is))

-- ---- under the key that an entry names
abbrev told : Option (List ℕ) → List ℕ → ℕ → ℕ → Option ℕ
told named key ticket x = cond (nat_lt ticket x && is_named named key) (Some x) None

never : (a : Bool) (x : ℕ) → cond (a && false) (Some x) None ≡ None
never true x = refl
never false x = refl

told_far : (k key : List ℕ) (ticket x : ℕ) → is_at (key_cmp key) k ≡ false → told (Some k) key ticket x ≡ None
told_far k key ticket x far = ap (λ (b : Bool). cond (nat_lt ticket x && b) (Some x) None) far ∙ never (nat_lt ticket x) x

told_near : (k key : List ℕ) (ticket x : ℕ) → is_at (key_cmp key) k ≡ true → told (Some k) key ticket x ≡ passing ticket x
told_near k key ticket x near = ap (λ (b : Bool). cond (nat_lt ticket x && b) (Some x) None) near ∙ ap (λ (b : Bool). cond b (Some x) None) (and_true (nat_lt ticket x))

module _ (kept : KeyTickets) (k key : List ℕ) (x ticket : ℕ) where
  put_near : key ≡ k → (o : Option (List ℕ)) → tickets_at k kept ≡ o → first_above (tickets_at k (put_at o kept k x)) ticket ≡ option_or (first_above o ticket) (passing ticket x)
  put_near at None is = ap (λ (o : Option (List ℕ)). first_above o ticket) (found_same key_cmp list_equal itself k (x ∷ []) kept)
  put_near at (Some xs) is = ap (λ (o : Option (List ℕ)). first_above o ticket) (set_same k (with_ticket xs x) kept xs is) ∙ found_above xs x ticket

  put_far : is_at (key_cmp key) k ≡ false → (o : Option (List ℕ)) → tickets_at key (put_at o kept k x) ≡ tickets_at key kept
  put_far far None = found_other key_cmp list_equal itself key k (x ∷ []) kept (at_far key k far)
  put_far far (Some xs) = set_other k (with_ticket xs x) key far kept

  put_told : first_above (tickets_at key (put_at (tickets_at k kept) kept k x)) ticket ≡ option_or (first_above (tickets_at key kept) ticket) (told (Some k) key ticket x)
  put_told = by_place (is_at (key_cmp key) k) refl
    where
      by_place : (b : Bool) → is_at (key_cmp key) k ≡ b → first_above (tickets_at key (put_at (tickets_at k kept) kept k x)) ticket ≡ option_or (first_above (tickets_at key kept) ticket) (told (Some k) key ticket x)
      by_place true e =
          let at : key ≡ k = at_is key k e in
          ap (λ (q : List ℕ). first_above (tickets_at q (put_at (tickets_at k kept) kept k x)) ticket) at
          ∙ (put_near at (tickets_at k kept) refl
          ∙ (ap (λ (q : List ℕ). option_or (first_above (tickets_at q kept) ticket) (passing ticket x)) (sym at)
          ∙ sym (ap (λ (o : Option ℕ). option_or (first_above (tickets_at key kept) ticket) o) (told_near k key ticket x e))))
      by_place false e =
          ap (λ (o : Option (List ℕ)). first_above o ticket) (put_far e (tickets_at k kept))
          ∙ (sym (or_none (first_above (tickets_at key kept) ticket)) ∙ sym (ap (λ (o : Option ℕ). option_or (first_above (tickets_at key kept) ticket) o) (told_far k key ticket x e)))

named_told : (kept : KeyTickets) (named : Option (List ℕ)) (key : List ℕ) (x ticket : ℕ) →
    first_above (tickets_at key (with_named named kept x)) ticket ≡ option_or (first_above (tickets_at key kept) ticket) (told named key ticket x)
named_told kept None key x ticket =
    sym (or_none (first_above (tickets_at key kept) ticket)) ∙ sym (ap (λ (o : Option ℕ). option_or (first_above (tickets_at key kept) ticket) o) (never (nat_lt ticket x) x))
named_told kept (Some k) key x ticket = put_told kept k key x ticket

-- ---- one entry more
abbrev ticket_of : JournalEntry → ℕ
ticket_of entry = entry.ticket

map_or : (o : Option JournalEntry) (b : Bool) (e : JournalEntry) → option_map ticket_of (option_or o (cond b (Some e) None)) ≡ option_or (option_map ticket_of o) (cond b (Some e.ticket) None)
map_or (Some x) b e = refl
map_or None true e = refl
map_or None false e = refl

next_more : (journal : List JournalEntry) (e : JournalEntry) (key : List ℕ) (ticket : ℕ) → next_ticket key ticket (journal ++ e ∷ []) ≡ option_or (next_ticket key ticket journal) (told (key_of e.event) key ticket e.ticket)
next_more journal e key ticket =
    ap (option_map ticket_of) (find-append (is_next key ticket) journal (e ∷ [])) ∙ map_or (find (is_next key ticket) journal) (is_next key ticket e) e

founded_more : (journal : List JournalEntry) (e : JournalEntry) (ticket : ℕ) → is_founded (journal ++ e ∷ []) ticket ≡ (is_founded journal ticket || (e.ticket == ticket))
founded_more journal e ticket = list_any-append (λ (x : JournalEntry). x.ticket == ticket) journal (e ∷ []) ∙ or_more (is_founded journal ticket) (e.ticket == ticket)
  where
    or_more : (a b : Bool) → (a || (b || false)) ≡ (a || b)
    or_more true b = refl
    or_more false true = refl
    or_more false false = refl

-- a ticket is among those with one more where it is that one, or was among them
abbrev pub AnyAfter : List ℕ → List ℕ → ℕ → Type 0
AnyAfter before after x = (q : ℕ) → list_any (is_at (nat_cmp q)) after ≡ cond (is_at (nat_cmp x) q) true (list_any (is_at (nat_cmp q)) before)

ticket_more : (a : Bool) (x q : ℕ) → cond (is_at (nat_cmp x) q) true a ≡ (a || (x == q))
ticket_more true x q = by_test (is_at (nat_cmp x) q)
  where
    by_test : (b : Bool) → cond b true true ≡ true
    by_test true = refl
    by_test false = refl
ticket_more false x q = grind (arith, nat_tests)

pub one_more : (before after : List ℕ) (kept : KeyTickets) (journal : List JournalEntry) (e : JournalEntry) → IsIndexed before kept journal → AnyAfter before after e.ticket →
    IsIndexed after (with_named (key_of e.event) kept e.ticket) (journal ++ e ∷ [])
one_more before after kept journal e is any = record {
  founded = λ ticket.
      any ticket ∙ (ticket_more (list_any (is_at (nat_cmp ticket)) before) e.ticket ticket
      ∙ (ap (λ (b : Bool). b || (e.ticket == ticket)) (is.founded ticket) ∙ sym (founded_more journal e ticket)));
  next = λ key ticket.
      named_told kept (key_of e.event) key e.ticket ticket
      ∙ (ap (λ (o : Option ℕ). option_or o (told (key_of e.event) key ticket e.ticket)) (is.next key ticket) ∙ sym (next_more journal e key ticket));
}

-- ---- a ticket that is above all others is put behind them
pub put_last : (xs : List ℕ) (x : ℕ) → find (nat_le x) xs ≡ None → insert_key nat_cmp xs x ≡ xs ++ x ∷ []
put_last [] x none = refl
put_last (y ∷ xs) x none = by_test (nat_le x y) refl none (put_last xs x)
  where
    greater : nat_le x y ≡ false → nat_cmp x y ≡ Greater
    greater e = grind (arith, nat_tests)

    by_test : (b : Bool) → nat_le x y ≡ b → cond b (Some y) (find (nat_le x) xs) ≡ None → (find (nat_le x) xs ≡ None → insert_key nat_cmp xs x ≡ xs ++ x ∷ []) → insert_key nat_cmp (y ∷ xs) x ≡ y ∷ (xs ++ x ∷ [])
    by_test true e some more = absurd (none-some y (sym some))
    by_test false e none more = ap (λ (o : Ordering). match_ordering o (x ∷ y ∷ xs) (y ∷ xs) (y ∷ insert_key nat_cmp xs x)) (greater e) ∙ ap (λ (l : List ℕ). y ∷ l) (more none)

pub ticket_put : (before after : List ℕ) (x : ℕ) → find (nat_le x) before ≡ None → after ≡ insert_key nat_cmp before x → after ≡ with_ticket before x
ticket_put before after x none put = put ∙ (put_last before x none ∙ sym (ap (λ (o : Option ℕ). put_above o before x) none))

pub on_ok : {T E : Type 0} {P Q : Type 0} (r : Result T E) → (P → Q) → OnOk r P → OnOk r Q
on_ok (Ok x) go p = go p
on_ok (Err e) go p = p

-- ---- where a note stands
pub placed_by : (o : Option JournalEntry) (listed : ℕ) (note : Note) → place_by (option_map ticket_of o) listed note ≡ note_place_at o (max note.own note.ticket) listed note
placed_by None listed note = refl
placed_by (Some next) listed note = refl
