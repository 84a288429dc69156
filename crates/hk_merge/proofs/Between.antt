-- Where a note stands.
use Rattle.std.proofs.Common.{◌≡◌, ◌⊎◌, ◌<◌, ◌≤◌, ◌+◌, ℕ, List, [], ◌∷◌, max, Bool, true, false, cond, ◌&&◌, nat_lt, nat_le, Option, Some, None, refl, sym, ap, subst, ◌∙◌, inl, inr, ltb, ltb-false, le_refl, arith, Ordering, Less, Equal, if◌then◌else◌}
use Rattle.std.specs.Ordering.{nat_cmp, is_eq, ordering_then}
use Rattle.std.specs.Cmp.Lexicographic.{slice_cmp}
use Rattle.std.specs.List.{AllByRecursion, find}
use Rattle.std.proofs.lemmas.Bool.{false≢true, and_parts}
use Rattle.std.proofs.lemmas.Cmp.{nat_cmp_total, nat_list_cmp_total, tied_itself}
use Rattle.hk_node.specs.Laws.{key_of}
use Rattle.hk_journal.specs.declared.step_entry.JournalEntry.{JournalEntry}
use Rattle.hk_merge.specs.declared.note.Note.{Note}
use Rattle.hk_merge.specs.Merged.{is_named, is_next, next_entry, entry_place, place_before, place_behind, note_place_at, place_cmp, In, Rises, NotesStandBetween}

-- ---- lists of numbers
less_is : (a b : ℕ) → a < b → nat_cmp a b ≡ Less
less_is a b lt = grind arith

pub by_head : (a b : ℕ) (xs ys : List ℕ) → a < b → place_cmp (a ∷ xs) (b ∷ ys) ≡ Less
by_head a b xs ys lt = ap (λ (o : Ordering). ordering_then o (slice_cmp nat_cmp xs ys)) (less_is a b lt)

pub same_head : (a b : ℕ) (xs ys : List ℕ) → a ≡ b → place_cmp xs ys ≡ Less → place_cmp (a ∷ xs) (b ∷ ys) ≡ Less
same_head a b xs ys e less = ap (λ (o : Ordering). ordering_then o (slice_cmp nat_cmp xs ys)) (ap (nat_cmp a) (sym e) ∙ tied_itself nat_cmp_total a) ∙ less

pub never_both : (a b : List ℕ) → place_cmp a b ≡ Less → place_cmp b a ≡ Less → ⊥
never_both a b ab ba = less_equal (sym (nat_list_cmp_total.trans a b a ab ba) ∙ tied_itself nat_list_cmp_total a)
  where
    less_equal : Less ≡ Equal → ⊥
    less_equal e = cc

-- ---- the next entry
pub named_itself : (o : Option (List ℕ)) (key : List ℕ) → o ≡ Some key → is_named o key ≡ true
named_itself o key e = ap (λ (p : Option (List ℕ)). is_named p key) e ∙ ap is_eq (tied_itself nat_list_cmp_total key)

-- the first that passes is no later than any other
pub first_is_least : (p : JournalEntry → Bool) (journal : List JournalEntry) (entry : JournalEntry) → Rises journal → In journal entry → p entry ≡ true →
    (next : JournalEntry) × (find p journal ≡ Some next) × (next.ticket ≤ entry.ticket)
first_is_least p [] entry rises is passes = absurd is
first_is_least p (e ∷ journal) entry rises is passes = by_test (p e) refl is (λ more. first_is_least p journal entry rises.1 more passes)
  where
    all_at : (es : List JournalEntry) → AllByRecursion (λ (x : JournalEntry). e.ticket < x.ticket) es → In es entry → e.ticket < entry.ticket
    all_at [] all i = absurd i
    all_at (x ∷ es) all (inl same) = subst (λ (y : JournalEntry). e.ticket < y.ticket) (sym same) all.0
    all_at (x ∷ es) all (inr more) = all_at es all.1 more

    by_test : (b : Bool) → p e ≡ b → (entry ≡ e) ⊎ In journal entry → (In journal entry → (next : JournalEntry) × (find p journal ≡ Some next) × (next.ticket ≤ entry.ticket)) →
        (next : JournalEntry) × (cond b (Some e) (find p journal) ≡ Some next) × (next.ticket ≤ entry.ticket)
    by_test true t (inl same) ih = (e, refl, subst (λ (y : JournalEntry). e.ticket ≤ y.ticket) (sym same) (le_refl e.ticket))
    by_test true t (inr more) ih = (e, refl, (let lt : e.ticket < entry.ticket = all_at journal rises.0 more in omega arith))
    by_test false t (inl same) ih = absurd (false≢true (sym t ∙ (ap p (sym same) ∙ passes)))
    by_test false t (inr more) ih = ih more

-- what is found passes
found_passes : (p : JournalEntry → Bool) (journal : List JournalEntry) (next : JournalEntry) → find p journal ≡ Some next → p next ≡ true
found_passes p [] next e = cc
found_passes p (x ∷ journal) next e = by_test (p x) refl e (found_passes p journal next)
  where
    by_test : (b : Bool) → p x ≡ b → cond b (Some x) (find p journal) ≡ Some next → (find p journal ≡ Some next → p next ≡ true) → p next ≡ true
    by_test true t is ih = let same : x ≡ next = cc in ap p (sym same) ∙ t
    by_test false t is ih = ih is

pub less_from : (a b : ℕ) → nat_lt a b ≡ true → a < b
less_from a b e = grind arith

at_most_from : (a b : ℕ) → nat_le a b ≡ true → a ≤ b
at_most_from a b e = grind arith

above_from : (a b : ℕ) → nat_le a b ≡ false → b < a
above_from a b e = grind arith

pub one_above : (n : ℕ) → n < n + 1
one_above n = omega arith

at_top : (own ticket n : ℕ) → n ≡ ticket → max own ticket ≤ n → n ≡ max own ticket
at_top own ticket n e most = grind arith

pub le_both : (a b : ℕ) → a ≤ b → b ≤ a → a ≡ b
le_both a b x y = omega arith

lt_le : (a b c : ℕ) → a < b → b ≤ c → a < c
lt_le a b c x y = omega arith

module _ (journal : List JournalEntry) (listed : ℕ) (note : Note) where
  -- the tails of the three kinds of place
  abbrev entry_tail : List ℕ
  entry_tail = note.node.0 ∷ 1 ∷ 0 ∷ 0 ∷ []

  abbrev note_tail : List ℕ
  note_tail = note.node.0 ∷ 0 ∷ note.call.0 ∷ listed ∷ []

  entry_below : (entry : JournalEntry) → entry.ticket ≡ note.ticket → place_cmp (entry_place note.node entry) (place_behind (max note.own note.ticket) listed note) ≡ Less
  entry_below entry e = by_cases (ltb entry.ticket (max note.own note.ticket)) refl
    where
      by_cases : (b : Bool) → ltb entry.ticket (max note.own note.ticket) ≡ b → place_cmp (entry_place note.node entry) (place_behind (max note.own note.ticket) listed note) ≡ Less
      by_cases true t = by_head entry.ticket (max note.own note.ticket) (0 ∷ entry_tail) (1 ∷ note_tail) (less_from entry.ticket (max note.own note.ticket) t)
      by_cases false t =
          let most : max note.own note.ticket ≤ entry.ticket = ltb-false entry.ticket (max note.own note.ticket) t in
          let same : entry.ticket ≡ max note.own note.ticket = at_top note.own note.ticket entry.ticket e most in
          same_head entry.ticket (max note.own note.ticket) (0 ∷ entry_tail) (1 ∷ note_tail) same (by_head 0 1 entry_tail note_tail (one_above 0))

  behind_at : (o : Option JournalEntry) → next_entry note.key note.ticket journal ≡ o → (entry : JournalEntry) → entry.ticket ≡ note.ticket →
      place_cmp (entry_place note.node entry) (note_place_at o (max note.own note.ticket) listed note) ≡ Less
  behind_at None is entry e = entry_below entry e
  behind_at (Some next) is entry e = by_test (nat_le next.ticket (max note.own note.ticket))
    where
      later : note.ticket < next.ticket
      later = less_from note.ticket next.ticket (and_parts _ _ (found_passes (is_next note.key note.ticket) journal next is)).0

      by_test : (b : Bool) → place_cmp (entry_place note.node entry) (if b then place_before next.ticket listed note else place_behind (max note.own note.ticket) listed note) ≡ Less
      by_test true = by_head entry.ticket next.ticket (0 ∷ entry_tail) (0 ∷ note_tail) (subst (λ (n : ℕ). n < next.ticket) (sym e) later)
      by_test false = entry_below entry e

  before_at : (o : Option JournalEntry) → (next : JournalEntry) → o ≡ Some next → (entry : JournalEntry) → next.ticket ≤ entry.ticket →
      place_cmp (note_place_at o (max note.own note.ticket) listed note) (entry_place note.node entry) ≡ Less
  before_at o next is entry most = ap (λ (p : Option JournalEntry). place_cmp (note_place_at p (max note.own note.ticket) listed note) (entry_place note.node entry)) is ∙ by_test (nat_le next.ticket (max note.own note.ticket)) refl
    where
      by_order : (b : Bool) → ltb next.ticket entry.ticket ≡ b → place_cmp (place_before next.ticket listed note) (entry_place note.node entry) ≡ Less
      by_order true t = by_head next.ticket entry.ticket (0 ∷ note_tail) (0 ∷ entry_tail) (less_from next.ticket entry.ticket t)
      by_order false t =
          let same : next.ticket ≡ entry.ticket = le_both next.ticket entry.ticket most (ltb-false next.ticket entry.ticket t) in
          same_head next.ticket entry.ticket (0 ∷ note_tail) (0 ∷ entry_tail) same (same_head 0 0 note_tail entry_tail refl (same_head note.node.0 note.node.0 (0 ∷ note.call.0 ∷ listed ∷ []) (1 ∷ 0 ∷ 0 ∷ []) refl (by_head 0 1 (note.call.0 ∷ listed ∷ []) (0 ∷ 0 ∷ []) (one_above 0))))

      by_test : (b : Bool) → nat_le next.ticket (max note.own note.ticket) ≡ b →
          place_cmp (if b then place_before next.ticket listed note else place_behind (max note.own note.ticket) listed note) (entry_place note.node entry) ≡ Less
      by_test true t = by_order (ltb next.ticket entry.ticket) refl
      by_test false t = by_head (max note.own note.ticket) entry.ticket (1 ∷ note_tail) (0 ∷ entry_tail) (lt_le (max note.own note.ticket) next.ticket entry.ticket (above_from next.ticket (max note.own note.ticket) t) most)

lt_true : (a b : ℕ) → a < b → nat_lt a b ≡ true
lt_true a b lt = grind arith

both : (a b : Bool) → a ≡ true → b ≡ true → a && b ≡ true
both true true p q = refl
both true false p q = q
both false b p q = p

pub notes_stand_between : NotesStandBetween
notes_stand_between journal listed note rises = record {
  behind = behind_at journal listed note (next_entry note.key note.ticket journal) refl;
  before = λ entry is later names.
      let found = first_is_least (is_next note.key note.ticket) journal entry rises is (both _ _ (lt_true note.ticket entry.ticket later) (named_itself (key_of entry.event) note.key names)) in
      before_at journal listed note (next_entry note.key note.ticket journal) found.0 found.1 entry found.2;
}
