-- Items put in their places, one after the other, are the merged list.
use Rattle.std.proofs.Common.{◌≡◌, ◌≢◌, ◌⊎◌, ◌<◌, ◌+◌, ◌||◌, ◌==◌, ℕ, zero, suc, List, [], ◌∷◌, map, max, Bool, true, false, Option, Some, None, refl, sym, ap, subst, ◌∙◌, inl, inr, arith, Ordering, Less, Equal, Greater, nat_le, if◌then◌else◌, slice_get}
use Rattle.std.specs.Ordering.{match_ordering, ordering_reverse}
use Rattle.std.specs.BTreeMap.{insert_entry}
use Rattle.std.specs.Map.{keys_of, values_of}
use Rattle.std.specs.List.{AllByRecursion, list_any}
use Rattle.std.specs.List.Sorted.{IsStrictlySortedBy}
use Rattle.std.proofs.lemmas.Bool.{true≢false, eqb-true}
use Rattle.std.proofs.lemmas.Cmp.{nat_list_cmp_total}
use Rattle.std.proofs.lemmas.Map.Keys.{sorted_head, sorted_tail}
use Rattle.hk_base.specs.declared.stamp.NodeId.{NodeId}
use Rattle.hk_journal.specs.declared.step_entry.JournalEntry.{JournalEntry}
use Rattle.hk_merge.specs.declared.note.Note.{Note}
use Rattle.hk_merge.specs.Merged.{JournalList, Item, Step, LocalRead, In, Rises, IsFounded, IsItem, AreMerged, journal_or, journal_of, next_entry, entry_place, place_before, place_behind, note_place_at, note_place, place_of, place_cmp}
use Rattle.hk_merge.specs.Placed.{Places, put_item, put_entries, put_journals, is_founded, with_note, put_notes, merged, MergedAreMerged}
use Rattle.hk_merge.proofs.Entries.{list_equal}

-- ---- order
sorted_nil : IsStrictlySortedBy place_cmp []
unfolding IsStrictlySortedBy
sorted_nil = tt

sorted_cons : (k : List ℕ) (ks : List (List ℕ)) → AllByRecursion (λ y. place_cmp k y ≡ Less) ks → IsStrictlySortedBy place_cmp ks → IsStrictlySortedBy place_cmp (k ∷ ks)
unfolding IsStrictlySortedBy
sorted_cons k ks all sorted = (all, sorted)

below_all : (k q : List ℕ) (ks : List (List ℕ)) → place_cmp k q ≡ Less → AllByRecursion (λ y. place_cmp q y ≡ Less) ks → AllByRecursion (λ y. place_cmp k y ≡ Less) ks
below_all k q [] less all = tt
below_all k q (y ∷ ks) less all = (nat_list_cmp_total.trans k q y less all.0, below_all k q ks less all.1)

below_put : (q k : List ℕ) (w : Item) (es : Places) → place_cmp q k ≡ Less → AllByRecursion (λ y. place_cmp q y ≡ Less) (keys_of es) → AllByRecursion (λ y. place_cmp q y ≡ Less) (keys_of (put_item es k w))
below_put q k w [] less all = (less, tt)
below_put q k w (e ∷ es) less all = at (place_cmp k e.0) (below_put q k w es less all.1)
  where
    at : (o : Ordering) → AllByRecursion (λ y. place_cmp q y ≡ Less) (keys_of (put_item es k w)) →
        AllByRecursion (λ y. place_cmp q y ≡ Less) (keys_of (match_ordering o ((k, w) ∷ e ∷ es) ((e.0, w) ∷ es) (e ∷ put_item es k w)))
    at Less ih = (less, all)
    at Equal ih = all
    at Greater ih = (all.0, ih)

put_sorted : (es : Places) (k : List ℕ) (w : Item) → IsStrictlySortedBy place_cmp (keys_of es) → IsStrictlySortedBy place_cmp (keys_of (put_item es k w))
put_sorted [] k w sorted = sorted_cons k [] tt sorted_nil
put_sorted (e ∷ es) k w sorted = at (place_cmp k e.0) refl (put_sorted es k w (sorted_tail place_cmp e.0 (keys_of es) sorted))
  where
    at : (o : Ordering) → place_cmp k e.0 ≡ o → IsStrictlySortedBy place_cmp (keys_of (put_item es k w)) →
        IsStrictlySortedBy place_cmp (keys_of (match_ordering o ((k, w) ∷ e ∷ es) ((e.0, w) ∷ es) (e ∷ put_item es k w)))
    at Less is ih = sorted_cons k (e.0 ∷ keys_of es) (is, below_all k e.0 (keys_of es) is (sorted_head place_cmp e.0 (keys_of es) sorted)) sorted
    at Equal is ih = sorted
    at Greater is ih =
        let under : place_cmp e.0 k ≡ Less = nat_list_cmp_total.antisymm e.0 k ∙ ap ordering_reverse is in
        sorted_cons e.0 (keys_of (put_item es k w)) (below_put e.0 k w es under (sorted_head place_cmp e.0 (keys_of es) sorted)) ih

-- ---- one place, one item
sixth : List ℕ → ℕ
sixth (a ∷ b ∷ c ∷ d ∷ e ∷ f ∷ more) = f
sixth places = 0

fourth : List ℕ → ℕ
fourth (a ∷ b ∷ c ∷ d ∷ more) = d
fourth places = 0

third : List ℕ → ℕ
third (a ∷ b ∷ c ∷ more) = c
third places = 0

first : List ℕ → ℕ
first (a ∷ more) = a
first places = 0

-- what is the same at both places of a note is that of its place
at_place : (f : List ℕ → ℕ) (n : ℕ) (o : Option JournalEntry) (late listed : ℕ) (note : Note) → ((ticket : ℕ) → f (place_before ticket listed note) ≡ n) → ((ticket : ℕ) → f (place_behind ticket listed note) ≡ n) →
    f (note_place_at o late listed note) ≡ n
at_place f n None late listed note before behind = behind late
at_place f n (Some next) late listed note before behind = by_test (nat_le next.ticket late)
  where
    by_test : (b : Bool) → f (if b then place_before next.ticket listed note else place_behind late listed note) ≡ n
    by_test true = before next.ticket
    by_test false = behind late

listed_at : (journal : List JournalEntry) (listed : ℕ) (note : Note) → sixth (note_place journal listed note) ≡ listed
unfolding sixth
listed_at journal listed note = at_place sixth listed (next_entry note.key note.ticket journal) (max note.own note.ticket) listed note (λ ticket. refl) (λ ticket. refl)

note_at : (journal : List JournalEntry) (listed : ℕ) (note : Note) → fourth (note_place journal listed note) ≡ 0
unfolding fourth
note_at journal listed note = at_place fourth 0 (next_entry note.key note.ticket journal) (max note.own note.ticket) listed note (λ ticket. refl) (λ ticket. refl)

entry_at : (node : NodeId) (entry : JournalEntry) → fourth (entry_place node entry) ≡ 1
unfolding fourth
entry_at node entry = refl

node_at : (node : NodeId) (entry : JournalEntry) → third (entry_place node entry) ≡ node.0
unfolding third
node_at node entry = refl

ticket_at : (node : NodeId) (entry : JournalEntry) → first (entry_place node entry) ≡ entry.ticket
unfolding first
ticket_at node entry = refl

not_below : (a b : ℕ) → a ≡ b → a < b → ⊥
not_below a b e l = omega (arith, e, l)

not_both : (z o : ℕ) → z ≡ 0 → o ≡ 1 → z ≡ o → ⊥
not_both z o ez eo e = omega (arith, ez, eo, e)

node_of : ℕ → NodeId
node_of n = record { 0 = n }

same_node : (a b : NodeId) → a.0 ≡ b.0 → a ≡ b
unfolding node_of
same_node a b e = ap node_of e

all_above : (t : ℕ) (es : List JournalEntry) (x : JournalEntry) → AllByRecursion (λ (e : JournalEntry). t < e.ticket) es → In es x → t < x.ticket
all_above t [] x all is = absurd is
all_above t (e ∷ es) x all (inl same) = subst (λ (y : JournalEntry). t < y.ticket) (sym same) all.0
all_above t (e ∷ es) x all (inr more) = all_above t es x all.1 more

one_entry : (es : List JournalEntry) (x y : JournalEntry) → Rises es → In es x → In es y → x.ticket ≡ y.ticket → x ≡ y
one_entry [] x y rises ix iy same = absurd ix
one_entry (e ∷ es) x y rises (inl ex) (inl ey) same = ex ∙ sym ey
one_entry (e ∷ es) x y rises (inl ex) (inr iy) same = absurd (not_below e.ticket y.ticket (ap (λ (z : JournalEntry). z.ticket) (sym ex) ∙ same) (all_above e.ticket es y rises.0 iy))
one_entry (e ∷ es) x y rises (inr ix) (inl ey) same = absurd (not_below e.ticket x.ticket (ap (λ (z : JournalEntry). z.ticket) (sym ey) ∙ sym same) (all_above e.ticket es x rises.0 ix))
one_entry (e ∷ es) x y rises (inr ix) (inr iy) same = one_entry es x y rises.1 ix iy same

some_is : {A : Type 0} (x y : A) → Some x ≡ Some y → x ≡ y
some_is {A} x y e = ap (λ (o : Option A). or_x o) e
  where
    or_x : Option A → A
    or_x None = x
    or_x (Some z) = z

module _ (journals : JournalList) (notes : List Note) (rises : (n : NodeId) → Rises (journal_of journals n)) where
  abbrev place : Item → List ℕ
  place = place_of journals

  abbrev Is : Item → Type 0
  Is = IsItem journals notes

  one_item : (x y : Item) → Is x → Is y → place x ≡ place y → x ≡ y
  one_item (Step n e) (Step m f) ix iy same = by_node (same_node n m (sym (node_at n e) ∙ (ap third same ∙ node_at m f)))
    where
      by_node : n ≡ m → Step n e ≡ Step m f
      by_node en =
          let there : In (journal_of journals m) e = subst (λ (i : NodeId). In (journal_of journals i) e) en ix in
          let ef : e ≡ f = one_entry (journal_of journals m) e f (rises m) there iy (sym (ticket_at n e) ∙ (ap first same ∙ ticket_at m f)) in
          ap (λ (i : NodeId). Step i e) en ∙ ap (λ (z : JournalEntry). Step m z) ef
  one_item (LocalRead i a) (LocalRead j b) ix iy same = by_number (sym (listed_at (journal_of journals a.node) i a) ∙ (ap sixth same ∙ listed_at (journal_of journals b.node) j b))
    where
      by_number : i ≡ j → LocalRead i a ≡ LocalRead j b
      by_number e = ap (λ (n : ℕ). LocalRead n a) e ∙ ap (λ (z : Note). LocalRead j z) (some_is a b (sym ix.0 ∙ (ap (λ (n : ℕ). slice_get notes n) e ∙ iy.0)))
  one_item (Step n e) (LocalRead j b) ix iy same = absurd (not_both (fourth (note_place (journal_of journals b.node) j b)) (fourth (entry_place n e)) (note_at (journal_of journals b.node) j b) (entry_at n e) (ap fourth (sym same)))
  one_item (LocalRead i a) (Step m f) ix iy same = absurd (not_both (fourth (note_place (journal_of journals a.node) i a)) (fourth (entry_place m f)) (note_at (journal_of journals a.node) i a) (entry_at m f) (ap fourth same))

  -- ---- items in their places
  abbrev Fits : List ℕ × Item → Type 0
  Fits e = Is e.1 × (e.0 ≡ place e.1)

  abbrev Has : Places → Item → Type 0
  Has es x = In (values_of es) x

  put_fits : (es : Places) (x : Item) → Is x → AllByRecursion Fits es → AllByRecursion Fits (put_item es (place x) x)
  put_fits [] x is all = ((is, refl), tt)
  put_fits (e ∷ es) x is all = at (place_cmp (place x) e.0) refl (put_fits es x is all.1)
    where
      at : (o : Ordering) → place_cmp (place x) e.0 ≡ o → AllByRecursion Fits (put_item es (place x) x) →
          AllByRecursion Fits (match_ordering o ((place x, x) ∷ e ∷ es) ((e.0, x) ∷ es) (e ∷ put_item es (place x) x))
      at Less eq ih = ((is, refl), all)
      at Equal eq ih = ((is, sym (list_equal (place x) e.0 eq)), all.1)
      at Greater eq ih = (all.0, ih)

  put_has : (es : Places) (x : Item) (k : List ℕ) → Has (put_item es k x) x
  put_has [] x k = inl refl
  put_has (e ∷ es) x k = at (place_cmp k e.0) (put_has es x k)
    where
      at : (o : Ordering) → Has (put_item es k x) x → Has (match_ordering o ((k, x) ∷ e ∷ es) ((e.0, x) ∷ es) (e ∷ put_item es k x)) x
      at Less ih = inl refl
      at Equal ih = inl refl
      at Greater ih = inr ih

  put_keeps : (es : Places) (x y : Item) → Is x → AllByRecursion Fits es → Has es y → Has (put_item es (place x) x) y
  put_keeps [] x y is all has = absurd has
  put_keeps (e ∷ es) x y is all has = at (place_cmp (place x) e.0) refl (λ more. put_keeps es x y is all.1 more) has
    where
      at : (o : Ordering) → place_cmp (place x) e.0 ≡ o → (Has es y → Has (put_item es (place x) x) y) → (y ≡ e.1) ⊎ Has es y →
          Has (match_ordering o ((place x, x) ∷ e ∷ es) ((e.0, x) ∷ es) (e ∷ put_item es (place x) x)) y
      at Less eq ih has = inr has
      at Equal eq ih (inl same) = inl (same ∙ one_item e.1 x all.0.0 is (sym all.0.1 ∙ sym (list_equal (place x) e.0 eq)))
      at Equal eq ih (inr more) = inr more
      at Greater eq ih (inl same) = inl same
      at Greater eq ih (inr more) = inr (ih more)

  -- items in their places, in order, with all that were there
  pub record Put (old new : Places) : Type 0 where
    pub fits : AllByRecursion Fits new
    pub sorted : IsStrictlySortedBy place_cmp (keys_of new)
    pub keeps : (y : Item) → Has old y → Has new y

  put_one : (es : Places) (x : Item) → Is x → AllByRecursion Fits es → IsStrictlySortedBy place_cmp (keys_of es) → Put es (put_item es (place x) x)
  put_one es x is all sorted = record { fits = put_fits es x is all; sorted = put_sorted es (place x) x sorted; keeps = λ y has. put_keeps es x y is all has }

  then_put : (a b d : Places) → Put a b → Put b d → Put a d
  then_put a b d p q = record { fits = q.fits; sorted = q.sorted; keeps = λ y has. q.keeps y (p.keeps y has) }

  entries_put : (n : NodeId) (es : Places) (entries : List JournalEntry) → ((e : JournalEntry) → In entries e → In (journal_of journals n) e) → AllByRecursion Fits es → IsStrictlySortedBy place_cmp (keys_of es) →
      Put es (put_entries n es entries) × ((e : JournalEntry) → In entries e → Has (put_entries n es entries) (Step n e))
  entries_put n es [] among fits sorted = (record { fits = fits; sorted = sorted; keeps = λ y has. has }, λ e is. absurd is)
  entries_put n es (x ∷ entries) among fits sorted =
      let one : Put es (put_item es (entry_place n x) (Step n x)) = put_one es (Step n x) (among x (inl refl)) fits sorted in
      let more = entries_put n (put_item es (entry_place n x) (Step n x)) entries (λ e is. among e (inr is)) one.fits one.sorted in
      (then_put es (put_item es (entry_place n x) (Step n x)) (put_entries n (put_item es (entry_place n x) (Step n x)) entries) one more.0, has_all more)
    where
      has_all : Put (put_item es (entry_place n x) (Step n x)) (put_entries n (put_item es (entry_place n x) (Step n x)) entries)
          × ((e : JournalEntry) → In entries e → Has (put_entries n (put_item es (entry_place n x) (Step n x)) entries) (Step n e)) →
          (e : JournalEntry) → In (x ∷ entries) e → Has (put_entries n (put_item es (entry_place n x) (Step n x)) entries) (Step n e)
      has_all more e (inl same) = more.0.keeps (Step n e) (subst (λ (z : JournalEntry). Has (put_item es (entry_place n x) (Step n x)) (Step n z)) (sym same) (put_has es (Step n x) (entry_place n x)))
      has_all more e (inr is) = more.1 e is

  -- the journals from number k on
  abbrev From : ℕ → JournalList → Type 0
  From k js = (i : ℕ) → slice_get js i ≡ slice_get journals (k + i)

  from_next : (k : ℕ) (j : List JournalEntry) (js : JournalList) → From k (j ∷ js) → From (k + 1) js
  from_next k j js from i = from (suc i) ∙ ap (λ (n : ℕ). slice_get journals n) (next_is k i)
    where
      next_is : (k i : ℕ) → k + suc i ≡ (k + 1) + i
      next_is k i = omega arith

  journals_put : (k : ℕ) (es : Places) (js : JournalList) → From k js → AllByRecursion Fits es → IsStrictlySortedBy place_cmp (keys_of es) →
      Put es (put_journals k es js) × ((i : ℕ) (e : JournalEntry) → In (journal_or (slice_get js i)) e → Has (put_journals k es js) (Step (record { 0 = k + i }) e))
  journals_put k es [] from fits sorted = (record { fits = fits; sorted = sorted; keeps = λ y has. has }, λ i e is. absurd is)
  journals_put k es (j ∷ js) from fits sorted =
      let here : j ≡ journal_of journals (record { 0 = k }) = ap journal_or (from 0) ∙ ap (λ (n : ℕ). journal_or (slice_get journals n)) (at_zero k) in
      let one = entries_put (record { 0 = k }) es j (λ e is. subst (λ (l : List JournalEntry). In l e) here is) fits sorted in
      let more = journals_put (k + 1) (put_entries (record { 0 = k }) es j) js (from_next k j js from) one.0.fits one.0.sorted in
      (then_put es (put_entries (record { 0 = k }) es j) (put_journals (k + 1) (put_entries (record { 0 = k }) es j) js) one.0 more.0, has_all one.1 more)
    where
      at_zero : (k : ℕ) → k + 0 ≡ k
      at_zero k = omega arith

      next_is : (k i : ℕ) → (k + 1) + i ≡ k + suc i
      next_is k i = omega arith

      has_all : ((e : JournalEntry) → In j e → Has (put_entries (record { 0 = k }) es j) (Step (record { 0 = k }) e)) →
          Put (put_entries (record { 0 = k }) es j) (put_journals (k + 1) (put_entries (record { 0 = k }) es j) js)
          × ((i : ℕ) (e : JournalEntry) → In (journal_or (slice_get js i)) e → Has (put_journals (k + 1) (put_entries (record { 0 = k }) es j) js) (Step (record { 0 = (k + 1) + i }) e)) →
          (i : ℕ) (e : JournalEntry) → In (journal_or (slice_get (j ∷ js) i)) e → Has (put_journals (k + 1) (put_entries (record { 0 = k }) es j) js) (Step (record { 0 = k + i }) e)
      has_all one more zero e is = subst (λ (n : ℕ). Has (put_journals (k + 1) (put_entries (record { 0 = k }) es j) js) (Step (record { 0 = n }) e)) (sym (at_zero k)) (more.0.keeps (Step (record { 0 = k }) e) (one e is))
      has_all one more (suc i) e is = subst (λ (n : ℕ). Has (put_journals (k + 1) (put_entries (record { 0 = k }) es j) js) (Step (record { 0 = n }) e)) (next_is k i) (more.1 i e is)

  -- ---- notes
  founded_from : (js : List JournalEntry) (ticket : ℕ) → is_founded js ticket ≡ true → (entry : JournalEntry) × In js entry × (entry.ticket ≡ ticket)
  founded_from [] ticket e = absurd (true≢false (sym e))
  founded_from (x ∷ js) ticket e = by_test (x.ticket == ticket) refl e (λ more. founded_from js ticket more)
    where
      by_test : (b : Bool) → (x.ticket == ticket) ≡ b → b || is_founded js ticket ≡ true → (is_founded js ticket ≡ true → (entry : JournalEntry) × In js entry × (entry.ticket ≡ ticket)) →
          (entry : JournalEntry) × In (x ∷ js) entry × (entry.ticket ≡ ticket)
      by_test true t e ih = (x, inl refl, eqb-true x.ticket ticket t)
      by_test false t e ih = (let more = ih e in (more.0, inr more.1, more.2))

  founded_test : (js : List JournalEntry) (ticket : ℕ) (entry : JournalEntry) → In js entry → entry.ticket ≡ ticket → is_founded js ticket ≡ true
  founded_test [] ticket entry is same = absurd is
  founded_test (x ∷ js) ticket entry (inl e) same = ap (λ (b : Bool). b || is_founded js ticket) (equal_test x.ticket ticket (ap (λ (z : JournalEntry). z.ticket) (sym e) ∙ same))
    where
      equal_test : (a b : ℕ) → a ≡ b → (a == b) ≡ true
      equal_test a b e = grind arith
  founded_test (x ∷ js) ticket entry (inr more) same = either_true (x.ticket == ticket) (is_founded js ticket) (founded_test js ticket entry more same)
    where
      either_true : (a b : Bool) → b ≡ true → a || b ≡ true
      either_true true b e = refl
      either_true false b e = e

  note_put : (n : ℕ) (note : Note) (es : Places) → slice_get notes n ≡ Some note → AllByRecursion Fits es → IsStrictlySortedBy place_cmp (keys_of es) →
      Put es (with_note journals n note es) × (IsFounded journals note → Has (with_note journals n note es) (LocalRead n note))
  note_put n note es lists fits sorted = by_test (is_founded (journal_of journals note.node) note.ticket) refl
    where
      by_test : (b : Bool) → is_founded (journal_of journals note.node) note.ticket ≡ b →
          Put es (if b then put_item es (note_place (journal_of journals note.node) n note) (LocalRead n note) else es)
          × (IsFounded journals note → Has (if b then put_item es (note_place (journal_of journals note.node) n note) (LocalRead n note) else es) (LocalRead n note))
      by_test true t = (put_one es (LocalRead n note) (lists, founded_from (journal_of journals note.node) note.ticket t) fits sorted, λ founded. put_has es (LocalRead n note) (note_place (journal_of journals note.node) n note))
      by_test false t = (record { fits = fits; sorted = sorted; keeps = λ y has. has }, λ founded. absurd (true≢false (sym (founded_test (journal_of journals note.node) note.ticket founded.0 founded.1 founded.2) ∙ t)))

  notes_put : (k : ℕ) (es : Places) (ns : List Note) → ((i : ℕ) → slice_get ns i ≡ slice_get notes (k + i)) → AllByRecursion Fits es → IsStrictlySortedBy place_cmp (keys_of es) →
      Put es (put_notes journals k es ns) × ((i : ℕ) (note : Note) → slice_get ns i ≡ Some note → IsFounded journals note → Has (put_notes journals k es ns) (LocalRead (k + i) note))
  notes_put k es [] from fits sorted = (record { fits = fits; sorted = sorted; keeps = λ y has. has }, λ i note is. absurd (none_not i note is))
    where
      none_not : (i : ℕ) (note : Note) → slice_get [] i ≡ Some note → ⊥
      none_not zero note e = cc
      none_not (suc i) note e = cc
  notes_put k es (x ∷ ns) from fits sorted =
      let one = note_put k x es (sym (from 0 ∙ ap (λ (n : ℕ). slice_get notes n) (at_zero k))) fits sorted in
      let more = notes_put (k + 1) (with_note journals k x es) ns (λ i. from (suc i) ∙ ap (λ (n : ℕ). slice_get notes n) (sym (next_is k i))) one.0.fits one.0.sorted in
      (then_put es (with_note journals k x es) (put_notes journals (k + 1) (with_note journals k x es) ns) one.0 more.0, has_all one.1 more)
    where
      at_zero : (k : ℕ) → k + 0 ≡ k
      at_zero k = omega arith

      next_is : (k i : ℕ) → (k + 1) + i ≡ k + suc i
      next_is k i = omega arith

      has_all : (IsFounded journals x → Has (with_note journals k x es) (LocalRead k x)) →
          Put (with_note journals k x es) (put_notes journals (k + 1) (with_note journals k x es) ns)
          × ((i : ℕ) (note : Note) → slice_get ns i ≡ Some note → IsFounded journals note → Has (put_notes journals (k + 1) (with_note journals k x es) ns) (LocalRead ((k + 1) + i) note)) →
          (i : ℕ) (note : Note) → slice_get (x ∷ ns) i ≡ Some note → IsFounded journals note → Has (put_notes journals (k + 1) (with_note journals k x es) ns) (LocalRead (k + i) note)
      has_all one more zero note is founded =
          let same : x ≡ note = some_is x note is in
          subst (λ (n : ℕ). Has (put_notes journals (k + 1) (with_note journals k x es) ns) (LocalRead n note)) (sym (at_zero k))
          (subst (λ (z : Note). Has (put_notes journals (k + 1) (with_note journals k x es) ns) (LocalRead k z)) same (more.0.keeps (LocalRead k x) (one (subst (IsFounded journals) (sym same) founded))))
      has_all one more (suc i) note is founded = subst (λ (n : ℕ). Has (put_notes journals (k + 1) (with_note journals k x es) ns) (LocalRead n note)) (next_is k i) (more.1 i note is founded)

  only_items : (es : Places) → AllByRecursion Fits es → AllByRecursion Is (values_of es)
  only_items [] all = tt
  only_items (e ∷ es) all = (all.0.0, only_items es all.1)

  places_are : (es : Places) → AllByRecursion Fits es → map place (values_of es) ≡ keys_of es
  places_are [] all = refl
  places_are (e ∷ es) all = ap (λ (k : List ℕ). k ∷ map place (values_of es)) (sym all.0.1) ∙ ap (λ (ks : List (List ℕ)). e.0 ∷ ks) (places_are es all.1)

  pub are_merged : AreMerged journals notes (merged journals notes)
  are_merged =
      let js = journals_put 0 [] journals (λ i. ap (λ (n : ℕ). slice_get journals n) (sym (zero_plus i))) tt sorted_nil in
      let ns = notes_put 0 (put_journals 0 [] journals) notes (λ i. ap (λ (n : ℕ). slice_get notes n) (sym (zero_plus i))) js.0.fits js.0.sorted in
      let es : Places = put_notes journals 0 (put_journals 0 [] journals) notes in
      record {
        only = only_items es ns.0.fits;
        whole = λ item is. has_item js ns item is;
        ordered = subst (IsStrictlySortedBy place_cmp) (sym (places_are es ns.0.fits)) ns.0.sorted;
      }
    where
      zero_plus : (i : ℕ) → 0 + i ≡ i
      zero_plus i = omega arith

      has_item : Put [] (put_journals 0 [] journals) × ((i : ℕ) (e : JournalEntry) → In (journal_or (slice_get journals i)) e → Has (put_journals 0 [] journals) (Step (record { 0 = 0 + i }) e)) →
          Put (put_journals 0 [] journals) (put_notes journals 0 (put_journals 0 [] journals) notes)
          × ((i : ℕ) (note : Note) → slice_get notes i ≡ Some note → IsFounded journals note → Has (put_notes journals 0 (put_journals 0 [] journals) notes) (LocalRead (0 + i) note)) →
          (item : Item) → IsItem journals notes item → In (merged journals notes) item
      has_item js ns (Step n e) is =
          ns.0.keeps (Step n e) (subst (λ (m : ℕ). Has (put_journals 0 [] journals) (Step (record { 0 = m }) e)) (zero_plus n.0) (js.1 n.0 e is))
      has_item js ns (LocalRead i note) is = subst (λ (m : ℕ). Has (put_notes journals 0 (put_journals 0 [] journals) notes) (LocalRead m note)) (zero_plus i) (ns.1 i note is.0 is.1)

pub merged_are_merged : MergedAreMerged
merged_are_merged journals notes rises = are_merged journals notes rises
