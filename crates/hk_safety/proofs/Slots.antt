-- The slots of a key, stamp by stamp: for each stamp its update, if it is complete, and then the calls that found it. They are the computed
-- order's, where the stamps rise and each that has a slot is among them.
use Rattle.std.proofs.Common.{◌≡◌, ◌⊎◌, ℕ, Bool, true, false, cond, ◌+◌, List, [], ◌∷◌, ◌++◌, ◌<◌, ◌∙◌, sym, refl, ap, ap₂, subst, inl, inr, ⊎_elim, arith}
use Rattle.std.proofs.Common.{Option, Some, None, eqb, length, eq-zero-or-pos, find, is_some}
use Rattle.std.specs.Prelude.{if◌then◌else◌, ◌==◌, ⊤}
use Rattle.std.proofs.lemmas.Bool.{false≢true, eqb-true, eqb-false, eq-eqb}
use Rattle.hk_register.specs.Machine.{In, Update, Item, RegisterState}
use Rattle.hk_register.specs.Machine.Item.{Called, Answered, Dropped, ReadOnly, Rejected}
use Rattle.hk_register.specs.Facts.{Complete}
use Rattle.hk_register.specs.Parts.{Parts}
use Rattle.hk_register.specs.Printed.{Slot, Below, Sorted, update_slot, StandsAt, IsPrinted, printed}
use Rattle.hk_register.proofs.Grow.{in_left, in_right, in_either}
use Rattle.hk_register.proofs.Once.{look_slot, not_itself, place_within}
use Rattle.hk_register.proofs.Printing.{printed_is}

-- ---- sorted slots
below_chain : (a b c : Slot) → Below a b → Below b c → Below a c
below_chain a b c (inl h) (inl g) = inl (omega arith)
below_chain a b c (inl h) (inr g) = inl (omega (arith, g.0))
below_chain a b c (inr h) (inl g) = inl (omega (arith, h.0))
below_chain a b c (inr h) (inr g) = inr (h.0 ∙ g.0, omega (arith, h.1, g.1))

not_both : (a b : Slot) → Below a b → Below b a → ⊥
not_both a b h g = not_itself a a refl (below_chain a b a h g)

-- sorted slots are told by which they are
pub same_slots : (xs ys : List Slot) → Sorted xs → Sorted ys → ((s : Slot) → In xs s → In ys s) → ((s : Slot) → In ys s → In xs s) → xs ≡ ys
same_slots [] [] sx sy to from = refl
same_slots [] (b ∷ ys) sx sy to from = absurd (from b (inl refl))
same_slots (a ∷ xs) [] sx sy to from = absurd (to a (inl refl))
same_slots (a ∷ xs) (b ∷ ys) sx sy to from =
    let first : a ≡ b = heads (to a (inl refl)) (from b (inl refl)) in
    let to_rest : (s : Slot) → In xs s → In ys s = λ s h. behind a b xs ys first sx.0 s h (to s (inr h)) in
    let from_rest : (s : Slot) → In ys s → In xs s = λ s h. behind b a ys xs (sym first) sy.0 s h (from s (inr h)) in
    ap₂ (λ (x : Slot) (xs : List Slot). x ∷ xs) first (same_slots xs ys sx.1 sy.1 to_rest from_rest)
  where
    heads : (a ≡ b) ⊎ In ys a → (b ≡ a) ⊎ In xs b → a ≡ b
    heads (inl e) g = e
    heads (inr h) (inl e) = sym e
    heads (inr h) (inr g) = absurd (not_both a b (sx.0 b g) (sy.0 a h))

    behind : (a b : Slot) (xs ys : List Slot) → a ≡ b → ((r : Slot) → In xs r → Below a r) → (s : Slot) → In xs s → (s ≡ b) ⊎ In ys s → In ys s
    behind a b xs ys first above s h (inl e) = absurd (not_itself a s (first ∙ sym e) (above s h))
    behind a b xs ys first above s h (inr g) = g

pub sorted_both : (xs ys : List Slot) → Sorted xs → Sorted ys → ((a b : Slot) → In xs a → In ys b → Below a b) → Sorted (xs ++ ys)
sorted_both [] ys sx sy below = sy
sorted_both (a ∷ xs) ys sx sy below =
    let first : (r : Slot) → In (xs ++ ys) r → Below a r = λ r h.
    ⊎_elim (λ (x : In xs r). sx.0 r x) (λ (y : In ys r). below a r (inl refl) y) (in_either xs ys r h) in
    (first, sorted_both xs ys sx.1 sy (λ x y p q. below x y (inr p) q))

-- ---- the calls that found a stamp, the first one first, of items that are newest first
abbrev pub look_at : ℕ → ℕ → Item → List Slot
look_at s k (ReadOnly c t op held a) = if t == s then look_slot k c t op held a ∷ [] else []
look_at s k (Called c t op) = []
look_at s k (Answered c t a) = []
look_at s k (Dropped c t a) = []
look_at s k (Rejected c op a) = []

abbrev pub look_slots_at : ℕ → List Item → List Slot
look_slots_at s [] = []
look_slots_at s (i ∷ items) = look_slots_at s items ++ look_at s (length items + 1) i

abbrev pub look_of : Slot → Item
look_of x = ReadOnly x.call x.stamp x.op x.content x.answer

record IsLook (s k : ℕ) (i : Item) (x : Slot) : Type 0 where
  stamp : x.stamp ≡ s
  place : x.place ≡ k
  item : look_of x ≡ i

look_is : (s k : ℕ) (i : Item) (x : Slot) → In (look_at s k i) x → IsLook s k i x
look_is s k (ReadOnly c t op held a) x h = by_test (eqb t s) refl h
  where
    by_test : (b : Bool) → eqb t s ≡ b → In (cond b (look_slot k c t op held a ∷ []) []) x → IsLook s k (ReadOnly c t op held a) x
    by_test true e (inl is) = record {
      stamp = ap (λ (y : Slot). y.stamp) is ∙ eqb-true t s e;
      place = ap (λ (y : Slot). y.place) is;
      item = ap look_of is;
    }
    by_test true e (inr none) = absurd none
    by_test false e none = absurd none
look_is s k (Called c t op) x none = absurd none
look_is s k (Answered c t a) x none = absurd none
look_is s k (Dropped c t a) x none = absurd none
look_is s k (Rejected c op a) x none = absurd none

pub looks_are : (s : ℕ) (items : List Item) (x : Slot) → In (look_slots_at s items) x → (x.stamp ≡ s) × (0 < x.place) × StandsAt items x.place (look_of x)
looks_are s [] x h = absurd h
looks_are s (i ∷ items) x h = ⊎_elim
    (λ (old : In (look_slots_at s items) x). let more = looks_are s items x old in (more.0, more.1, inr more.2))
    (λ (new : In (look_at s (length items + 1) i) x).
    let is = look_is s (length items + 1) i x new in
    (is.stamp, omega (arith, is.place), inl (is.item, is.place)))
    (in_either (look_slots_at s items) (look_at s (length items + 1) i) x h)

pub looks_have : (items : List Item) (x : Slot) → StandsAt items x.place (look_of x) → In (look_slots_at x.stamp items) x
looks_have [] x h = absurd h
looks_have (i ∷ items) x (inr h) = in_left (look_slots_at x.stamp items) (look_at x.stamp (length items + 1) i) x (looks_have items x h)
looks_have (i ∷ items) x (inl e) =
    let s : ℕ = x.stamp in
    let here : In (look_at s x.place (look_of x)) x = rw (eq-eqb s s refl) (inl refl) in
    let its : In (look_at s x.place i) x = subst (λ (j : Item). In (look_at s x.place j) x) e.0 here in
    in_right (look_slots_at s items) (look_at s (length items + 1) i) x (subst (λ (k : ℕ). In (look_at s k i) x) e.1 its)

one_sorted : (s k : ℕ) (i : Item) → Sorted (look_at s k i)
one_sorted s k (ReadOnly c t op held a) = by_test (eqb t s)
  where
    by_test : (b : Bool) → Sorted (cond b (look_slot k c t op held a ∷ []) [])
    by_test true = (λ r h. absurd h, tt)
    by_test false = tt
one_sorted s k (Called c t op) = tt
one_sorted s k (Answered c t a) = tt
one_sorted s k (Dropped c t a) = tt
one_sorted s k (Rejected c op a) = tt

looks_sorted : (s : ℕ) (items : List Item) → Sorted (look_slots_at s items)
looks_sorted s [] = tt
looks_sorted s (i ∷ items) =
    let k : ℕ = length items + 1 in
    sorted_both (look_slots_at s items) (look_at s k i) (looks_sorted s items) (one_sorted s k i) (λ a b h g.
    let old = looks_are s items a h in
    let new = look_is s k i b g in
    let upto = place_within items a.place (look_of a) old.2 in
    inr (old.0 ∙ sym new.stamp, omega (arith, upto, new.place)))

-- ---- the update of a stamp, if it is complete
abbrev pub has_stamp : ℕ → Update → Bool
has_stamp s u = u.stamp == s

abbrev pub slot_if : Bool → Option Update → List Slot
slot_if complete None = []
slot_if complete (Some u) = if complete then update_slot u ∷ [] else []

abbrev IsOf : List Update → ℕ → Update → Type 0
IsOf us s u = In us u × (u.stamp ≡ s)

pub found_is : (s : ℕ) (us : List Update) (u : Update) → find (has_stamp s) us ≡ Some u → In us u × (u.stamp ≡ s)
found_is s [] u e = absurd (false≢true (ap is_some e))
found_is s (v ∷ us) u e = by_test (eqb v.stamp s) refl e (found_is s us u)
  where
    by_test : (b : Bool) → eqb v.stamp s ≡ b → cond b (Some v) (find (has_stamp s) us) ≡ Some u →
        (find (has_stamp s) us ≡ Some u → IsOf us s u) → IsOf (v ∷ us) s u
    by_test true t e more = let same : v ≡ u = cc in (inl (sym same), ap (λ (w : Update). w.stamp) (sym same) ∙ eqb-true v.stamp s t)
    by_test false t e more = let rest = more e in (inr rest.0, rest.1)

-- a stamp belongs to one update
abbrev Once : List Update → Type 0
Once us = (u v : Update) → In us u → In us v → u.stamp ≡ v.stamp → u ≡ v

-- then an update is found at its stamp
pub is_found : (us : List Update) (u : Update) → Once us → In us u → find (has_stamp u.stamp) us ≡ Some u
is_found [] u once h = absurd h
is_found (v ∷ us) u once h = by_test (eqb v.stamp u.stamp) refl h (λ g. is_found us u (λ a b p q. once a b (inr p) (inr q)) g)
  where
    by_test : (b : Bool) → eqb v.stamp u.stamp ≡ b → In (v ∷ us) u → (In us u → find (has_stamp u.stamp) us ≡ Some u) →
        cond b (Some v) (find (has_stamp u.stamp) us) ≡ Some u
    by_test true t h more = ap Some (once v u (inl refl) h (eqb-true v.stamp u.stamp t))
    by_test false t (inl is) more = absurd (eqb-false v.stamp u.stamp t (sym (ap (λ (w : Update). w.stamp) is)))
    by_test false t (inr h) more = more h

slot_is : (complete : Bool) (o : Option Update) (x : Slot) → In (slot_if complete o) x → (u : Update) × (o ≡ Some u) × (complete ≡ true) × (x ≡ update_slot u)
slot_is complete None x h = absurd h
slot_is true (Some u) x (inl is) = (u, refl, refl, is)
slot_is true (Some u) x (inr none) = absurd none
slot_is false (Some u) x h = absurd h

slot_sorted : (complete : Bool) (o : Option Update) → Sorted (slot_if complete o)
slot_sorted complete None = tt
slot_sorted true (Some u) = (λ r h. absurd h, tt)
slot_sorted false (Some u) = tt

-- ---- a stamp, and all stamps
-- a stamp, and whether its update is complete
pub record Row : Type 0 where
  pub stamp : ℕ
  pub complete : Bool

abbrev pub update_part : List Update → Row → List Slot
update_part us r = slot_if r.complete (find (has_stamp r.stamp) us)

abbrev pub look_part : List Item → Row → List Slot
look_part items r = look_slots_at r.stamp items

abbrev pub row_slots : List Update → List Item → Row → List Slot
row_slots us items r = update_part us r ++ look_part items r

abbrev pub slots_of : List Update → List Item → List Row → List Slot
slots_of us items [] = []
slots_of us items (r ∷ rows) = row_slots us items r ++ slots_of us items rows

abbrev pub Rising : List Row → Type 0
Rising [] = ⊤
Rising (r ∷ rows) = ((q : Row) → In rows q → r.stamp < q.stamp) × Rising rows

-- the slot of the row's update, which is complete
record IsUpdate (us : List Update) (r : Row) (x : Slot) : Type 0 where
  update : Update
  begun : In us update
  stamp : update.stamp ≡ r.stamp
  complete : r.complete ≡ true
  slot : x ≡ update_slot update

module _ (us : List Update) (items : List Item) where
  updates_are : (r : Row) (x : Slot) → In (update_part us r) x → IsUpdate us r x
  updates_are r x h =
      let is = slot_is r.complete (find (has_stamp r.stamp) us) x h in
      let found = found_is r.stamp us is.0 is.1 in
      record { update = is.0; begun = found.0; stamp = found.1; complete = is.2; slot = is.3 }

  row_stamp : (r : Row) (x : Slot) → In (row_slots us items r) x → x.stamp ≡ r.stamp
  row_stamp r x h = ⊎_elim
      (λ (a : In (update_part us r) x). let is = updates_are r x a in ap (λ (y : Slot). y.stamp) is.slot ∙ is.stamp)
      (λ (b : In (look_part items r) x). (looks_are r.stamp items x b).0)
      (in_either (update_part us r) (look_part items r) x h)

  -- an update has place 0, and each call that found it a later one
  row_sorted : (r : Row) → Sorted (row_slots us items r)
  row_sorted r =
      let updates : Sorted (update_part us r) = slot_sorted r.complete (find (has_stamp r.stamp) us) in
      sorted_both (update_part us r) (look_part items r) updates (looks_sorted r.stamp items) (λ a b h g.
      let u = updates_are r a h in
      let look = looks_are r.stamp items b g in
      let place : a.place ≡ 0 = ap (λ (y : Slot). y.place) u.slot in
      inr (ap (λ (y : Slot). y.stamp) u.slot ∙ u.stamp ∙ sym look.0, omega (arith, place, look.1)))

  in_row : (rows : List Row) (x : Slot) → In (slots_of us items rows) x → (r : Row) × In rows r × In (row_slots us items r) x
  in_row [] x h = absurd h
  in_row (r ∷ rows) x h = ⊎_elim
      (λ (a : In (row_slots us items r) x). (r, inl refl, a))
      (λ (b : In (slots_of us items rows) x). let more = in_row rows x b in (more.0, inr more.1, more.2))
      (in_either (row_slots us items r) (slots_of us items rows) x h)

  of_row : (rows : List Row) (r : Row) (x : Slot) → In rows r → In (row_slots us items r) x → In (slots_of us items rows) x
  of_row [] r x h g = absurd h
  of_row (q ∷ rows) r x (inl is) g = in_left (row_slots us items q) (slots_of us items rows) x (subst (λ (r : Row). In (row_slots us items r) x) is g)
  of_row (q ∷ rows) r x (inr h) g = in_right (row_slots us items q) (slots_of us items rows) x (of_row rows r x h g)

  slots_sorted : (rows : List Row) → Rising rows → Sorted (slots_of us items rows)
  slots_sorted [] rising = tt
  slots_sorted (r ∷ rows) rising =
      sorted_both (row_slots us items r) (slots_of us items rows) (row_sorted r) (slots_sorted rows rising.1) (λ a b h g.
      let later = in_row rows b g in
      let up = rising.0 later.0 later.1 in
      let mine = row_stamp r a h in
      let its = row_stamp later.0 b later.2 in
      inl (omega (arith, up, mine, its)))

-- ---- what the rows must say of a key, so that theirs are its slots
pub record AreRows (V : ℕ → List ℕ) (st : RegisterState) (rows : List Row) : Type 0 where
  pub rising : Rising rows
  pub complete : (r : Row) → In rows r → r.complete ≡ true → (u : Update) → In st.begun u → u.stamp ≡ r.stamp → Complete V st u.stamp
  pub updates : (u : Update) → In st.begun u → Complete V st u.stamp → In rows (record { stamp = u.stamp; complete = true })
  pub read_only : (x : Slot) → StandsAt st.history x.place (look_of x) → (b : Bool) × In rows (record { stamp = x.stamp; complete = b })

module _ (V : ℕ → List ℕ) (st : RegisterState) (parts : Parts V st) (rows : List Row) (are : AreRows V st rows) where
  abbrev by_rows : List Slot
  by_rows = slots_of st.begun st.history rows

  sorted_printed : IsPrinted V st (printed V st)
  sorted_printed = printed_is V st parts

  to_printed : (x : Slot) → In by_rows x → In (printed V st) x
  to_printed x h =
      let at = in_row st.begun st.history rows x h in
      ⊎_elim
      (λ (a : In (update_part st.begun at.0) x).
      let u = updates_are st.begun st.history at.0 x a in
      subst (In (printed V st)) (sym u.slot) (sorted_printed.updates u.update u.begun (are.complete at.0 at.1 u.complete u.update u.begun u.stamp)))
      (λ (b : In (look_part st.history at.0) x).
      sorted_printed.looks x.place x.call x.stamp x.op x.content x.answer (looks_are at.0.stamp st.history x b).2)
      (in_either (update_part st.begun at.0) (look_part st.history at.0) x at.2)

  update_in : (u : Update) → In st.begun u → Complete V st u.stamp → In by_rows (update_slot u)
  update_in u h c =
      let r : Row = record { stamp = u.stamp; complete = true } in
      let found : find (has_stamp u.stamp) st.begun ≡ Some u = is_found st.begun u parts.once h in
      let here : In (update_part st.begun r) (update_slot u) = subst (λ (o : Option Update). In (slot_if true o) (update_slot u)) (sym found) (inl refl) in
      of_row st.begun st.history rows r (update_slot u) (are.updates u h c) (in_left (update_part st.begun r) (look_part st.history r) (update_slot u) here)

  look_in : (x : Slot) → StandsAt st.history x.place (look_of x) → In by_rows x
  look_in x h =
      let at = are.read_only x h in
      let r : Row = record { stamp = x.stamp; complete = at.0 } in
      of_row st.begun st.history rows r x at.1 (in_right (update_part st.begun r) (look_part st.history r) x (looks_have st.history x h))

  from_printed : (x : Slot) → In (printed V st) x → In by_rows x
  from_printed x h = ⊎_elim
      (λ (zero : x.place ≡ 0). let u = sorted_printed.update x h zero in subst (In by_rows) (sym u.3) (update_in u.0 u.1 u.2))
      (λ (pos : 0 < x.place). look_in x (sorted_printed.look x h pos)) (eq-zero-or-pos x.place)

  pub rows_are_printed : slots_of st.begun st.history rows ≡ printed V st
  rows_are_printed = same_slots by_rows (printed V st) (slots_sorted st.begun st.history rows are.rising) sorted_printed.sorted to_printed from_printed
