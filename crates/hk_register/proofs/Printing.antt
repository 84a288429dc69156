-- The computed order has the slots of the key, sorted.
use Rattle.std.proofs.Common.{◌≡◌, ◌⊎◌, ℕ, Bool, true, false, cond, ◌&&◌, ◌||◌, ◌+◌, List, [], ◌∷◌, ◌++◌, ◌<◌, ◌∙◌, sym, refl, ap, subst, inl, inr, ⊎_elim, arith, Option, eqb, length}
use Rattle.std.proofs.lemmas.Bool.{false≢true, eqb-true, eq-eqb, ltb-true, lt-ltb, leb-true, le-leb, and_parts, and_from, or_cases, cases_order}
use Rattle.std.specs.Prelude.{nat_lt, nat_le}
use Rattle.std.specs.List.{list_any}
use Rattle.hk_base.specs.declared.call.Op.{Op}
use Rattle.hk_base.specs.declared.call.Answer.{Answer}
use Rattle.hk_base.specs.declared.call.Content.{Content}
use Rattle.hk_register.specs.Machine.{In, Weaker, Mark, Update, Item, RegisterState}
use Rattle.hk_register.specs.Machine.Item.{Called, Answered, Dropped, ReadOnly, Rejected}
use Rattle.hk_register.specs.Facts.{Covers, Complete}
use Rattle.hk_register.specs.Runs.{is_in}
use Rattle.hk_register.specs.Parts.{Parts}
use Rattle.hk_register.specs.Printed.{Slot, Below, Sorted, update_slot, StandsAt, IsPrinted, is_mark, all_cover, completes_by, is_complete, update_slots, look_slots, is_below, insert_slot, sort_slots, printed}
use Rattle.hk_register.proofs.Grow.{in_left, in_right, in_either}
use Rattle.hk_register.proofs.Once.{look_slot, place_within}
use Rattle.hk_register.proofs.Tests.{in_is, is_in_from, any_in, in_any, all_in, in_all}

itself : (k : Mark) → Weaker k k
itself k = record { who = refl; epoch = refl; stamp = refl; exact = λ e. e; ready = λ e. e }

mark_is : (n e s : ℕ) (k : Mark) → is_mark n e s k ≡ true → (k.who ≡ n) × (k.epoch ≡ e) × (k.stamp ≡ s)
mark_is n e s k is =
    let a = and_parts (eqb k.who n) (eqb k.epoch e && eqb k.stamp s) is in
    let b = and_parts (eqb k.epoch e) (eqb k.stamp s) a.1 in
    (eqb-true k.who n a.0, eqb-true k.epoch e b.0, eqb-true k.stamp s b.1)

is_mark_from : (n e s : ℕ) (k : Mark) → k.who ≡ n → k.epoch ≡ e → k.stamp ≡ s → is_mark n e s k ≡ true
is_mark_from n e s k a b c = and_from (eqb k.who n) (eqb k.epoch e && eqb k.stamp s) (eq-eqb k.who n a) (and_from (eqb k.epoch e) (eqb k.stamp s) (eq-eqb k.epoch e b) (eq-eqb k.stamp s c))

module _ (V : ℕ → List ℕ) (st : RegisterState) where
  -- the test decides
  complete_is : (s : ℕ) → is_complete V st s ≡ true → Complete V st s
  complete_is s is =
      let t = any_in (completes_by V st.marks s) st.marks is in
      let k : Mark = t.0 in
      let a = and_parts (eqb k.stamp s) (k.ready && (nat_le 1 k.epoch && (is_in k.who (V k.epoch) && all_cover st.marks (V k.epoch) k.epoch s))) t.2 in
      let b = and_parts k.ready (nat_le 1 k.epoch && (is_in k.who (V k.epoch) && all_cover st.marks (V k.epoch) k.epoch s)) a.1 in
      let c = and_parts (nat_le 1 k.epoch) (is_in k.who (V k.epoch) && all_cover st.marks (V k.epoch) k.epoch s) b.1 in
      let d = and_parts (is_in k.who (V k.epoch)) (all_cover st.marks (V k.epoch) k.epoch s) c.1 in (
        k.epoch,
        record {
          some_epoch = leb-true 1 k.epoch c.0;
          all = λ n h.
              let j = any_in (is_mark n k.epoch s) st.marks (all_in (λ n. list_any (is_mark n k.epoch s) st.marks) (V k.epoch) d.1 n h) in
              let is = mark_is n k.epoch s j.0 j.2 in
              record { mark = j.0; marked = (j.0, itself j.0, j.1); who = is.0; epoch = is.1; stamp = is.2 };
          one = k.who;
          one_member = in_is k.who (V k.epoch) d.0;
          one_ready = record { mark = k; marked = (k, itself k, t.1); who = refl; epoch = refl; stamp = eqb-true k.stamp s a.0; ready = b.0 };
        },
      )

  is_complete_from : (s : ℕ) → Complete V st s → is_complete V st s ≡ true
  is_complete_from s (e, c) =
      let r = c.one_ready in
      let k : Mark = r.marked.0 in
      let w = r.marked.1 in
      let who : k.who ≡ c.one = sym w.who ∙ r.who in
      let epoch : k.epoch ≡ e = sym w.epoch ∙ r.epoch in
      let stamp : k.stamp ≡ s = sym w.stamp ∙ r.stamp in
      let covers : all_cover st.marks (V k.epoch) k.epoch s ≡ true = rw epoch (in_all (λ n. list_any (is_mark n e s) st.marks) (V e) (λ n h. covered n (c.all n h))) in
      let member : is_in k.who (V k.epoch) ≡ true = rw (who, epoch) (is_in_from c.one (V e) c.one_member) in
      let some : nat_le 1 k.epoch ≡ true = rw epoch (le-leb 1 e c.some_epoch) in
      in_any (completes_by V st.marks s) st.marks k r.marked.2
      (and_from (eqb k.stamp s) _ (eq-eqb k.stamp s stamp) (and_from k.ready _ (w.ready r.ready) (and_from (nat_le 1 k.epoch) _ some (and_from (is_in k.who (V k.epoch)) _ member covers))))
    where
      covered : (n : ℕ) → Covers st n e s → list_any (is_mark n e s) st.marks ≡ true
      covered n x =
          let j = x.marked in
          in_any (is_mark n e s) st.marks j.0 j.2 (is_mark_from n e s j.0 (sym j.1.who ∙ x.who) (sym j.1.epoch ∙ x.epoch) (sym j.1.stamp ∙ x.stamp))

  -- the slots of the complete updates
  in_updates : (us : List Update) (s : Slot) → In (update_slots V st us) s → (u : Update) × In us u × Complete V st u.stamp × (s ≡ update_slot u)
  in_updates [] s h = absurd h
  in_updates (u ∷ us) s h = by_test (is_complete V st u.stamp) refl h (in_updates us s)
    where
      by_test : (b : Bool) → is_complete V st u.stamp ≡ b → In (cond b (update_slot u ∷ update_slots V st us) (update_slots V st us)) s →
          (In (update_slots V st us) s → (v : Update) × In us v × Complete V st v.stamp × (s ≡ update_slot v)) → (v : Update) × In (u ∷ us) v × Complete V st v.stamp × (s ≡ update_slot v)
      by_test true e (inl is) more = (u, inl refl, complete_is u.stamp e, is)
      by_test true e (inr h) more = let t = more h in (t.0, inr t.1, t.2, t.3)
      by_test false e h more = let t = more h in (t.0, inr t.1, t.2, t.3)

  updates_in : (us : List Update) (u : Update) → In us u → Complete V st u.stamp → In (update_slots V st us) (update_slot u)
  updates_in [] u h c = absurd h
  updates_in (v ∷ us) u (inl is) c =
      let e : is_complete V st v.stamp ≡ true = subst (λ (w : Update). is_complete V st w.stamp ≡ true) is (is_complete_from u.stamp c) in
      rw e (inl (ap update_slot is))
  updates_in (v ∷ us) u (inr h) c = by_test (is_complete V st v.stamp) (updates_in us u h c)
    where
      by_test : (b : Bool) → In (update_slots V st us) (update_slot u) → In (cond b (update_slot v ∷ update_slots V st us) (update_slots V st us)) (update_slot u)
      by_test true h = inr h
      by_test false h = h

-- the slots of the calls that changed nothing
in_looks : (items : List Item) (s : Slot) → In (look_slots items) s → StandsAt items s.place (ReadOnly s.call s.stamp s.op s.content s.answer) × (0 < s.place)
in_looks [] s h = absurd h
in_looks (ReadOnly c t op held a ∷ items) s (inl is) = subst (λ (r : Slot). StandsAt (ReadOnly c t op held a ∷ items) r.place (ReadOnly r.call r.stamp r.op r.content r.answer) × (0 < r.place)) (sym is) (inl (refl, refl), omega arith)
in_looks (ReadOnly c t op held a ∷ items) s (inr h) = let w = in_looks items s h in (inr w.0, w.1)
in_looks (Called c t op ∷ items) s h = let w = in_looks items s h in (inr w.0, w.1)
in_looks (Answered c t a ∷ items) s h = let w = in_looks items s h in (inr w.0, w.1)
in_looks (Dropped c t a ∷ items) s h = let w = in_looks items s h in (inr w.0, w.1)
in_looks (Rejected c op a ∷ items) s h = let w = in_looks items s h in (inr w.0, w.1)

abbrev slot_at : ℕ → Item → List Slot
slot_at k (ReadOnly c s op held a) = record { stamp = s; place = k; call = c; op = op; content = held; answer = a } ∷ []
slot_at k (Called c s op) = []
slot_at k (Answered c s a) = []
slot_at k (Dropped c s a) = []
slot_at k (Rejected c op a) = []

looks_split : (i : Item) (items : List Item) (s : Slot) → In (slot_at (length items + 1) i) s ⊎ In (look_slots items) s → In (look_slots (i ∷ items)) s
looks_split (ReadOnly c t op held a) items s (inl (inl is)) = inl is
looks_split (ReadOnly c t op held a) items s (inl (inr none)) = absurd none
looks_split (ReadOnly c t op held a) items s (inr h) = inr h
looks_split (Called c t op) items s (inl none) = absurd none
looks_split (Called c t op) items s (inr h) = h
looks_split (Answered c t a) items s (inl none) = absurd none
looks_split (Answered c t a) items s (inr h) = h
looks_split (Dropped c t a) items s (inl none) = absurd none
looks_split (Dropped c t a) items s (inr h) = h
looks_split (Rejected c op a) items s (inl none) = absurd none
looks_split (Rejected c op a) items s (inr h) = h

looks_in : (items : List Item) (k c s : ℕ) (op : Op) (held : Option Content) (a : Answer) → StandsAt items k (ReadOnly c s op held a) → In (look_slots items) (record { stamp = s; place = k; call = c; op = op; content = held; answer = a })
looks_in [] k c s op held a h = absurd h
looks_in (i ∷ items) k c s op held a (inr h) = looks_split i items _ (inr (looks_in items k c s op held a h))
looks_in (i ∷ items) k c s op held a (inl e) =
    let mine = look_slot k c s op held a in
    looks_split i items mine (inl (subst (λ (l : ℕ). In (slot_at l i) mine) e.1 (subst (λ (j : Item). In (slot_at k j) mine) e.0 (inl refl))))

-- at a place one item stands
one_item : (items : List Item) (k : ℕ) (i j : Item) → StandsAt items k i → StandsAt items k j → i ≡ j
one_item [] k i j h g = absurd h
one_item (x ∷ items) k i j (inl a) (inl b) = a.0 ∙ sym b.0
one_item (x ∷ items) k i j (inr a) (inr b) = one_item items k i j a b
one_item (x ∷ items) k i j (inl a) (inr b) = let w = place_within items k j b in absurd (omega (arith, a.1))
one_item (x ∷ items) k i j (inr a) (inl b) = let w = place_within items k i a in absurd (omega (arith, b.1))

-- the sort
below_is : (a b : Slot) → is_below a b ≡ true → Below a b
below_is a b e = ⊎_elim
    (λ (h : nat_lt a.stamp b.stamp ≡ true). inl (ltb-true a.stamp b.stamp h))
    (λ (h : (eqb a.stamp b.stamp && nat_lt a.place b.place) ≡ true). let t = and_parts (eqb a.stamp b.stamp) (nat_lt a.place b.place) h in inr (eqb-true a.stamp b.stamp t.0, ltb-true a.place b.place t.1)) (or_cases (nat_lt a.stamp b.stamp) (eqb a.stamp b.stamp && nat_lt a.place b.place) e)

is_below_from : (a b : Slot) → Below a b → is_below a b ≡ true
is_below_from a b (inl h) = rw (lt-ltb a.stamp b.stamp h) refl
is_below_from a b (inr h) = or_right (nat_lt a.stamp b.stamp) _ (and_from (eqb a.stamp b.stamp) (nat_lt a.place b.place) (eq-eqb a.stamp b.stamp h.0) (lt-ltb a.place b.place h.1))
  where
    or_right : (x y : Bool) → y ≡ true → (x || y) ≡ true
    or_right true y e = refl
    or_right false y e = e

below_trans : (a b c : Slot) → Below a b → Below b c → Below a c
below_trans a b c (inl h) (inl g) = inl (omega arith)
below_trans a b c (inl h) (inr g) = inl (omega (arith, g.0))
below_trans a b c (inr h) (inl g) = inl (omega (arith, h.0))
below_trans a b c (inr h) (inr g) = inr (h.0 ∙ g.0, omega (arith, h.1, g.1))

-- neither is below the other: they have one position
same_position : (a b : Slot) → is_below a b ≡ false → is_below b a ≡ false → (a.stamp ≡ b.stamp) × (a.place ≡ b.place)
same_position a b x y = ⊎_elim
    (λ (e : a.stamp ≡ b.stamp).
    ⊎_elim
    (λ (f : a.place ≡ b.place). (e, f))
    (λ (h : (a.place < b.place) ⊎ (b.place < a.place)).
    ⊎_elim
    (λ (l : a.place < b.place). absurd (false≢true (sym x ∙ is_below_from a b (inr (e, l)))))
    (λ (l : b.place < a.place). absurd (false≢true (sym y ∙ is_below_from b a (inr (sym e, l))))) h) (cases_order a.place b.place))
    (λ (h : (a.stamp < b.stamp) ⊎ (b.stamp < a.stamp)).
    ⊎_elim
    (λ (l : a.stamp < b.stamp). absurd (false≢true (sym x ∙ is_below_from a b (inl l))))
    (λ (l : b.stamp < a.stamp). absurd (false≢true (sym y ∙ is_below_from b a (inl l)))) h) (cases_order a.stamp b.stamp)

inserted_in : (s : Slot) (rs : List Slot) (x : Slot) → In (insert_slot s rs) x → (x ≡ s) ⊎ In rs x
inserted_in s [] x (inl is) = inl is
inserted_in s [] x (inr none) = absurd none
inserted_in s (r ∷ rs) x h = by_tests (is_below s r) (is_below r s) h (inserted_in s rs x)
  where
    by_tests : (b c : Bool) → In (cond b (s ∷ r ∷ rs) (cond c (r ∷ insert_slot s rs) (r ∷ rs))) x → (In (insert_slot s rs) x → (x ≡ s) ⊎ In rs x) → (x ≡ s) ⊎ In (r ∷ rs) x
    by_tests true c (inl is) more = inl is
    by_tests true c (inr h) more = inr h
    by_tests false true (inl is) more = inr (inl is)
    by_tests false true (inr h) more = ⊎_elim (λ (e : x ≡ s). inl e) (λ (t : In rs x). inr (inr t)) (more h)
    by_tests false false h more = inr h

old_inserted : (s : Slot) (rs : List Slot) (x : Slot) → In rs x → In (insert_slot s rs) x
old_inserted s [] x h = absurd h
old_inserted s (r ∷ rs) x h = by_tests (is_below s r) (is_below r s) h (old_inserted s rs x)
  where
    by_tests : (b c : Bool) → In (r ∷ rs) x → (In rs x → In (insert_slot s rs) x) → In (cond b (s ∷ r ∷ rs) (cond c (r ∷ insert_slot s rs) (r ∷ rs))) x
    by_tests true c h more = inr h
    by_tests false true (inl is) more = inl is
    by_tests false true (inr h) more = inr (more h)
    by_tests false false h more = h

new_inserted : (s : Slot) (rs : List Slot) → ((r : Slot) → In rs r → r.stamp ≡ s.stamp → r.place ≡ s.place → s ≡ r) → In (insert_slot s rs) s
new_inserted s [] one = inl refl
new_inserted s (r ∷ rs) one = by_tests (is_below s r) refl (is_below r s) refl (new_inserted s rs (λ x h. one x (inr h)))
  where
    by_tests : (b : Bool) → is_below s r ≡ b → (c : Bool) → is_below r s ≡ c → In (insert_slot s rs) s → In (cond b (s ∷ r ∷ rs) (cond c (r ∷ insert_slot s rs) (r ∷ rs))) s
    by_tests true e c f more = inl refl
    by_tests false e true f more = inr more
    by_tests false e false f more = let p = same_position s r e f in inl (one r (inl refl) (sym p.0) (sym p.1))

inserted_sorted : (s : Slot) (rs : List Slot) → Sorted rs → Sorted (insert_slot s rs)
inserted_sorted s [] sorted = (λ r h. absurd h, tt)
inserted_sorted s (r ∷ rs) sorted = by_tests (is_below s r) refl (is_below r s) refl (inserted_sorted s rs sorted.1)
  where
    by_tests : (b : Bool) → is_below s r ≡ b → (c : Bool) → is_below r s ≡ c → Sorted (insert_slot s rs) → Sorted (cond b (s ∷ r ∷ rs) (cond c (r ∷ insert_slot s rs) (r ∷ rs)))
    by_tests true e c f more =
        let below = below_is s r e in
        (λ x h. ⊎_elim (λ (is : x ≡ r). subst (Below s) (sym is) below) (λ (t : In rs x). below_trans s r x below (sorted.0 x t)) h, sorted)
    by_tests false e true f more =
        let below = below_is r s f in
        (λ x h. ⊎_elim (λ (is : x ≡ s). subst (Below r) (sym is) below) (λ (t : In rs x). sorted.0 x t) (inserted_in s rs x h), more)
    by_tests false e false f more = sorted

sorted_slots : (ss : List Slot) → Sorted (sort_slots ss)
sorted_slots [] = tt
sorted_slots (s ∷ ss) = inserted_sorted s (sort_slots ss) (sorted_slots ss)

sorted_in : (ss : List Slot) (x : Slot) → In (sort_slots ss) x → In ss x
sorted_in [] x h = h
sorted_in (s ∷ ss) x h = ⊎_elim (λ (is : x ≡ s). inl is) (λ (t : In (sort_slots ss) x). inr (sorted_in ss x t)) (inserted_in s (sort_slots ss) x h)

-- nothing is lost, where a position belongs to one slot
in_sorted : (ss : List Slot) → ((a b : Slot) → In ss a → In ss b → a.stamp ≡ b.stamp → a.place ≡ b.place → a ≡ b) → (x : Slot) → In ss x → In (sort_slots ss) x
in_sorted [] one x h = absurd h
in_sorted (s ∷ ss) one x (inl is) = subst (In (insert_slot s (sort_slots ss))) (sym is) (new_inserted s (sort_slots ss) (λ r h e f. one s r (inl refl) (inr (sorted_in ss r h)) (sym e) (sym f)))
in_sorted (s ∷ ss) one x (inr h) = old_inserted s (sort_slots ss) x (in_sorted ss (λ a b p q. one a b (inr p) (inr q)) x h)

module _ (V : ℕ → List ℕ) (st : RegisterState) (parts : Parts V st) where
  abbrev all_slots : List Slot
  all_slots = update_slots V st st.begun ++ look_slots st.history

  which : (s : Slot) → In all_slots s → ((u : Update) × In st.begun u × Complete V st u.stamp × (s ≡ update_slot u)) ⊎ (StandsAt st.history s.place (ReadOnly s.call s.stamp s.op s.content s.answer) × (0 < s.place))
  which s h = ⊎_elim
      (λ (a : In (update_slots V st st.begun) s). inl (in_updates V st st.begun s a))
      (λ (b : In (look_slots st.history) s). inr (in_looks st.history s b)) (in_either (update_slots V st st.begun) (look_slots st.history) s h)

  one_slot : (a b : Slot) → In all_slots a → In all_slots b → a.stamp ≡ b.stamp → a.place ≡ b.place → a ≡ b
  one_slot a b h g e f = by_kind (which a h) (which b g)
    where
      same_look : (a b : Slot) → a.place ≡ b.place → ReadOnly a.call a.stamp a.op a.content a.answer ≡ ReadOnly b.call b.stamp b.op b.content b.answer → a ≡ b
      same_look a b f e = slots a.place b.place f a.call b.call a.stamp b.stamp a.op b.op a.content b.content a.answer b.answer e
        where
          slots : (k l : ℕ) → k ≡ l → (c d s t : ℕ) (o p : Op) (x y : Option Content) (v w : Answer) → ReadOnly c s o x v ≡ ReadOnly d t p y w → look_slot k c s o x v ≡ look_slot l d t p y w
          slots k l f c d s t o p x y v w e = cc

      by_kind : ((u : Update) × In st.begun u × Complete V st u.stamp × (a ≡ update_slot u)) ⊎ (StandsAt st.history a.place (ReadOnly a.call a.stamp a.op a.content a.answer) × (0 < a.place)) →
          ((u : Update) × In st.begun u × Complete V st u.stamp × (b ≡ update_slot u)) ⊎ (StandsAt st.history b.place (ReadOnly b.call b.stamp b.op b.content b.answer) × (0 < b.place)) → a ≡ b
      by_kind (inl x) (inl y) =
          let same = parts.once x.0 y.0 x.1 y.1 (sym (ap (λ (z : Slot). z.stamp) x.3) ∙ (e ∙ ap (λ (z : Slot). z.stamp) y.3)) in
          x.3 ∙ (ap update_slot same ∙ sym y.3)
      by_kind (inl x) (inr y) = let z = ap (λ (z : Slot). z.place) x.3 in absurd (omega (arith, y.1))
      by_kind (inr x) (inl y) = let z = ap (λ (z : Slot). z.place) y.3 in absurd (omega (arith, x.1))
      by_kind (inr x) (inr y) = same_look a b f (one_item st.history a.place _ _ x.0 (rw f y.0))

  pub printed_is : IsPrinted V st (printed V st)
  printed_is = record {
    sorted = sorted_slots all_slots;
    update = λ s h is. ⊎_elim
        (λ (x : (u : Update) × In st.begun u × Complete V st u.stamp × (s ≡ update_slot u)). x)
        (λ (y : StandsAt st.history s.place (ReadOnly s.call s.stamp s.op s.content s.answer) × (0 < s.place)). absurd (omega (arith, y.1))) (which s (sorted_in all_slots s h));
    look = λ s h pos. ⊎_elim
        (λ (x : (u : Update) × In st.begun u × Complete V st u.stamp × (s ≡ update_slot u)). let z = ap (λ (z : Slot). z.place) x.3 in absurd (omega arith))
        (λ (y : StandsAt st.history s.place (ReadOnly s.call s.stamp s.op s.content s.answer) × (0 < s.place)). y.0) (which s (sorted_in all_slots s h));
    updates = λ u h c. in_sorted all_slots one_slot (update_slot u) (in_left (update_slots V st st.begun) (look_slots st.history) (update_slot u) (updates_in V st st.begun u h c));
    looks = λ k c s op held a h. in_sorted all_slots one_slot _ (in_right (update_slots V st st.begun) (look_slots st.history) _ (looks_in st.history k c s op held a h));
  }
