-- Each call stands once in the printed order, and what is answered stands before what began later.
use Rattle.std.proofs.Common.{◌≡◌, ◌≢◌, ℕ, zero, suc, Bool, true, false, ◌||◌, ◌+◌, List, [], ◌∷◌, ◌++◌, ◌<◌, ◌≤◌, ◌∙◌, sym, refl, ap, subst, inl, inr, ⊎_elim, arith, Option, Some, None, eqb, length, IsTrue, eq-zero-or-pos}
use Rattle.std.proofs.lemmas.Bool.{false≢true, eqb-true, eq-eqb, ne_eqb, cases_Bool, or_cases}
use Rattle.std.specs.List.{list_any, position_or_len, AllByRecursion, IsDistinct, cons_option}
use Rattle.std.specs.List.Sorted.{IsStrictlySortedBy}
use Rattle.std.specs.Ordering.{nat_cmp}
use Rattle.std.specs.Cmp.{nat_cmp_is}
use Rattle.std.specs.declared.cmp.Ordering.TheVariants.{Less}
use Rattle.std.proofs.lemmas.Map.Keys.{IsStrictlyIncreasing-from_sorted}
use Rattle.std.specs.Prelude.{nat_eq}
use Rattle.hk_base.specs.declared.call.Op.{Op}
use Rattle.hk_base.specs.declared.call.Answer.{Answer}
use Rattle.hk_base.specs.declared.call.Content.{Content}
use Rattle.hk_base.specs.declared.call.Answer.TheVariants.{Busy, Aborted, Exhausted}
use Rattle.hk_history.specs.History.{op_of, answer_of, is_void, is_unsure, is_answered}
use Rattle.hk_history.specs.Legal.{is_entry, calls_of, tags_of, Once}
use Rattle.hk_register.specs.Machine.{In, Update, Item, RegisterState, call_of}
use Rattle.hk_register.specs.Machine.Item.{Called, Answered, Dropped, ReadOnly, Rejected}
use Rattle.hk_register.specs.Parts.{Parts}
use Rattle.hk_register.specs.Calls.{IsStart, OneStart, CallParts}
use Rattle.hk_register.proofs.Calls.{one_start, own_call}
use Rattle.hk_register.specs.Printed.{Slot, entries, tag_at, Below, Sorted, update_slot, StandsAt, IsPrinted, events_of}
use Rattle.hk_register.proofs.Histories.{op_is, MaybeReplier, replier, AnswerIn, OpIn}
use Rattle.hk_register.proofs.Folding.{all_fits, stands_in}

-- a slot that has the call of an entry
pub stands_slot : (slots : List Slot) (n : ℕ) → list_any (is_entry n) (entries slots) ≡ true → (s : Slot) × In slots s × (s.call ≡ n)
stands_slot [] n e = absurd (false≢true e)
stands_slot (s ∷ ss) n e = ⊎_elim (λ (h : eqb s.call n ≡ true). (s, inl refl, eqb-true s.call n h)) (λ (h : list_any (is_entry n) (entries ss) ≡ true). let t = stands_slot ss n h in (t.0, inr t.1, t.2)) (or_cases (eqb s.call n) (list_any (is_entry n) (entries ss)) e)

or_right : (a b : Bool) → b ≡ true → (a || b) ≡ true
or_right true b e = refl
or_right false b e = e

pub slot_stands : (slots : List Slot) (s : Slot) → In slots s → list_any (is_entry s.call) (entries slots) ≡ true
slot_stands [] s h = absurd h
slot_stands (x ∷ ss) s (inl e) = rw (eq-eqb x.call s.call (sym (ap (λ (y : Slot). y.call) e))) refl
slot_stands (x ∷ ss) s (inr h) = or_right (eqb x.call s.call) (list_any (is_entry s.call) (entries ss)) (slot_stands ss s h)

not_any : (ss : List Slot) (n : ℕ) → ((s : Slot) → In ss s → s.call ≢ n) → AllByRecursion (λ m. nat_eq n m ≡ false) (calls_of (entries ss))
not_any [] n ne = tt
not_any (s ∷ ss) n ne = (ne_eqb n s.call (λ e. ne s (inl refl) (sym e)), not_any ss n (λ r h. ne r (inr h)))

pub not_itself : (a b : Slot) → a ≡ b → Below a b → ⊥
not_itself a b e below =
    let stamps = ap (λ (y : Slot). y.stamp) e in
    let places = ap (λ (y : Slot). y.place) e in
    ⊎_elim (λ (l : a.stamp < b.stamp). omega (arith, stamps)) (λ (l : (a.stamp ≡ b.stamp) × (a.place < b.place)). omega (arith, l.1, places)) below

pub place_within : (items : List Item) (k : ℕ) (j : Item) → StandsAt items k j → k ≤ length items
place_within [] k j h = absurd h
place_within (i ∷ items) k j (inl e) = omega (arith, e.1)
place_within (i ∷ items) k j (inr h) = let w = place_within items k j h in omega (arith, w)

-- an item that starts a call has one place
pub one_place : (items : List Item) → OneStart items → (k l : ℕ) (i : Item) → IsStart i → StandsAt items k i → StandsAt items l i → k ≡ l
one_place [] o k l i s h g = absurd h
one_place (x ∷ items) o k l i s (inl a) (inl b) = a.1 ∙ sym b.1
one_place (x ∷ items) o k l i s (inr a) (inr b) = one_place items o.1 k l i s a b
one_place (x ∷ items) o k l i s (inl a) (inr b) = absurd (o.0 (subst IsStart a.0 s) i (stands_in items l i b) (ap call_of a.0))
one_place (x ∷ items) o k l i s (inr a) (inl b) = absurd (o.0 (subst IsStart b.0 s) i (stands_in items k i a) (ap call_of b.0))

-- positions
pub not_before : {X : Type 0} (p : X → Bool) (xs ys : List X) → ((x : X) → In xs x → p x ≡ false) → length xs ≤ position_or_len p (xs ++ ys)
not_before p [] ys none = omega arith
not_before p (x ∷ xs) ys none = rw (none x (inl refl)) (let more = not_before p xs ys (λ y h. none y (inr h)) in omega (arith, more))

pub not_after : {X : Type 0} (p : X → Bool) (xs : List X) (y : X) (ys : List X) → p y ≡ true → position_or_len p (xs ++ (y ∷ ys)) ≤ length xs
not_after p [] y ys is = rw is (omega arith)
not_after p (x ∷ xs) y ys is =
    let more = not_after p xs y ys is in
    ⊎_elim (λ (e : p x ≡ true). rw e (omega arith)) (λ (e : p x ≡ false). rw e (omega (arith, more))) (cases_Bool (p x))

abbrev pub look_slot : ℕ → ℕ → ℕ → Op → Option Content → Answer → Slot
look_slot k c s o held x = record { stamp = s; place = k; call = c; op = o; content = held; answer = x }

-- no Busy or Exhausted call
abbrev pub RejectedNot : Item → Type 0
RejectedNot (Rejected c op a) = ⊥
RejectedNot (Called c s op) = Unit {0}
RejectedNot (Answered c s a) = Unit {0}
RejectedNot (Dropped c s a) = Unit {0}
RejectedNot (ReadOnly c s op held a) = Unit {0}

pub answered_not_void : (a : Answer) → is_answered (Some a) ≡ true → is_void (Some a) ≡ false
answered_not_void (Busy w) e = absurd (false≢true e)
answered_not_void (Aborted s) e = absurd (false≢true e)
answered_not_void (Exhausted s) e = absurd (false≢true e)
answered_not_void a e = refl

unsure_not_void : (a : Answer) → is_unsure (Some a) ≡ true → is_void (Some a) ≡ false
unsure_not_void (Busy w) e = absurd (false≢true e)
unsure_not_void (Aborted s) e = refl
unsure_not_void (Exhausted s) e = absurd (false≢true e)
unsure_not_void a e = absurd (false≢true e)

less : (a b : ℕ) → a < b → nat_cmp a b ≡ Less
less a b h = sym (nat_cmp_is a b Less h)

module _ (V : ℕ → List ℕ) (st : RegisterState) (parts : Parts V st) (cp : CallParts st) (slots : List Slot) (pr : IsPrinted V st slots) where
  -- how a slot's call starts: never by a call that was Busy or Exhausted
  record Started (s : Slot) : Type 0 where
    item : Item
    there : In st.history item
    starts : IsStart item
    call : call_of item ≡ s.call
    op : OpIn item s.op
    well : RejectedNot item

  started : (s : Slot) → In slots s → Started s
  started s h = ⊎_elim
      (λ (is : s.place ≡ 0). let f = pr.update s h is in subst Started (sym f.3) (record { item = Called f.0.call f.0.stamp f.0.op; there = cp.called f.0 f.1; starts = tt; call = refl; op = refl; well = tt }))
      (λ (pos : 0 < s.place). record { item = ReadOnly s.call s.stamp s.op s.content s.answer; there = stands_in st.history s.place (ReadOnly s.call s.stamp s.op s.content s.answer) (pr.look s h pos); starts = tt; call = refl; op = refl; well = tt }) (eq-zero-or-pos s.place)

  -- two slots of one call are one
  pub own_slot : (a b : Slot) → In slots a → In slots b → a.call ≡ b.call → a ≡ b
  own_slot a b h k e = ⊎_elim
      (λ (p : a.place ≡ 0).
      let f = pr.update a h p in
      ⊎_elim
      (λ (q : b.place ≡ 0).
      let g = pr.update b k q in
      let calls : f.0.call ≡ g.0.call = sym (ap (λ (y : Slot). y.call) f.3) ∙ (e ∙ ap (λ (y : Slot). y.call) g.3) in
      let us : f.0 ≡ g.0 = own_call V st parts cp f.0 g.0 f.1 g.1 calls in
      let ss : update_slot f.0 ≡ update_slot g.0 = ap update_slot us in
      let both : a ≡ b = f.3 ∙ (ss ∙ sym g.3) in both)
      (λ (q : 0 < b.place). absurd (mixed a b f.0 f.1 f.3 (stands_in st.history b.place (ReadOnly b.call b.stamp b.op b.content b.answer) (pr.look b k q)) e)) (eq-zero-or-pos b.place))
      (λ (p : 0 < a.place).
      ⊎_elim
      (λ (q : b.place ≡ 0). let g = pr.update b k q in absurd (mixed b a g.0 g.1 g.3 (stands_in st.history a.place (ReadOnly a.call a.stamp a.op a.content a.answer) (pr.look a h p)) (sym e)))
      (λ (q : 0 < b.place). looks a b (pr.look a h p) (pr.look b k q) e) (eq-zero-or-pos b.place)) (eq-zero-or-pos a.place)
    where
      mixed : (a b : Slot) (u : Update) → In st.begun u → a ≡ update_slot u → In st.history (ReadOnly b.call b.stamp b.op b.content b.answer) → a.call ≡ b.call → ⊥
      mixed a b u begun is there e =
          let same = one_start st.history cp.starts (Called u.call u.stamp u.op) (ReadOnly b.call b.stamp b.op b.content b.answer) (cp.called u begun) there tt tt (sym (ap (λ (y : Slot). y.call) is) ∙ e) in
          no_way u.call u.stamp u.op b.call b.stamp b.op b.content b.answer same
        where
          no_way : (c s : ℕ) (o : Op) (d t : ℕ) (p : Op) (held : Option Content) (x : Answer) → Called c s o ≡ ReadOnly d t p held x → ⊥
          no_way c s o d t p held x e = cc

      looks : (a b : Slot) → StandsAt st.history a.place (ReadOnly a.call a.stamp a.op a.content a.answer) → StandsAt st.history b.place (ReadOnly b.call b.stamp b.op b.content b.answer) → a.call ≡ b.call → a ≡ b
      looks a b x y e =
          let same = one_start st.history cp.starts (ReadOnly a.call a.stamp a.op a.content a.answer) (ReadOnly b.call b.stamp b.op b.content b.answer) (stands_in st.history a.place (ReadOnly a.call a.stamp a.op a.content a.answer) x) (stands_in st.history b.place (ReadOnly b.call b.stamp b.op b.content b.answer) y) tt tt e in
          let place = one_place st.history cp.starts a.place b.place (ReadOnly a.call a.stamp a.op a.content a.answer) tt x (subst (StandsAt st.history b.place) (sym same) y) in
          slot_of a.place b.place place a.call a.stamp a.op a.content a.answer b.call b.stamp b.op b.content b.answer same
        where
          slot_of : (k l : ℕ) → k ≡ l → (c s : ℕ) (o : Op) (held : Option Content) (x : Answer) (d t : ℕ) (p : Op) (held' : Option Content) (y : Answer) → ReadOnly c s o held x ≡ ReadOnly d t p held' y →
              look_slot k c s o held x ≡ look_slot l d t p held' y
          slot_of k l e c s o held x d t p held' y same = cc

  distinct : (rest : List Slot) → Sorted rest → ((v : Slot) → In rest v → In slots v) → IsDistinct nat_eq (calls_of (entries rest))
  unfolding IsDistinct
  distinct [] sorted within = tt
  distinct (u ∷ us) sorted within = (
    not_any us u.call (λ r h e. not_itself u r (own_slot u r (within u (inl refl)) (within r (inr h)) (sym e)) (sorted.0 r h)),
    distinct us sorted.1 (λ v h. within v (inr h)),
  )

  -- the tags of changes rise
  tags_above : (rest : List Slot) (t : ℕ) → ((v : Slot) → In rest v → v.place ≡ 0 → t < v.stamp) → AllByRecursion (λ s. nat_cmp t s ≡ Less) (tags_of (entries rest))
  tags_above [] t above = tt
  tags_above (u ∷ us) t above = by_place u.place refl (tags_above us t (λ v h i. above v (inr h) i))
    where
      by_place : (k : ℕ) → u.place ≡ k → AllByRecursion (λ s. nat_cmp t s ≡ Less) (tags_of (entries us)) → AllByRecursion (λ s. nat_cmp t s ≡ Less) (cons_option (tag_at k u.stamp) (tags_of (entries us)))
      by_place zero e more = (less t u.stamp (above u (inl refl) e), more)
      by_place (suc k) e more = more

  tags_rise : (rest : List Slot) → Sorted rest → IsStrictlySortedBy nat_cmp (tags_of (entries rest))
  unfolding IsStrictlySortedBy
  tags_rise [] sorted = tt
  tags_rise (u ∷ us) sorted = by_place u.place refl (tags_rise us sorted.1)
    where
      below_update : (v : Slot) → In us v → v.place ≡ 0 → u.stamp < v.stamp
      below_update v h i = ⊎_elim (λ (l : u.stamp < v.stamp). l) (λ (l : (u.stamp ≡ v.stamp) × (u.place < v.place)). absurd (omega (arith, l.1))) (sorted.0 v h)

      by_place : (k : ℕ) → u.place ≡ k → IsStrictlySortedBy nat_cmp (tags_of (entries us)) → IsStrictlySortedBy nat_cmp (cons_option (tag_at k u.stamp) (tags_of (entries us)))
      by_place zero e more = (tags_above us u.stamp below_update, more)
      by_place (suc k) e more = more

  -- an answered call stands
  answered_stands : (n : ℕ) (o : Option Answer) → answer_of (events_of st.history) n ≡ o → MaybeReplier st.history n o → is_answered o ≡ true → list_any (is_entry n) (entries slots) ≡ true
  answered_stands n None is r e = absurd (false≢true e)
  answered_stands n (Some a) is r e = by_item r.item r.there r.call r.answer
    where
      of_slot : (s : Slot) → In slots s → s.call ≡ n → list_any (is_entry n) (entries slots) ≡ true
      of_slot s h call = subst (λ (m : ℕ). list_any (is_entry m) (entries slots) ≡ true) call (slot_stands slots s h)

      at_place : (items : List Item) (i : Item) → In items i → (k : ℕ) × StandsAt items k i
      at_place [] i h = absurd h
      at_place (x ∷ items) i (inl e) = (length items + 1, inl (e, refl))
      at_place (x ∷ items) i (inr h) = let t = at_place items i h in (t.0, inr t.1)

      by_item : (i : Item) → In st.history i → call_of i ≡ n → AnswerIn i a → list_any (is_entry n) (entries slots) ≡ true
      by_item (Called c s op) h call told = absurd told
      by_item (Answered c s b) h call told =
          let w = cp.items (Answered c s b) h in
          let done = (parts.items (Answered c s b) h).0 in
          of_slot (update_slot w.0) (pr.updates w.0 w.1 (rw w.3 done)) (w.2 ∙ call)
      by_item (Dropped c s b) h call told = let w = cp.items (Dropped c s b) h in absurd (Rattle.hk_register.proofs.Folding.unlike a e (subst (λ (x : Answer). is_unsure (Some x) ≡ true) told w.1))
      by_item (ReadOnly c s op held b) h call told = let t = at_place st.history (ReadOnly c s op held b) h in of_slot _ (pr.looks t.0 c s op held b t.1) call
      by_item (Rejected c op b) h call told = let w = cp.items (Rejected c op b) h in absurd (false≢true (sym (answered_not_void a e) ∙ subst (λ (x : Answer). is_void (Some x) ≡ true) told w))

  -- a call that stands was not Busy or Exhausted
  standing : (n : ℕ) → list_any (is_entry n) (entries slots) ≡ true → (o : Option Answer) → MaybeReplier st.history n o → is_void o ≡ false
  standing n e None r = refl
  standing n e (Some a) r = by_item r.item r.there r.call r.answer
    where
      slot : (s : Slot) × In slots s × (s.call ≡ n)
      slot = stands_slot slots n e

      clash : (x y : Item) → x ≡ y → (o : Op) → OpIn x o → (c : ℕ) (p : Op) (b : Answer) → y ≡ Rejected c p b → IsTrue (is_void (Some b)) → RejectedNot x → ⊥
      clash x y e o h c p b is void ok = subst RejectedNot (e ∙ is) ok

      by_item : (i : Item) → In st.history i → call_of i ≡ n → AnswerIn i a → is_void (Some a) ≡ false
      by_item (Called c s op) h call told = absurd told
      by_item (Answered c s b) h call told =
          let w = cp.items (Answered c s b) h in
          let made = (parts.updates w.0 w.1).made in
          let was : is_answered (Some w.0.answer) ≡ true = made.changes.answered in
          answered_not_void a (subst (λ (x : Answer). is_answered (Some x) ≡ true) (w.4 ∙ told) was)
      by_item (Dropped c s b) h call told = let w = cp.items (Dropped c s b) h in unsure_not_void a (subst (λ (x : Answer). is_unsure (Some x) ≡ true) told w.1)
      by_item (ReadOnly c s op held b) h call told = answered_not_void a (subst (λ (x : Answer). is_answered (Some x) ≡ true) told (cp.items (ReadOnly c s op held b) h))
      by_item (Rejected c op b) h call told =
          let s = slot in
          let st_s = started s.0 s.1 in
          let same = one_start st.history cp.starts st_s.item (Rejected c op b) st_s.there h st_s.starts tt (st_s.call ∙ (s.2 ∙ sym call)) in
          absurd (clash st_s.item (Rejected c op b) same s.0.op st_s.op c op b refl (cp.items (Rejected c op b) h) st_s.well)

  pub all_once : Once (events_of st.history) (entries slots)
  all_once = record {
    distinct = distinct slots pr.sorted (λ v h. h);
    known = λ n e. let s = stands_slot slots n e in let b = started s.0 s.1 in rw (subst (λ (m : ℕ). op_of (events_of st.history) m ≡ Some s.0.op) (b.call ∙ s.2) (op_is st.history cp.starts b.item s.0.op b.there b.op)) refl;
    not_void = λ n e. standing n e (answer_of (events_of st.history) n) (replier st.history n);
    answered = λ n e. answered_stands n (answer_of (events_of st.history) n) refl (replier st.history n) e;
    rising = IsStrictlyIncreasing-from_sorted _ (tags_rise slots pr.sorted);
  }
