-- Whoever was answered before another began stands before it.
use Rattle.std.proofs.Common.{◌≡◌, ◌⊎◌, ℕ, Bool, true, false, cond, ◌+◌, List, [], ◌∷◌, ◌++◌, ◌<◌, ◌≤◌, ◌∙◌, sym, refl, ap, subst, inl, inr, ⊎_elim, arith, Option, Some, None, eqb, length, append-nil, eq-zero-or-pos}
use Rattle.std.proofs.lemmas.Bool.{false≢true, eq-eqb, ne_eqb, cases_lt}
use Rattle.std.specs.List.{position_or_len}
use Rattle.hk_base.specs.declared.call.Op.{Op}
use Rattle.hk_base.specs.declared.call.Answer.{Answer}
use Rattle.hk_base.specs.declared.call.Content.{Content}
use Rattle.hk_history.specs.declared.event.Event.{Event}
use Rattle.hk_history.specs.declared.event.Event.TheVariants.{Call, Reply}
use Rattle.hk_history.specs.History.{answer_of, is_call, is_reply, is_answered}
use Rattle.hk_history.specs.Legal.{is_entry, Timely}
use Rattle.hk_register.specs.Machine.{In, Item, RegisterState, call_of}
use Rattle.hk_register.specs.Machine.Item.{Called, Answered, Dropped, ReadOnly, Rejected}
use Rattle.hk_register.specs.Parts.{Parts, TimelyAfter}
use Rattle.hk_register.specs.Calls.{IsStart, IsReply, CallParts}
use Rattle.hk_register.specs.Printed.{Slot, entries, Below, Sorted, update_slot, StandsAt, IsPrinted, item_events, events_of}
use Rattle.hk_register.proofs.Histories.{answer_is, MaybeReplier, replier, AnswerIn}
use Rattle.hk_register.proofs.Folding.{stands_in, unlike}
use Rattle.hk_register.proofs.Once.{stands_slot, not_itself, place_within, one_place, not_before, not_after, answered_not_void, own_slot, look_slot}

append_of : {X : Type 0} (a b c : List X) → (a ++ b) ++ c ≡ a ++ (b ++ c)
append_of [] b c = refl
append_of (x ∷ a) b c = ap (λ (l : List _). x ∷ l) (append_of a b c)

no_reply : (xs : List Event) (m : ℕ) → answer_of xs m ≡ None → (e : Event) → In xs e → is_reply m e ≡ false
no_reply [] m none e h = absurd h
no_reply (Call c op ∷ xs) m none e h = ⊎_elim (λ (is : e ≡ Call c op). rw is refl) (no_reply xs m none e) h
no_reply (Reply c a ∷ xs) m none e h = by_test (eqb c.0 m) refl none (no_reply xs m)
  where
    by_test : (b : Bool) → eqb c.0 m ≡ b → cond b (Some a) (answer_of xs m) ≡ None → (answer_of xs m ≡ None → (e : Event) → In xs e → is_reply m e ≡ false) → is_reply m e ≡ false
    by_test true t none more = cc
    by_test false t none more = ⊎_elim (λ (is : e ≡ Reply c a). rw is t) (more none e) h

first_call : (x : Item) → IsStart x → (op : Op) × (more : List Event) × (item_events x ≡ Call (record { 0 = call_of x }) op ∷ more)
first_call (Called c s op) st = (op, [], refl)
first_call (ReadOnly c s op held a) st = (op, Reply (record { 0 = c }) a ∷ [], refl)
first_call (Rejected c op a) st = (op, Reply (record { 0 = c }) a ∷ [], refl)
first_call (Answered c s a) st = absurd st
first_call (Dropped c s a) st = absurd st

is_reply_of : (i : Item) (a : Answer) → AnswerIn i a → IsReply i
is_reply_of (Called c s op) o e = absurd e
is_reply_of (ReadOnly c s op held a) o e = tt
is_reply_of (Rejected c op a) o e = tt
is_reply_of (Answered c s a) o e = tt
is_reply_of (Dropped c s a) o e = tt

-- positions of slots
slot_first : (rest : List Slot) → Sorted rest → ((x y : Slot) → In rest x → In rest y → x.call ≡ y.call → x ≡ y) → (a b : Slot) → In rest a → In rest b → Below a b → position_or_len (is_entry a.call) (entries rest) < position_or_len (is_entry b.call) (entries rest)
slot_first [] sorted own a b h k below = absurd h
slot_first (u ∷ us) sorted own a b (inl ea) (inl eb) below = absurd (not_itself a b (ea ∙ sym eb) below)
slot_first (u ∷ us) sorted own a b (inl ea) (inr kb) below =
    let here : eqb u.call a.call ≡ true = eq-eqb u.call a.call (sym (ap (λ (y : Slot). y.call) ea)) in
    let other : eqb u.call b.call ≡ false = ne_eqb u.call b.call (λ e. not_itself a b (ea ∙ own u b (inl refl) (inr kb) e) below) in
    rw (here, other) (omega arith)
slot_first (u ∷ us) sorted own a b (inr ka) (inl eb) below = absurd (turned u a b eb (sorted.0 a ka) below)
  where
    turned : (u a b : Slot) → b ≡ u → Below u a → Below a b → ⊥
    turned u a b e up down =
        let stamps = ap (λ (y : Slot). y.stamp) e in
        let places = ap (λ (y : Slot). y.place) e in
        ⊎_elim
        (λ (l : u.stamp < a.stamp). ⊎_elim (λ (m : a.stamp < b.stamp). omega arith) (λ (m : (a.stamp ≡ b.stamp) × (a.place < b.place)). omega (arith, m.0)) down)
        (λ (l : (u.stamp ≡ a.stamp) × (u.place < a.place)). ⊎_elim (λ (m : a.stamp < b.stamp). omega (arith, l.0)) (λ (m : (a.stamp ≡ b.stamp) × (a.place < b.place)). omega (arith, l.1, m.1)) down) up
slot_first (u ∷ us) sorted own a b (inr ka) (inr kb) below =
    let other_a : eqb u.call a.call ≡ false = ne_eqb u.call a.call (λ e. not_itself u a (own u a (inl refl) (inr ka) e) (sorted.0 a ka)) in
    let other_b : eqb u.call b.call ≡ false = ne_eqb u.call b.call (λ e. not_itself u b (own u b (inl refl) (inr kb) e) (sorted.0 b kb)) in
    let more = slot_first us sorted.1 (λ x y h k e. own x y (inr h) (inr k) e) a b ka kb below in
    rw (other_a, other_b) (omega (arith, more))

module _ (V : ℕ → List ℕ) where
  timely_rest : (x : Item) (items : List Item) → TimelyAfter V (x ∷ items) → TimelyAfter V items
  timely_rest (Called c s op) items t = t.1
  timely_rest (ReadOnly c s op held a) items t = t.1
  timely_rest (Answered c s a) items t = t
  timely_rest (Dropped c s a) items t = t
  timely_rest (Rejected c op a) items t = t

  -- the reply stands among what is older than the call
  record Earlier (items : List Item) (j : Item) (m : ℕ) : Type 0 where
    older : List Item
    timely : TimelyAfter V (j ∷ older)
    place : StandsAt items (length older + 1) j
    within : (k : ℕ) (i : Item) → StandsAt older k i → StandsAt items k i
    reply : Item
    there : In older reply
    replies : IsReply reply
    of_call : call_of reply ≡ m

  earlier : (items : List Item) → TimelyAfter V items → (tail : List Event) (j : Item) → In items j → IsStart j → (m : ℕ) →
      position_or_len (is_reply m) (events_of items ++ tail) < position_or_len (is_call (call_of j)) (events_of items ++ tail) → Earlier items j m
  earlier [] timely tail j h start m before = absurd h
  earlier (x ∷ items) timely tail j (inr h) start m before =
      let same : (events_of items ++ item_events x) ++ tail ≡ events_of items ++ (item_events x ++ tail) = append_of (events_of items) (item_events x) tail in
      let e = earlier items (timely_rest x items timely) (item_events x ++ tail) j h start m (subst (λ (l : List Event). position_or_len (is_reply m) l < position_or_len (is_call (call_of j)) l) same before) in
      record { older = e.older; timely = e.timely; place = inr e.place; within = λ k i s. inr (e.within k i s); reply = e.reply; there = e.there; replies = e.replies; of_call = e.of_call }
  earlier (x ∷ items) timely tail j (inl is) start m before = by_answer (answer_of (events_of items) m) refl (replier items m)
    where
      by_answer : (o : Option Answer) → answer_of (events_of items) m ≡ o → MaybeReplier items m o → Earlier (x ∷ items) j m
      by_answer (Some a) e r = record { older = items; timely = subst (λ (y : Item). TimelyAfter V (y ∷ items)) (sym is) timely; place = inl (is, refl); within = λ k i s. inr s; reply = r.item; there = r.there; replies = is_reply_of r.item a r.answer; of_call = r.call }
      by_answer None e r =
          let same : (events_of items ++ item_events x) ++ tail ≡ events_of items ++ (item_events x ++ tail) = append_of (events_of items) (item_events x) tail in
          let late : position_or_len (is_reply m) (events_of items ++ (item_events x ++ tail)) < position_or_len (is_call (call_of j)) (events_of items ++ (item_events x ++ tail)) = subst (λ (l : List Event). position_or_len (is_reply m) l < position_or_len (is_call (call_of j)) l) same before in
          let f = first_call x (subst IsStart is start) in
          let low = not_before (is_reply m) (events_of items) (item_events x ++ tail) (no_reply (events_of items) m e) in
          let calls : eqb (call_of x) (call_of j) ≡ true = eq-eqb (call_of x) (call_of j) (sym (ap call_of is)) in
          let high : position_or_len (is_call (call_of j)) (events_of items ++ (item_events x ++ tail)) ≤ length (events_of items) = rw f.2 (not_after (is_call (call_of j)) (events_of items) (Call (record { 0 = call_of x }) f.0) (f.1 ++ tail) calls) in
          absurd (omega arith)

module _ (V : ℕ → List ℕ) (st : RegisterState) (parts : Parts V st) (cp : CallParts st) (slots : List Slot) (pr : IsPrinted V st slots) where
  -- where an answered slot's reply stands among older items
  abbrev Where : List Item → Slot → Type 0
  Where older a = (((c : ℕ) × (x : Answer) × In older (Answered c a.stamp x)) ⊎ ((c : ℕ) × (op : Op) × (held : Option Content) × (x : Answer) × In older (ReadOnly c a.stamp op held x))) × (a.place ≤ length older)

  at_place : (items : List Item) (i : Item) → In items i → (k : ℕ) × StandsAt items k i
  at_place [] i h = absurd h
  at_place (x ∷ items) i (inl e) = (length items + 1, inl (e, refl))
  at_place (x ∷ items) i (inr h) = let t = at_place items i h in (t.0, inr t.1)

  place_of : (a : Slot) → In slots a → is_answered (answer_of (events_of st.history) a.call) ≡ true → (older : List Item) → ((k : ℕ) (i : Item) → StandsAt older k i → StandsAt st.history k i) → (r : Item) → In older r → IsReply r → call_of r ≡ a.call → Where older a
  place_of a mine told older within (Called c s op) h reply call = absurd reply
  place_of a mine told older within (Answered c s x) h reply call =
      let p = at_place older (Answered c s x) h in
      let there = stands_in st.history p.0 (Answered c s x) (within p.0 (Answered c s x) p.1) in
      let w = cp.items (Answered c s x) there in
      let done = (parts.items (Answered c s x) there).0 in
      let same : a ≡ update_slot w.0 = own_slot V st parts cp slots pr a (update_slot w.0) mine (pr.updates w.0 w.1 (rw w.3 done)) (sym call ∙ sym w.2) in
      let stamp : a.stamp ≡ s = ap (λ (y : Slot). y.stamp) same ∙ w.3 in
      let place : a.place ≡ 0 = ap (λ (y : Slot). y.place) same in
      (inl (c, x, subst (λ (t : ℕ). In older (Answered c t x)) (sym stamp) h), omega arith)
  place_of a mine told older within (ReadOnly c s op held x) h reply call =
      let p = at_place older (ReadOnly c s op held x) h in
      let w = pr.looks p.0 c s op held x (within p.0 (ReadOnly c s op held x) p.1) in
      let same : a ≡ look_slot p.0 c s op held x = own_slot V st parts cp slots pr a (look_slot p.0 c s op held x) mine w (sym call) in
      let stamp : a.stamp ≡ s = ap (λ (y : Slot). y.stamp) same in
      let place : a.place ≡ p.0 = ap (λ (y : Slot). y.place) same in
      let low = place_within older p.0 (ReadOnly c s op held x) p.1 in
      (inr (c, op, held, x, subst (λ (t : ℕ). In older (ReadOnly c t op held x)) (sym stamp) h), omega arith)
  place_of a mine told older within (Dropped c s x) h reply call =
      let p = at_place older (Dropped c s x) h in
      let there = stands_in st.history p.0 (Dropped c s x) (within p.0 (Dropped c s x) p.1) in
      let is = answer_is st.history cp.replies (Dropped c s x) x there refl in
      let told' : is_answered (Some x) ≡ true = subst (λ (o : Option Answer). is_answered o ≡ true) (subst (λ (n : ℕ). answer_of (events_of st.history) n ≡ Some x) call is) told in
      absurd (unlike x told' (cp.items (Dropped c s x) there).1)
  place_of a mine told older within (Rejected c op x) h reply call =
      let p = at_place older (Rejected c op x) h in
      let there = stands_in st.history p.0 (Rejected c op x) (within p.0 (Rejected c op x) p.1) in
      let is = answer_is st.history cp.replies (Rejected c op x) x there refl in
      let told' : is_answered (Some x) ≡ true = subst (λ (o : Option Answer). is_answered o ≡ true) (subst (λ (n : ℕ). answer_of (events_of st.history) n ≡ Some x) call is) told in
      absurd (false≢true (sym (answered_not_void x told') ∙ cp.items (Rejected c op x) there))

  stands_below : (a b : Slot) → In slots a → In slots b → is_answered (answer_of (events_of st.history) a.call) ≡ true →
      position_or_len (is_reply a.call) (events_of st.history) < position_or_len (is_call b.call) (events_of st.history) → Below a b
  stands_below a b ha hb told before = ⊎_elim
      (λ (is : b.place ≡ 0).
      let f = pr.update b hb is in
      let calls : b.call ≡ f.0.call = ap (λ (y : Slot). y.call) f.3 in
      let stamps : b.stamp ≡ f.0.stamp = ap (λ (y : Slot). y.stamp) f.3 in
      let e = earlier V st.history parts.timely [] (Called f.0.call f.0.stamp f.0.op) (cp.called f.0 f.1) tt a.call (rw (append-nil (events_of st.history), ← calls) before) in
      let w = place_of a ha told e.older e.within e.reply e.there e.replies e.of_call in
      inl (⊎_elim
      (λ (x : (c : ℕ) × (x : Answer) × In e.older (Answered c a.stamp x)). let l = e.timely.0.answered x.0 a.stamp x.1 x.2 in omega arith)
      (λ (x : (c : ℕ) × (op : Op) × (held : Option Content) × (x : Answer) × In e.older (ReadOnly c a.stamp op held x)). let l = e.timely.0.looked x.0 a.stamp x.1 x.2 x.3 x.4 in omega arith) w.0))
      (λ (pos : 0 < b.place).
      let j = ReadOnly b.call b.stamp b.op b.content b.answer in
      let at = pr.look b hb pos in
      let e = earlier V st.history parts.timely [] j (stands_in st.history b.place j at) tt a.call (rw (append-nil (events_of st.history)) before) in
      let w = place_of a ha told e.older e.within e.reply e.there e.replies e.of_call in
      let place : b.place ≡ length e.older + 1 = one_place st.history cp.starts b.place (length e.older + 1) j tt at e.place in
      let upto : a.stamp ≤ b.stamp = ⊎_elim
      (λ (x : (c : ℕ) × (x : Answer) × In e.older (Answered c a.stamp x)). e.timely.0.answered x.0 a.stamp x.1 x.2)
      (λ (x : (c : ℕ) × (op : Op) × (held : Option Content) × (x : Answer) × In e.older (ReadOnly c a.stamp op held x)). e.timely.0.looked x.0 a.stamp x.1 x.2 x.3 x.4) w.0 in
      let low = w.1 in
      ⊎_elim (λ (l : a.stamp < b.stamp). inl l) (λ (l : b.stamp ≤ a.stamp). inr (omega arith, omega arith)) (cases_lt a.stamp b.stamp)) (eq-zero-or-pos b.place)

  pub all_timely : Timely (events_of st.history) (entries slots)
  all_timely m n sm sn told before =
      let a = stands_slot slots m sm in
      let b = stands_slot slots n sn in
      let told' : is_answered (answer_of (events_of st.history) a.0.call) ≡ true = rw a.2 told in
      let before' : position_or_len (is_reply a.0.call) (events_of st.history) < position_or_len (is_call b.0.call) (events_of st.history) = rw (a.2, b.2) before in
      let below = stands_below a.0 b.0 a.1 b.1 told' before' in
      let first = slot_first slots pr.sorted (λ x y h k e. own_slot V st parts cp slots pr x y h k e) a.0 b.0 a.1 b.1 below in
      rw (← a.2, ← b.2) first
