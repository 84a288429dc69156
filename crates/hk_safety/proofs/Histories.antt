-- The items of a key make a history: each number is called once, and has at most one reply, which follows its call.
use Rattle.std.proofs.Common.{◌≡◌, ◌≢◌, ◌⊎◌, ℕ, suc, ◌+◌, ◌<◌, ◌≤◌, Bool, true, false, cond, not, ◌||◌, List, [], ◌∷◌, ◌++◌, length, count_by, refl, sym, ap, subst, ◌∙◌, inl, inr, ⊎_elim, arith, eqb}
use Rattle.std.specs.Prelude.{⊤}
use Rattle.std.specs.List.{list_any, position_or_len}
use Rattle.std.proofs.lemmas.Bool.{false≢true, eqb-true, eq-eqb, ne_eqb}
use Rattle.std.proofs.lemmas.List.Sums.{sum_by-cons}
use Rattle.hk_history.specs.declared.event.Event.{Event}
use Rattle.hk_history.specs.declared.event.Event.TheVariants.{Call, Reply}
use Rattle.hk_history.specs.History.{is_call, is_reply, IsHistory}
use Rattle.hk_register.specs.Machine.{In, Item, RegisterState, call_of}
use Rattle.hk_register.specs.Machine.Item.{Called, Answered, Dropped, ReadOnly, Rejected}
use Rattle.hk_register.specs.Calls.{IsStart, IsReply, OneStart, OneReply, CallParts}
use Rattle.hk_register.specs.Printed.{item_events, events_of}

-- ---- counts
add3 : (a b c : ℕ) → a + (b + c) ≡ (a + b) + c
add3 a b c = omega arith

zero_add : (n : ℕ) → n ≡ 0 + n
zero_add n = omega arith

module _ {X : Type 0} (p : X → Bool) where
  count_cons : (x : X) (xs : List X) → count_by p (x ∷ xs) ≡ cond (p x) 1 0 + count_by p xs
  count_cons x xs = sum_by-cons (λ y. cond (p y) 1 0) x xs

  count_append : (xs ys : List X) → count_by p (xs ++ ys) ≡ count_by p xs + count_by p ys
  count_append [] ys = zero_add (count_by p ys)
  count_append (x ∷ xs) ys = count_cons x (xs ++ ys) ∙ ap (λ (n : ℕ). cond (p x) 1 0 + n) (count_append xs ys)
      ∙ add3 (cond (p x) 1 0) (count_by p xs) (count_by p ys) ∙ ap (λ (n : ℕ). n + count_by p ys) (sym (count_cons x xs))

  count_one : (x : X) → count_by p (x ∷ []) ≡ cond (p x) 1 0 + 0
  count_one x = count_cons x []

  count_two : (x y : X) → count_by p (x ∷ y ∷ []) ≡ cond (p x) 1 0 + (cond (p y) 1 0 + 0)
  count_two x y = count_cons x (y ∷ []) ∙ ap (λ (n : ℕ). cond (p x) 1 0 + n) (count_one y)

few_one : (b : Bool) → cond b 1 0 + 0 ≤ 1
few_one true = omega arith
few_one false = omega arith

few_first : (b : Bool) → cond b 1 0 + (0 + 0) ≤ 1
few_first true = omega arith
few_first false = omega arith

few_second : (b : Bool) → 0 + (cond b 1 0 + 0) ≤ 1
few_second true = omega arith
few_second false = omega arith

at_most : (n m : ℕ) → n ≡ m → m ≤ 1 → n ≤ 1
at_most n m is le = omega (arith, is, le)

-- ---- the calls and the replies of one item
calls_few : (n : ℕ) (i : Item) → count_by (is_call n) (item_events i) ≤ 1
calls_few n (Called c s op) = at_most _ _ (count_one (is_call n) (Call (record { 0 = c }) op)) (few_one (eqb c n))
calls_few n (Answered c s a) = at_most _ _ (count_one (is_call n) (Reply (record { 0 = c }) a)) (few_one false)
calls_few n (Dropped c s a) = at_most _ _ (count_one (is_call n) (Reply (record { 0 = c }) a)) (few_one false)
calls_few n (ReadOnly c s op held a) = at_most _ _ (count_two (is_call n) (Call (record { 0 = c }) op) (Reply (record { 0 = c }) a)) (few_first (eqb c n))
calls_few n (Rejected c op a) = at_most _ _ (count_two (is_call n) (Call (record { 0 = c }) op) (Reply (record { 0 = c }) a)) (few_first (eqb c n))

replies_few : (n : ℕ) (i : Item) → count_by (is_reply n) (item_events i) ≤ 1
replies_few n (Called c s op) = at_most _ _ (count_one (is_reply n) (Call (record { 0 = c }) op)) (few_one false)
replies_few n (Answered c s a) = at_most _ _ (count_one (is_reply n) (Reply (record { 0 = c }) a)) (few_one (eqb c n))
replies_few n (Dropped c s a) = at_most _ _ (count_one (is_reply n) (Reply (record { 0 = c }) a)) (few_one (eqb c n))
replies_few n (ReadOnly c s op held a) = at_most _ _ (count_two (is_reply n) (Call (record { 0 = c }) op) (Reply (record { 0 = c }) a)) (few_second (eqb c n))
replies_few n (Rejected c op a) = at_most _ _ (count_two (is_reply n) (Call (record { 0 = c }) op) (Reply (record { 0 = c }) a)) (few_second (eqb c n))

-- an item of another call, or of none, counts nothing
none_at : (c n : ℕ) → c ≢ n → ◌≡◌ {A = ℕ} (cond (eqb c n) 1 0) 0
none_at c n ne = ap (λ (b : Bool). cond {A = ℕ} b 1 0) (ne_eqb c n ne)

calls_none : (n : ℕ) (i : Item) → (IsStart i → call_of i ≢ n) → count_by (is_call n) (item_events i) ≡ 0
calls_none n (Called c s op) ne = count_one (is_call n) (Call (record { 0 = c }) op) ∙ ap (λ (m : ℕ). m + 0) (none_at c n (ne tt))
calls_none n (Answered c s a) ne = count_one (is_call n) (Reply (record { 0 = c }) a)
calls_none n (Dropped c s a) ne = count_one (is_call n) (Reply (record { 0 = c }) a)
calls_none n (ReadOnly c s op held a) ne = count_two (is_call n) (Call (record { 0 = c }) op) (Reply (record { 0 = c }) a) ∙ ap (λ (m : ℕ). m + (0 + 0)) (none_at c n (ne tt))
calls_none n (Rejected c op a) ne = count_two (is_call n) (Call (record { 0 = c }) op) (Reply (record { 0 = c }) a) ∙ ap (λ (m : ℕ). m + (0 + 0)) (none_at c n (ne tt))

replies_none : (n : ℕ) (i : Item) → (IsReply i → call_of i ≢ n) → count_by (is_reply n) (item_events i) ≡ 0
replies_none n (Called c s op) ne = count_one (is_reply n) (Call (record { 0 = c }) op)
replies_none n (Answered c s a) ne = count_one (is_reply n) (Reply (record { 0 = c }) a) ∙ ap (λ (m : ℕ). m + 0) (none_at c n (ne tt))
replies_none n (Dropped c s a) ne = count_one (is_reply n) (Reply (record { 0 = c }) a) ∙ ap (λ (m : ℕ). m + 0) (none_at c n (ne tt))
replies_none n (ReadOnly c s op held a) ne = count_two (is_reply n) (Call (record { 0 = c }) op) (Reply (record { 0 = c }) a) ∙ ap (λ (m : ℕ). 0 + (m + 0)) (none_at c n (ne tt))
replies_none n (Rejected c op a) ne = count_two (is_reply n) (Call (record { 0 = c }) op) (Reply (record { 0 = c }) a) ∙ ap (λ (m : ℕ). 0 + (m + 0)) (none_at c n (ne tt))

-- by whether the item is of this call
same_or_not : (a n : ℕ) → (a ≡ n) ⊎ (a ≢ n)
same_or_not a n = by_test (eqb a n) refl
  where
    by_test : (b : Bool) → eqb a n ≡ b → (a ≡ n) ⊎ (a ≢ n)
    by_test true e = inl (eqb-true a n e)
    by_test false e = inr (λ is. false≢true (sym e ∙ eq-eqb a n is))

starts_or_not : (i : Item) → IsStart i ⊎ (IsStart i → ⊥)
starts_or_not (Called c s op) = inl tt
starts_or_not (ReadOnly c s op held a) = inl tt
starts_or_not (Rejected c op a) = inl tt
starts_or_not (Answered c s a) = inr (λ n. n)
starts_or_not (Dropped c s a) = inr (λ n. n)

replies_or_not : (i : Item) → IsReply i ⊎ (IsReply i → ⊥)
replies_or_not (Called c s op) = inr (λ n. n)
replies_or_not (ReadOnly c s op held a) = inl tt
replies_or_not (Rejected c op a) = inl tt
replies_or_not (Answered c s a) = inl tt
replies_or_not (Dropped c s a) = inl tt

-- ---- items of which each call has at most one of a kind
abbrev Once : (Item → Type 0) → List Item → Type 0
Once Is [] = ⊤
Once Is (i ∷ items) = (Is i → (j : Item) → In items j → Is j → call_of j ≢ call_of i) × Once Is items

module _ (p : ℕ → Event → Bool) (Is : Item → Type 0) (few : (n : ℕ) (i : Item) → count_by (p n) (item_events i) ≤ 1)
    (none : (n : ℕ) (i : Item) → (Is i → call_of i ≢ n) → count_by (p n) (item_events i) ≡ 0) (or_not : (i : Item) → Is i ⊎ (Is i → ⊥)) where
  none_of : (items : List Item) (n : ℕ) → ((j : Item) → In items j → Is j → call_of j ≢ n) → count_by (p n) (events_of items) ≡ 0
  none_of [] n others = refl
  none_of (i ∷ items) n others =
      let old = none_of items n (λ j h. others j (inr h)) in
      let new = none n i (others i (inl refl)) in
      let both = count_append (p n) (events_of items) (item_events i) in
      omega (arith, old, new, both)

  once : (items : List Item) → Once Is items → (n : ℕ) → count_by (p n) (events_of items) ≤ 1
  once [] all n = omega arith
  once (i ∷ items) all n = ⊎_elim
      (λ (is : Is i). ⊎_elim
      (λ (same : call_of i ≡ n).
      let old = none_of items n (λ j h is_j. subst (λ (m : ℕ). call_of j ≢ m) same (all.0 is j h is_j)) in
      let new = few n i in
      omega (arith, old, new, both))
      (λ (ne : call_of i ≢ n). let old = once items all.1 n in let new = none n i (λ _. ne) in omega (arith, old, new, both))
      (same_or_not (call_of i) n))
      (λ (not : Is i → ⊥). let old = once items all.1 n in let new = none n i (λ is. absurd (not is)) in omega (arith, old, new, both)) (or_not i)
    where
      both : count_by (p n) (events_of (i ∷ items)) ≡ count_by (p n) (events_of items) + count_by (p n) (item_events i)
      both = count_append (p n) (events_of items) (item_events i)

one_start : (items : List Item) → OneStart items → Once IsStart items
one_start [] all = tt
one_start (i ∷ items) all = (λ is j h other. all.0 is j h, one_start items all.1)

one_reply : (items : List Item) → OneReply items → Once IsReply items
one_reply [] all = tt
one_reply (i ∷ items) all = (all.0, one_reply items all.1)

-- ---- places
module _ {X : Type 0} (p : X → Bool) where
  place_within : (xs : List X) → list_any p xs ≡ true → position_or_len p xs < length xs
  place_within [] h = absurd (false≢true h)
  place_within (x ∷ xs) h = by_test (p x) h (place_within xs)
    where
      by_test : (b : Bool) → (b || list_any p xs) ≡ true → (list_any p xs ≡ true → position_or_len p xs < length xs) →
          cond (not b) (1 + position_or_len p xs) 0 < suc (length xs)
      by_test true h more = omega arith
      by_test false h more = let l = more h in omega (arith, l)

  any_within : (xs : List X) → position_or_len p xs < length xs → list_any p xs ≡ true
  any_within [] h = absurd (omega (arith, h))
  any_within (x ∷ xs) h = by_test (p x) h (any_within xs)
    where
      by_test : (b : Bool) → cond (not b) (1 + position_or_len p xs) 0 < suc (length xs) → (position_or_len p xs < length xs → list_any p xs ≡ true) →
          (b || list_any p xs) ≡ true
      by_test true h more = refl
      by_test false h more = more (omega (arith, h))

  place_left : (xs ys : List X) → list_any p xs ≡ true → position_or_len p (xs ++ ys) ≡ position_or_len p xs
  place_left [] ys h = absurd (false≢true h)
  place_left (x ∷ xs) ys h = by_test (p x) h (place_left xs ys)
    where
      by_test : (b : Bool) → (b || list_any p xs) ≡ true → (list_any p xs ≡ true → position_or_len p (xs ++ ys) ≡ position_or_len p xs) →
          cond (not b) (1 + position_or_len p (xs ++ ys)) 0 ≡ cond (not b) (1 + position_or_len p xs) 0
      by_test true h more = refl
      by_test false h more = ap (λ (n : ℕ). 1 + n) (more h)

  place_right : (xs ys : List X) → list_any p xs ≡ false → position_or_len p (xs ++ ys) ≡ length xs + position_or_len p ys
  place_right [] ys h = zero_add (position_or_len p ys)
  place_right (x ∷ xs) ys h = by_test (p x) h (place_right xs ys)
    where
      by_test : (b : Bool) → (b || list_any p xs) ≡ false → (list_any p xs ≡ false → position_or_len p (xs ++ ys) ≡ length xs + position_or_len p ys) →
          cond (not b) (1 + position_or_len p (xs ++ ys)) 0 ≡ suc (length xs) + position_or_len p ys
      by_test true h more = absurd (false≢true (sym h))
      by_test false h more = let l = more h in omega (arith, l)

  any_left : (xs ys : List X) → list_any p xs ≡ true → list_any p (xs ++ ys) ≡ true
  any_left [] ys h = absurd (false≢true h)
  any_left (x ∷ xs) ys h = by_test (p x) h (any_left xs ys)
    where
      by_test : (b : Bool) → (b || list_any p xs) ≡ true → (list_any p xs ≡ true → list_any p (xs ++ ys) ≡ true) → (b || list_any p (xs ++ ys)) ≡ true
      by_test true h more = refl
      by_test false h more = more h

  any_right : (xs ys : List X) → list_any p xs ≡ false → list_any p (xs ++ ys) ≡ list_any p ys
  any_right [] ys h = refl
  any_right (x ∷ xs) ys h = by_test (p x) h (any_right xs ys)
    where
      by_test : (b : Bool) → (b || list_any p xs) ≡ false → (list_any p xs ≡ false → list_any p (xs ++ ys) ≡ list_any p ys) → (b || list_any p (xs ++ ys)) ≡ list_any p ys
      by_test true h more = absurd (false≢true (sym h))
      by_test false h more = more h

  any_back : (xs ys : List X) → list_any p ys ≡ true → list_any p (xs ++ ys) ≡ true
  any_back [] ys h = h
  any_back (x ∷ xs) ys h = by_test (p x) (any_back xs ys h)
    where
      by_test : (b : Bool) → list_any p (xs ++ ys) ≡ true → (b || list_any p (xs ++ ys)) ≡ true
      by_test true more = refl
      by_test false more = more

-- ---- a reply follows its call
-- the call of each item that replies starts among the items
abbrev Starts : List Item → Item → Type 0
Starts items i = IsReply i → (j : Item) × In items j × IsStart j × (call_of j ≡ call_of i)

called_at : (c n : ℕ) → c ≡ n → (b : Bool) → (eqb c n || b) ≡ true
called_at c n is b = ap (λ (t : Bool). t || b) (eq-eqb c n is)

start_calls : (j : Item) (n : ℕ) → IsStart j → call_of j ≡ n → list_any (is_call n) (item_events j) ≡ true
start_calls (Called c s op) n is same = called_at c n same false
start_calls (ReadOnly c s op held a) n is same = called_at c n same (false || false)
start_calls (Rejected c op a) n is same = called_at c n same (false || false)
start_calls (Answered c s a) n is same = absurd is
start_calls (Dropped c s a) n is same = absurd is

has_call : (items : List Item) (j : Item) (n : ℕ) → In items j → IsStart j → call_of j ≡ n → list_any (is_call n) (events_of items) ≡ true
has_call [] j n h is same = absurd h
has_call (i ∷ items) j n (inl e) is same = any_back (is_call n) (events_of items) (item_events i)
    (subst (λ (k : Item). list_any (is_call n) (item_events k) ≡ true) e (start_calls j n is same))
has_call (i ∷ items) j n (inr h) is same = any_left (is_call n) (events_of items) (item_events i) (has_call items j n h is same)

module _ (n : ℕ) where
  abbrev IsBehind : List Event → Type 0
  IsBehind events = position_or_len (is_call n) events < position_or_len (is_reply n) events

  -- behind events with no reply of it
  calls_first : (es fs : List Event) → list_any (is_call n) es ≡ true → list_any (is_reply n) es ≡ false → IsBehind (es ++ fs)
  calls_first es fs called unreplied =
      let c = place_left (is_call n) es fs called in
      let w = place_within (is_call n) es called in
      let r = place_right (is_reply n) es fs unreplied in
      omega (arith, c, w, r)

  -- an item that is called and answered at once
  at_once : (es : List Event) (c : ℕ) (call reply : Event) → is_call n call ≡ eqb c n → is_reply n call ≡ false → is_reply n reply ≡ eqb c n →
      list_any (is_reply n) es ≡ false → list_any (is_reply n) (call ∷ reply ∷ []) ≡ true → IsBehind (es ++ call ∷ reply ∷ [])
  at_once es c call reply calls unreplied replies none some = by_called (list_any (is_call n) es) refl
    where
      same : eqb c n ≡ true
      same = by_test (eqb c n) refl (subst (λ (b : Bool). (b || (is_reply n reply || false)) ≡ true) unreplied some)
        where
          by_test : (b : Bool) → eqb c n ≡ b → (false || (is_reply n reply || false)) ≡ true → b ≡ true
          by_test true e h = refl
          by_test false e h = subst (λ (x : Bool). (x || false) ≡ true) (replies ∙ e) h

      by_called : (b : Bool) → list_any (is_call n) es ≡ b → IsBehind (es ++ call ∷ reply ∷ [])
      by_called true h = calls_first es (call ∷ reply ∷ []) h none
      by_called false h =
          let pc = place_right (is_call n) es (call ∷ reply ∷ []) h in
          let pr = place_right (is_reply n) es (call ∷ reply ∷ []) none in
          let zero : position_or_len (is_call n) (call ∷ reply ∷ []) ≡ 0 = ap (λ (b : Bool). cond (not b) (1 + position_or_len (is_call n) (reply ∷ [])) 0) (calls ∙ same) in
          let one : position_or_len (is_reply n) (call ∷ reply ∷ []) ≡ 1 + position_or_len (is_reply n) (reply ∷ []) =
          ap (λ (b : Bool). cond (not b) (1 + position_or_len (is_reply n) (reply ∷ [])) 0) unreplied in
          omega (arith, pc, pr, zero, one)

  -- a reply whose call stands before
  replied_by : (es fs : List Event) → list_any (is_call n) es ≡ true → list_any (is_reply n) es ≡ false → IsBehind (es ++ fs)
  replied_by es fs called none = calls_first es fs called none

  follows_on : (items : List Item) → OneStart items → ((i : Item) → In items i → Starts items i) → list_any (is_reply n) (events_of items) ≡ true →
      IsBehind (events_of items)
  follows_on [] one starts h = absurd (false≢true h)
  follows_on (i ∷ items) one starts h = by_old (list_any (is_reply n) (events_of items)) refl (follows_on items one.1 older)
    where
      -- no older item's call starts here
      older : (j : Item) → In items j → Starts items j
      older j g replies =
          let k = starts j (inr g) replies in
          ⊎_elim
          (λ (e : k.0 ≡ i). absurd (one.0 (subst IsStart e k.2) j g (sym k.3 ∙ ap call_of e)))
          (λ (m : In items k.0). (k.0, m, k.2, k.3)) k.1

      -- the call of a reply that is no start is older
      called_before : (c : ℕ) → IsReply i → (IsStart i → ⊥) → call_of i ≡ n → list_any (is_call n) (events_of items) ≡ true
      called_before c replies unstarted same =
          let k = starts i (inl refl) replies in
          ⊎_elim
          (λ (e : k.0 ≡ i). absurd (unstarted (subst IsStart e k.2)))
          (λ (m : In items k.0). has_call items k.0 n m k.2 (k.3 ∙ same)) k.1

      one_reply_of : (c : ℕ) (b : Bool) → (eqb c n || false) ≡ true → c ≡ n
      one_reply_of c b h = by_test (eqb c n) refl h
        where
          by_test : (x : Bool) → eqb c n ≡ x → (x || false) ≡ true → c ≡ n
          by_test true e h = eqb-true c n e
          by_test false e h = absurd (false≢true h)

      by_item : (k : Item) → i ≡ k → list_any (is_reply n) (events_of items) ≡ false → list_any (is_reply n) (item_events k) ≡ true →
          IsBehind (events_of items ++ item_events k)
      by_item (Called c s op) e none some = absurd (false≢true some)
      by_item (Answered c s a) e none some = replied_by (events_of items) (item_events (Answered c s a))
          (called_before c (subst IsReply (sym e) tt) (subst (λ (j : Item). IsStart j → ⊥) (sym e) (λ x. x)) (ap call_of e ∙ one_reply_of c true some)) none
      by_item (Dropped c s a) e none some = replied_by (events_of items) (item_events (Dropped c s a))
          (called_before c (subst IsReply (sym e) tt) (subst (λ (j : Item). IsStart j → ⊥) (sym e) (λ x. x)) (ap call_of e ∙ one_reply_of c true some)) none
      by_item (ReadOnly c s op held a) e none some = at_once (events_of items) c (Call (record { 0 = c }) op) (Reply (record { 0 = c }) a) refl refl refl none some
      by_item (Rejected c op a) e none some = at_once (events_of items) c (Call (record { 0 = c }) op) (Reply (record { 0 = c }) a) refl refl refl none some

      by_old : (b : Bool) → list_any (is_reply n) (events_of items) ≡ b → (list_any (is_reply n) (events_of items) ≡ true → IsBehind (events_of items)) →
          IsBehind (events_of items ++ item_events i)
      by_old true replied more =
          let less = more replied in
          let within = place_within (is_reply n) (events_of items) replied in
          let called = any_within (is_call n) (events_of items) (omega (arith, less, within)) in
          let c = place_left (is_call n) (events_of items) (item_events i) called in
          let r = place_left (is_reply n) (events_of items) (item_events i) replied in
          omega (arith, less, c, r)
      by_old false none more = by_item i refl none (sym (any_right (is_reply n) (events_of items) (item_events i) none) ∙ h)

-- ---- what holds of calls gives each reply its call
module _ (st : RegisterState) (calls : CallParts st) where
  starts : (i : Item) → In st.history i → Starts st.history i
  starts (Called c s op) h replies = absurd replies
  starts (Answered c s a) h replies =
      let u = calls.items (Answered c s a) h in
      (Called u.0.call u.0.stamp u.0.op, calls.called u.0 u.1, tt, u.2)
  starts (Dropped c s a) h replies =
      let u = (calls.items (Dropped c s a) h).0 in
      (Called u.0.call u.0.stamp u.0.op, calls.called u.0 u.1, tt, u.2)
  starts (ReadOnly c s op held a) h replies = (ReadOnly c s op held a, h, tt, refl)
  starts (Rejected c op a) h replies = (Rejected c op a, h, tt, refl)

  pub is_history : IsHistory (events_of st.history)
  is_history = record {
    called_once = once is_call IsStart calls_few calls_none starts_or_not st.history (one_start st.history calls.starts);
    replied_once = once is_reply IsReply replies_few replies_none replies_or_not st.history (one_reply st.history calls.replies);
    follows = λ n h. follows_on n st.history calls.starts starts h;
  }
