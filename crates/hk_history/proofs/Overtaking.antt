-- Calls that are overtaken, by the places of those that began later.
use Rattle.std.proofs.Common.{◌≡◌, ℕ, zero, suc, ◌+◌, ◌<◌, ◌≤◌, List, [], ◌∷◌, length, drop, Bool, true, false, refl, ap, ◌∙◌, ◌||◌, ◌&&◌, ◌==◌, ◌⊎◌, inl, inr, arith, cond, nat_lt, nat_le}
use Rattle.std.specs.Bool.{IsTrue}
use Rattle.std.specs.List.{list_any, count_by, position_or_len}
use Rattle.std.proofs.lemmas.Bool.{cases_lt}
use Rattle.std.proofs.lemmas.Bool.Decides.{nat_tests}
use Rattle.hk_history.specs.declared.event.Event.{Event}
use Rattle.hk_history.specs.declared.event.Event.TheVariants.{Call, Reply}
use Rattle.hk_history.specs.declared.event.Entry.{Entry}
use Rattle.hk_history.specs.History.{answer_of, is_call, is_reply, is_answered}
use Rattle.hk_history.specs.Legal.{is_entry, Stands}
use Rattle.hk_history.specs.Breach.{IsEarly}
use Rattle.hk_history.specs.Tests.{nearest, is_overtaken, overtakes}
use Rattle.hk_history.proofs.Standing.{count_cons, some_counted}

place_none : {X : Type 0} (p : X → Bool) (x : X) (xs : List X) → p x ≡ false → position_or_len p (x ∷ xs) ≡ suc (position_or_len p xs)
place_none p x xs e = grind (arith, e)

place_here : {X : Type 0} (p : X → Bool) (x : X) (xs : List X) → p x ≡ true → position_or_len p (x ∷ xs) ≡ 0
place_here p x xs e = rw e refl

any_drop : {X : Type 0} (p : X → Bool) (xs : List X) (r : ℕ) → list_any p (drop r xs) ≡ true → list_any p xs ≡ true
any_drop p xs zero h = h
any_drop p [] (suc r) h = h
any_drop p (x ∷ xs) (suc r) h = or_more (p x) (any_drop p xs r h)
  where
    or_more : (b : Bool) {r : Bool} → r ≡ true → (b || r) ≡ true
    or_more true g = refl
    or_more false g = g

count_here : {X : Type 0} (p : X → Bool) (x : X) (xs : List X) → p x ≡ true → count_by p (x ∷ xs) ≡ 1 + count_by p xs
count_here p x xs e = count_cons p x xs ∙ ap (λ (b : Bool). cond b 1 0 + count_by p xs) e

-- what passes once, and in what is left from r on, does so first at r or later
later : {X : Type 0} (p : X → Bool) (xs : List X) (r : ℕ) → list_any p (drop r xs) ≡ true → count_by p xs ≤ 1 → r ≤ position_or_len p xs
later p xs zero h c = omega arith
later p [] (suc r) h c = absurd (cc)
later p (x ∷ xs) (suc r) h c = at (p x) refl (λ d. later p xs r h d)
  where
    at : (b : Bool) → p x ≡ b → (count_by p xs ≤ 1 → r ≤ position_or_len p xs) → suc r ≤ position_or_len p (x ∷ xs)
    at true e more = absurd (let k = count_here p x xs e in let s = some_counted p xs (any_drop p xs r h) in omega (arith, k, s, c))
    at false e more = let k = count_cons p x xs in let n = place_none p x xs e in let m = more (omega (arith, k, c)) in omega (arith, n, m)

-- and the other way
left_over : {X : Type 0} (p : X → Bool) (xs : List X) (r : ℕ) → r ≤ position_or_len p xs → list_any p xs ≡ true → list_any p (drop r xs) ≡ true
left_over p xs zero le h = h
left_over p [] (suc r) le h = h
left_over p (x ∷ xs) (suc r) le h = at (p x) refl (λ d g. left_over p xs r d g)
  where
    at : (b : Bool) → p x ≡ b → (r ≤ position_or_len p xs → list_any p xs ≡ true → list_any p (drop r xs) ≡ true) → list_any p (drop r xs) ≡ true
    at true e more = absurd (let n = place_here p x xs e in omega (arith, n, le))
    at false e more = let n = place_none p x xs e in more (omega (arith, n, le)) (rw e at h)

is_called_here : (b : ℕ) (c : ℕ) (rest : Bool) → (c == b || rest) ≡ true → (c ≡ b) ⊎ (rest ≡ true)
is_called_here b c true h = inr refl
is_called_here b c false h = inl (grind (arith, nat_tests, h))

nearest_le : (order : List Entry) (xs : List Event) (b : ℕ) → list_any (is_call b) xs ≡ true → nearest order xs ≤ position_or_len (is_entry b) order
nearest_le order [] b h = absurd (cc)
nearest_le order (Call c op ∷ xs) b h = at (is_called_here b c.0 (list_any (is_call b) xs) h) (nearest_le order xs b)
  where
    at : (c.0 ≡ b) ⊎ (list_any (is_call b) xs ≡ true) → (list_any (is_call b) xs ≡ true → nearest order xs ≤ position_or_len (is_entry b) order) → nearest order (Call c op ∷ xs) ≤ position_or_len (is_entry b) order
    at (inl e) more = let f = ap (λ n. position_or_len (is_entry n) order) e in omega (arith, f)
    at (inr g) more = omega (arith, more g)
nearest_le order (Reply c answer ∷ xs) b h = omega (arith, nearest_le order xs b h)

nearest_is : (order : List Entry) (xs : List Event) (m : ℕ) → m < length order → nearest order xs ≤ m → (b : ℕ) × ((list_any (is_call b) xs ≡ true) × (position_or_len (is_entry b) order ≤ m))
nearest_is order [] m lt le = absurd (omega (arith, lt, le))
nearest_is order (Call c op ∷ xs) m lt le = elim (cases_lt m (position_or_len (is_entry c.0) order)) [
  | inl far ↦ (let more = nearest_is order xs m lt (omega (arith, le, far)) in (more.0, (or_more (c.0 == more.0) more.1.0, more.1.1)))
  | inr near ↦ (c.0, (grind (arith, nat_tests), near))
]
  where
    or_more : (b : Bool) {r : Bool} → r ≡ true → (b || r) ≡ true
    or_more true g = refl
    or_more false g = g
nearest_is order (Reply c answer ∷ xs) m lt le = nearest_is order xs m lt (omega (arith, le, lt))

pub any_place : {X : Type 0} (p : X → Bool) (xs : List X) → list_any p xs ≡ true → position_or_len p xs < length xs
any_place p [] h = absurd (cc)
any_place p (x ∷ xs) h = at (p x) refl (any_place p xs)
  where
    at : (b : Bool) → p x ≡ b → (list_any p xs ≡ true → position_or_len p xs < length xs) → position_or_len p (x ∷ xs) < length (x ∷ xs)
    at true e more = let n = place_here p x xs e in omega (arith, n)
    at false e more = let n = place_none p x xs e in let m = more (rw e at h) in omega (arith, n, m)

pub place_any : {X : Type 0} (p : X → Bool) (xs : List X) → position_or_len p xs < length xs → list_any p xs ≡ true
place_any p [] h = absurd (omega (arith, h))
place_any p (x ∷ xs) h = at (p x) refl (place_any p xs)
  where
    at : (b : Bool) → p x ≡ b → (position_or_len p xs < length xs → list_any p xs ≡ true) → (b || list_any p xs) ≡ true
    at true e more = refl
    at false e more = let n = place_none p x xs e in more (omega (arith, n, h))

pub and_left : (a b : Bool) → (a && b) ≡ true → a ≡ true
and_left true b h = refl
and_left false b h = h

pub and_right : (a b : Bool) → (a && b) ≡ true → b ≡ true
and_right true b h = h
and_right false b h = absurd (cc)

pub and_both : (a b : Bool) → a ≡ true → b ≡ true → (a && b) ≡ true
and_both true b h k = k
and_both false b h k = h

pub le_from : (a b : ℕ) → nat_le a b ≡ true → a ≤ b
le_from a b h = grind (arith, nat_tests, h)

pub to_le : (a b : ℕ) → a ≤ b → nat_le a b ≡ true
to_le a b h = grind (arith, nat_tests, h)

not_before : (a b : ℕ) → ¬ (a < b) → b ≤ a
not_before a b h = elim (cases_lt a b) [ inl lt ↦ absurd (h lt) | inr le ↦ le ]

-- an overtaken call is early for some call
pub overtaken_has : (h : List Event) (order : List Entry) (a : ℕ) → ((b : ℕ) → count_by (is_call b) h ≤ 1) → is_overtaken h order a ≡ true → (b : ℕ) × IsEarly h order a b
unfolding is_overtaken
overtaken_has h order a once t =
    let r = position_or_len (is_reply a) h in
    let answered = is_answered (answer_of h a) in
    let near = nat_le (nearest order (drop (r + 1) h)) (position_or_len (is_entry a) order) in
    let two = and_left (answered && list_any (is_entry a) order) near t in
    let stands = and_right answered (list_any (is_entry a) order) two in
    let within = any_place (is_entry a) order stands in
    let le = le_from _ _ (and_right (answered && list_any (is_entry a) order) near t) in
    let found = nearest_is order (drop (r + 1) h) (position_or_len (is_entry a) order) within le in
    let after = later (is_call found.0) h (r + 1) found.1.0 (once found.0) in
    let near_b = found.1.1 in (
      found.0,
      record {
        first_stands = stands;
        second_stands = place_any (is_entry found.0) order (omega (arith, near_b, within));
        answered = and_left answered (list_any (is_entry a) order) two;
        began_after = omega (arith, after);
        stands_before = λ lt. omega (arith, near_b, lt);
      },
    )

-- and a call that is early is overtaken
pub early_overtaken : (h : List Event) (order : List Entry) (a b : ℕ) → list_any (is_call b) h ≡ true → IsEarly h order a b → is_overtaken h order a ≡ true
unfolding is_overtaken
early_overtaken h order a b called early =
    let r = position_or_len (is_reply a) h in
    let after = early.began_after in
    let left = left_over (is_call b) h (r + 1) (omega (arith, after)) called in
    let near = nearest_le order (drop (r + 1) h) b left in
    let behind = not_before _ _ early.stands_before in
    and_both (is_answered (answer_of h a) && list_any (is_entry a) order) _ (and_both (is_answered (answer_of h a)) (list_any (is_entry a) order) early.answered early.first_stands) (to_le _ _ (omega (arith, near, behind)))

pub overtakes_early : (h : List Event) (order : List Entry) (a b : ℕ) → Stands order a → Stands order b → IsTrue (is_answered (answer_of h a)) → overtakes h order a b ≡ true → IsEarly h order a b
unfolding overtakes
overtakes_early h order a b sa sb ans t =
    let begun = nat_lt (position_or_len (is_reply a) h) (position_or_len (is_call b) h) in
    let near = nat_le (position_or_len (is_entry b) order) (position_or_len (is_entry a) order) in
    let le = le_from _ _ (and_right begun near t) in
    record {
      first_stands = sa;
      second_stands = sb;
      answered = ans;
      began_after = grind (arith, nat_tests, and_left begun near t);
      stands_before = λ lt. omega (arith, le, lt);
    }

pub early_overtakes : (h : List Event) (order : List Entry) (a b : ℕ) → IsEarly h order a b → overtakes h order a b ≡ true
unfolding overtakes
early_overtakes h order a b early =
    let after = early.began_after in
    and_both _ _ (grind (arith, nat_tests, after)) (to_le _ _ (not_before _ _ early.stands_before))
