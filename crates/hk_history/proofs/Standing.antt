-- Who stands in an order, and how often.
use Rattle.std.proofs.Common.{◌≡◌, ℕ, ◌+◌, ◌<◌, ◌≤◌, List, [], ◌∷◌, map, Some, Bool, true, false, refl, sym, ap, ◌∙◌, ◌||◌, ◌==◌, nat_eq, arith, cond}
use Rattle.std.specs.List.{list_any, count_by, IsDistinct, AllByRecursion}
use Rattle.std.proofs.lemmas.List.Sums.{sum_by-cons}
use Rattle.std.proofs.lemmas.Bool.Decides.{nat_tests}
use Rattle.hk_history.specs.declared.event.Event.{Event}
use Rattle.hk_history.specs.declared.event.Event.TheVariants.{Call, Reply}
use Rattle.hk_history.specs.declared.event.Entry.{Entry}
use Rattle.hk_history.specs.History.{answer_of, is_answered}
use Rattle.hk_history.specs.Legal.{is_entry, calls_of}
use Rattle.hk_history.specs.Index.{number_of}
use Rattle.hk_history.proofs.Least.{IsIn, in_tail}

pub count_cons : {X : Type 0} (p : X → Bool) (x : X) (xs : List X) → count_by p (x ∷ xs) ≡ cond (p x) 1 0 + count_by p xs
count_cons p x xs = sum_by-cons (λ y. cond (p y) 1 0) x xs

pub stands_in : (order : List Entry) (n : ℕ) → list_any (is_entry n) order ≡ list_any (λ x. x == n) (calls_of order)
stands_in [] n = refl
stands_in (e ∷ order) n = ap (λ r. (e.call.0 == n) || r) (stands_in order n)

pub counted_some : {X : Type 0} (p : X → Bool) (xs : List X) → 0 < count_by p xs → list_any p xs ≡ true
counted_some p [] h = absurd (omega (arith, h))
counted_some p (x ∷ xs) h = at (p x) (λ g. counted_some p xs g) (let c = count_cons p x xs in omega (arith, c, h))
  where
    at : (b : Bool) → (0 < count_by p xs → list_any p xs ≡ true) → 0 < cond b 1 0 + count_by p xs → (b || list_any p xs) ≡ true
    at true more g = refl
    at false more g = more (omega (arith, g))

pub some_counted : {X : Type 0} (p : X → Bool) (xs : List X) → list_any p xs ≡ true → 0 < count_by p xs
some_counted p [] h = absurd (cc)
some_counted p (x ∷ xs) h = let c = count_cons p x xs in let a = at (p x) (some_counted p xs) h in omega (arith, c, a)
  where
    at : (b : Bool) → (list_any p xs ≡ true → 0 < count_by p xs) → (b || list_any p xs) ≡ true → 0 < cond b 1 0 + count_by p xs
    at true more g = omega arith
    at false more g = omega (arith, more g)

apart_counted : (x a : ℕ) (order : List Entry) → x ≡ a → AllByRecursion (λ y. nat_eq x y ≡ false) (calls_of order) → count_by (is_entry a) order ≡ 0
apart_counted x a [] e h = refl
apart_counted x a (entry ∷ order) e h = count_cons (is_entry a) entry order ∙ at (entry.call.0 == a) refl (apart_counted x a order e h.1)
  where
    at : (b : Bool) → (entry.call.0 == a) ≡ b → count_by (is_entry a) order ≡ 0 → cond b 1 0 + count_by (is_entry a) order ≡ 0
    at true s more = absurd (grind (arith, nat_tests, s, e, h.0))
    at false s more = omega (arith, more)

-- in an order where calls are distinct, each stands once at most
pub distinct_counted : (order : List Entry) → IsDistinct nat_eq (calls_of order) → (a : ℕ) → count_by (is_entry a) order ≤ 1
unfolding IsDistinct
distinct_counted [] d a = omega arith
distinct_counted (entry ∷ order) d a = let c = count_cons (is_entry a) entry order in let f = at (entry.call.0 == a) refl (distinct_counted order d.1 a) in omega (arith, c, f)
  where
    at : (b : Bool) → (entry.call.0 == a) ≡ b → count_by (is_entry a) order ≤ 1 → cond b 1 0 + count_by (is_entry a) order ≤ 1
    at true s more = let none = apart_counted entry.call.0 a order (grind (arith, nat_tests, s)) d.0 in omega (arith, none)
    at false s more = omega (arith, more)

none_apart : (x : ℕ) (order : List Entry) → count_by (is_entry x) order ≡ 0 → AllByRecursion (λ y. nat_eq x y ≡ false) (calls_of order)
none_apart x [] h = tt
none_apart x (entry ∷ order) h = at (entry.call.0 == x) refl (sym (count_cons (is_entry x) entry order) ∙ h) (none_apart x order)
  where
    at : (b : Bool) → (entry.call.0 == x) ≡ b → cond b 1 0 + count_by (is_entry x) order ≡ 0 → (count_by (is_entry x) order ≡ 0 → AllByRecursion (λ y. nat_eq x y ≡ false) (calls_of order)) → AllByRecursion (λ y. nat_eq x y ≡ false) (calls_of (entry ∷ order))
    at true s g more = absurd (omega (arith, g))
    at false s g more = ((grind (arith, nat_tests, s)), more (omega (arith, g)))

pub counted_distinct : (order : List Entry) → ((a : ℕ) → count_by (is_entry a) order ≤ 1) → IsDistinct nat_eq (calls_of order)
unfolding IsDistinct
counted_distinct [] h = tt
counted_distinct (entry ∷ order) h =
    let c = count_cons (is_entry entry.call.0) entry order in (
      (none_apart entry.call.0 order (self (entry.call.0 == entry.call.0) (grind (arith, nat_tests)) (omega (arith, c, h entry.call.0)))),
      counted_distinct order (λ a. let d = count_cons (is_entry a) entry order in omega (arith, d, h a)),
    )
  where
    self : (b : Bool) → b ≡ true → cond b 1 0 + count_by (is_entry entry.call.0) order ≤ 1 → count_by (is_entry entry.call.0) order ≡ 0
    self true e g = omega (arith, g)
    self false e g = absurd (cc)

-- an answered call is the number of an event
pub answered_in : (h : List Event) (n : ℕ) → is_answered (answer_of h n) ≡ true → IsIn (map number_of h) n
unfolding number_of
answered_in [] n a = absurd (cc)
answered_in (Call c op ∷ rest) n a = in_tail c.0 n (map number_of rest) (answered_in rest n a)
answered_in (Reply c answer ∷ rest) n a = at (c.0 == n) a (answered_in rest n)
  where
    at : (b : Bool) → is_answered (cond b (Some answer) (answer_of rest n)) ≡ true → (is_answered (answer_of rest n) ≡ true → IsIn (map number_of rest) n) → (b || list_any (λ x. x == n) (map number_of rest)) ≡ true
    at true g more = refl
    at false g more = more g
