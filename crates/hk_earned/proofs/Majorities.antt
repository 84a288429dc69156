-- Two majorities share a manager.
use Rattle.std.proofs.Common.{◌≡◌, ℕ, zero, suc, ◌+◌, ◌*◌, ◌<◌, ◌≤◌, List, [], ◌∷◌, length, Bool, true, false, ◌&&◌, cond, if◌then◌else◌, refl, arith, ⊎_elim, nat_lt, nat_le, max, sym, ◌∙◌}
use Rattle.std.proofs.lemmas.Bool.{and_parts, false≢true, ltb-true, leb-true, le-leb, leb-false, cases_lt}
use Rattle.std.proofs.lemmas.List.Sums.{sum_by-cons}
use Rattle.hk_lease.specs.Ends.{granting, greatest_passing, granted_end}
use Rattle.hk_earned.specs.Machine.{count_managers, IsMajority, with_end, times}

overlap : (f g : ℕ → Bool) (n : ℕ) → count_managers f n + count_managers g n ≤ n + count_managers (λ i. f i && g i) n
overlap f g zero = omega arith
overlap f g (suc n) = by_tests (f 0) (g 0) (overlap (λ i. f (suc i)) (λ i. g (suc i)) n)
  where
    more : (ℕ → Bool) → ℕ
    more h = count_managers (λ i. h (suc i)) n

    by_tests : (a b : Bool) → count_managers (λ i. f (suc i)) n + count_managers (λ i. g (suc i)) n ≤ n + count_managers (λ i. f (suc i) && g (suc i)) n →
        cond a (1 + count_managers (λ i. f (suc i)) n) (count_managers (λ i. f (suc i)) n) + cond b (1 + count_managers (λ i. g (suc i)) n) (count_managers (λ i. g (suc i)) n)
        ≤ suc n + cond (a && b) (1 + count_managers (λ i. f (suc i) && g (suc i)) n) (count_managers (λ i. f (suc i) && g (suc i)) n)
    by_tests true true h = omega arith
    by_tests true false h = omega arith
    by_tests false true h = omega arith
    by_tests false false h = omega arith

some_one : (f : ℕ → Bool) (n : ℕ) → 0 < count_managers f n → (i : ℕ) × (f i ≡ true)
some_one f zero h = absurd (omega arith)
some_one f (suc n) h = by_test (f 0) refl (some_one (λ i. f (suc i)) n) h
  where
    by_test : (b : Bool) → f 0 ≡ b → (0 < count_managers (λ i. f (suc i)) n → (i : ℕ) × (f (suc i) ≡ true)) → 0 < cond b (1 + count_managers (λ i. f (suc i)) n) (count_managers (λ i. f (suc i)) n) → (i : ℕ) × (f i ≡ true)
    by_test true e more h = (0, e)
    by_test false e more h = let r = more h in (suc r.0, r.1)

pub meet : (managers : ℕ) (f g : ℕ → Bool) → IsMajority managers f → IsMajority managers g → (m : ℕ) × (f m ≡ true) × (g m ≡ true)
meet managers f g p q =
    let o = overlap f g managers in
    let s = some_one (λ i. f i && g i) managers (omega (arith, o, p, q)) in
    let both = and_parts (f s.0) (g s.0) s.1 in
    (s.0, both.0, both.1)

count_up : (f g : ℕ → Bool) → ((m : ℕ) → f m ≡ true → g m ≡ true) → (n : ℕ) → count_managers f n ≤ count_managers g n
count_up f g up zero = omega arith
count_up f g up (suc n) = at (f 0) (g 0) refl refl (count_up (λ i. f (suc i)) (λ i. g (suc i)) (λ m. up (suc m)) n)
  where
    at : (a b : Bool) → f 0 ≡ a → g 0 ≡ b → count_managers (λ i. f (suc i)) n ≤ count_managers (λ i. g (suc i)) n →
        cond a (1 + count_managers (λ i. f (suc i)) n) (count_managers (λ i. f (suc i)) n) ≤ cond b (1 + count_managers (λ i. g (suc i)) n) (count_managers (λ i. g (suc i)) n)
    at true true p q h = omega arith
    at true false p q h = absurd (false≢true (sym q ∙ up 0 p))
    at false true p q h = omega arith
    at false false p q h = h

pub majority_up : (managers : ℕ) (f g : ℕ → Bool) → ((m : ℕ) → f m ≡ true → g m ≡ true) → IsMajority managers f → IsMajority managers g
majority_up managers f g up h = let c = count_up f g up managers in omega (arith, c, h)

-- a majority, each of which is such
pub record Most (managers : ℕ) (P : ℕ → Type 0) : Type 0 where
  pub test : ℕ → Bool
  pub many : IsMajority managers test
  pub each : (m : ℕ) → test m ≡ true → P m

pub most_reach : (managers end : ℕ) (f g : ℕ → ℕ) → ((m : ℕ) → f m ≤ g m) → IsMajority managers (λ m. nat_le end (f m)) → IsMajority managers (λ m. nat_le end (g m))
most_reach managers end f g up h = majority_up managers (λ m. nat_le end (f m)) (λ m. nat_le end (g m)) (λ m e. let l = leb-true end (f m) e in let u = up m in le-leb end (g m) (omega (arith, l, u))) h

pub count_all : (f : ℕ → Bool) → ((m : ℕ) → f m ≡ true) → (n : ℕ) → count_managers f n ≡ n
count_all f all zero = refl
count_all f all (suc n) = let h = count_all (λ i. f (suc i)) (λ m. all (suc m)) n in rw (all 0) (omega (arith, h))

-- ---- ends, one for each manager
abbrev pub Below : List ℕ → (ℕ → ℕ) → Type 0
Below [] g = Unit
Below (x ∷ xs) g = (x ≤ g 0) × Below xs (λ m. g (suc m))

pub below_up : (xs : List ℕ) (f g : ℕ → ℕ) → ((m : ℕ) → f m ≤ g m) → Below xs f → Below xs g
below_up [] f g up b = tt
below_up (x ∷ xs) f g up b = (let u = up 0 in omega (arith, u, b.0), below_up xs (λ m. f (suc m)) (λ m. g (suc m)) (λ m. up (suc m)) b.1)

pub below_with : (m end : ℕ) (xs : List ℕ) (g : ℕ → ℕ) → end ≤ g m → Below xs g → Below (with_end m end xs) g
below_with m end [] g low b = tt
below_with zero end (x ∷ xs) g low b = (omega (arith, low, b.0), b.1)
below_with (suc m) end (x ∷ xs) g low b = (b.0, below_with m end xs (λ k. g (suc k)) low b.1)

pub length_with : (m end : ℕ) (xs : List ℕ) → length (with_end m end xs) ≡ length xs
length_with m end [] = refl
length_with zero end (x ∷ xs) = refl
length_with (suc m) end (x ∷ xs) = let h = length_with m end xs in omega (arith, h)

pub length_times : (k x : ℕ) → length (times k x) ≡ k
length_times zero x = refl
length_times (suc k) x = let h = length_times k x in omega (arith, h)

pub below_times : (k x : ℕ) (g : ℕ → ℕ) → ((m : ℕ) → x ≤ g m) → Below (times k x) g
below_times zero x g low = tt
below_times (suc k) x g low = (low 0, below_times k x (λ m. g (suc m)) (λ m. low (suc m)))

counted : (end x : ℕ) (xs : List ℕ) → granting (x ∷ xs) end ≡ (if nat_le end x then 1 else 0) + granting xs end
counted end x xs = sum_by-cons (λ (granted : ℕ). cond (nat_le end granted) 1 0) x xs

count_below : (end : ℕ) (xs : List ℕ) (g : ℕ → ℕ) → Below xs g → granting xs end ≤ count_managers (λ m. nat_le end (g m)) (length xs)
count_below end [] g b = omega arith
count_below end (x ∷ xs) g b = rw (counted end x xs) (at (nat_le end x) (nat_le end (g 0)) refl refl (count_below end xs (λ m. g (suc m)) b.1))
  where
    at : (t u : Bool) → nat_le end x ≡ t → nat_le end (g 0) ≡ u → granting xs end ≤ count_managers (λ m. nat_le end (g (suc m))) (length xs) →
        (if t then 1 else 0) + granting xs end ≤ cond u (1 + count_managers (λ m. nat_le end (g (suc m))) (length xs)) (count_managers (λ m. nat_le end (g (suc m))) (length xs))
    at true true p q h = omega (arith, h)
    at true false p q h = let l = leb-true end x p in let m = leb-false end (g 0) q in let w = b.0 in absurd (omega (arith, l, m, w))
    at false true p q h = omega (arith, h)
    at false false p q h = omega (arith, h)

passing : (test : ℕ → Bool) (xs : List ℕ) → 1 ≤ greatest_passing test xs → test (greatest_passing test xs) ≡ true
passing test [] some = absurd (omega (arith, some))
passing test (x ∷ xs) some = at (test x) refl some (passing test xs)
  where
    at : (t : Bool) → test x ≡ t → 1 ≤ cond t (max x (greatest_passing test xs)) (greatest_passing test xs) → (1 ≤ greatest_passing test xs → test (greatest_passing test xs) ≡ true) →
        test (cond t (max x (greatest_passing test xs)) (greatest_passing test xs)) ≡ true
    at false is some ih = ih some
    at true is some ih = ⊎_elim
        (λ (l : x < greatest_passing test xs). let s : max x (greatest_passing test xs) ≡ greatest_passing test xs = omega (arith, l) in rw s (ih (omega (arith, l))))
        (λ (g : greatest_passing test xs ≤ x). let s : max x (greatest_passing test xs) ≡ x = omega (arith, g) in rw s is) (cases_lt x (greatest_passing test xs))

-- the end of a majority is 0, or a majority reaches it
pub end_reached : (managers : ℕ) (ends : List ℕ) (g : ℕ → ℕ) → length ends ≡ managers → Below ends g → 1 ≤ granted_end ends → IsMajority managers (λ m. nat_le (granted_end ends) (g m))
end_reached managers ends g long below some =
    let p = ltb-true (length ends) (2 * granting ends (granted_end ends)) (passing (λ end. nat_lt (length ends) (2 * granting ends end)) ends some) in
    let c = count_below (granted_end ends) ends g below in
    rw (sym long) (omega (arith, p, c))
