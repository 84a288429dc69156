-- The middle of a sorted list is the greatest end that a majority granted at least.
use Rattle.std.proofs.Common.{◌≡◌, ℕ, zero, suc, ◌+◌, ◌-◌, ◌*◌, ◌/◌, ◌<◌, ◌≤◌, Bool, true, false, cond, List, [], ◌∷◌, length, slice_index_or, refl, ap, subst, ◌∙◌, ⊎_elim, nat_le, nat_lt, arith, max}
use Rattle.std.specs.List.{Contains}
use Rattle.std.specs.List.Sorted.{IsPermutation, IsSorted, IsNonDecreasing}
use Rattle.std.specs.Ordering.{nat_cmp}
use Rattle.std.proofs.lemmas.List.Sorted.{IsNonDecreasingBy-from_sort, sum_by-IsPermutation, length_permutation, IsPermutation-sym, Contains-permutation}
use Rattle.std.proofs.lemmas.List.Sums.{sum_by-cons, count_by-le-length}
use Rattle.std.proofs.lemmas.Bool.{le-leb, lt-leb, lt-ltb, ltb-true, cases_lt}
use Rattle.hk_lease.specs.Ends.{granting, IsNodeEnd, greatest_passing, granted_end}

counted : (x end : ℕ) (xs : List ℕ) → end ≤ x → granting (x ∷ xs) end ≡ 1 + granting xs end
counted x end xs h = sum_by-cons _ x xs ∙ ap (λ (b : Bool). cond b 1 0 + granting xs end) (le-leb end x h)

not_counted : (x end : ℕ) (xs : List ℕ) → x < end → granting (x ∷ xs) end ≡ granting xs end
not_counted x end xs h = let e = sum_by-cons (λ (granted : ℕ). cond (nat_le end granted) 1 0) x xs ∙ ap (λ (b : Bool). cond b 1 0 + granting xs end) (lt-leb end x h) in omega (arith, e)

no_fewer : (x end : ℕ) (xs : List ℕ) → granting xs end ≤ granting (x ∷ xs) end
no_fewer x end xs = rw (sum_by-cons (λ (granted : ℕ). cond (nat_le end granted) 1 0) x xs) (omega arith)

-- where the ends from some place on are at least an end, so many granted that
at_least : (ends : List ℕ) (end i : ℕ) → ((j : ℕ) → i ≤ j → j < length ends → end ≤ slice_index_or ends j 0) → length ends ≤ i + granting ends end
at_least [] end i h = omega arith
at_least (x ∷ xs) end zero h =
    let one = counted x end xs (h 0 (omega arith) (omega arith)) in
    let rest = at_least xs end 0 (λ j from upto. h (suc j) (omega arith) (omega arith)) in
    omega (arith, one, rest)
at_least (x ∷ xs) end (suc i) h =
    let one = no_fewer x end xs in
    let rest = at_least xs end i (λ j from upto. h (suc j) (omega arith) (omega arith)) in
    omega (arith, one, rest)

-- where the ends before some place are below an end, those did not grant that
at_most : (ends : List ℕ) (end i : ℕ) → i ≤ length ends → ((j : ℕ) → j < i → slice_index_or ends j 0 < end) → granting ends end + i ≤ length ends
at_most [] end i upto h = omega arith
at_most (x ∷ xs) end zero upto h = let few = count_by-le-length (λ (granted : ℕ). nat_le end granted) (x ∷ xs) in omega (arith, few)
at_most (x ∷ xs) end (suc i) upto h =
    let one = not_counted x end xs (h 0 (omega arith)) in
    let rest = at_most xs end i (omega arith) (λ j below. h (suc j) (omega arith)) in
    omega (arith, one, rest)

pub middle : (ends copied rising : List ℕ) → copied ≡ ends → IsPermutation copied rising → IsSorted nat_cmp rising → 1 ≤ length ends →
    IsNodeEnd ends (slice_index_or rising ((length ends - 1) / 2) 0)
middle ends copied rising same moved sorted some = record { granted = granted; greatest = greatest }
  where
    long : length rising ≡ length ends
    long = length_permutation copied rising moved ∙ ap length same

    like : (end : ℕ) → granting rising end ≡ granting ends end
    like end = sum_by-IsPermutation _ copied rising moved ∙ ap (λ (xs : List ℕ). granting xs end) same

    up : IsNonDecreasing rising
    up = IsNonDecreasingBy-from_sort (λ x. x) rising sorted

    inside : ((length ends - 1) / 2) < length rising
    inside = omega (arith, long)

    granted : length ends < 2 * granting ends (slice_index_or rising ((length ends - 1) / 2) 0)
    granted =
        let many = at_least rising (slice_index_or rising ((length ends - 1) / 2) 0) ((length ends - 1) / 2) (λ j from upto. up ((length ends - 1) / 2) j 0 from upto) in
        omega (arith, many, long, like (slice_index_or rising ((length ends - 1) / 2) 0))

    greatest : (later : ℕ) → length ends < 2 * granting ends later → later ≤ slice_index_or rising ((length ends - 1) / 2) 0
    greatest later h = ⊎_elim
        (λ (l : slice_index_or rising ((length ends - 1) / 2) 0 < later).
        let few = at_most rising later ((length ends - 1) / 2 + 1) (omega (arith, inside)) (λ j below. omega (arith, up j ((length ends - 1) / 2) 0 (omega arith) inside, l)) in
        absurd (omega (arith, few, long, like later, h)))
        (λ (g : later ≤ slice_index_or rising ((length ends - 1) / 2) 0). g) (cases_lt (slice_index_or rising ((length ends - 1) / 2) 0) later)

upto : (test : ℕ → Bool) (end : ℕ) (ends : List ℕ) → ((x : ℕ) → test x ≡ true → x ≤ end) → greatest_passing test ends ≤ end
upto test end [] h = omega arith
upto test end (x ∷ xs) h = at (test x) refl (upto test end xs h)
  where
    at : (b : Bool) → test x ≡ b → greatest_passing test xs ≤ end → cond b (max x (greatest_passing test xs)) (greatest_passing test xs) ≤ end
    at true e ih = omega (arith, h x e)
    at false e ih = ih

from : (test : ℕ → Bool) (ends : List ℕ) (i : ℕ) → i < length ends → test (slice_index_or ends i 0) ≡ true → slice_index_or ends i 0 ≤ greatest_passing test ends
from test [] i h t = absurd (omega arith)
from test (x ∷ xs) zero h t = rw t (omega arith)
from test (x ∷ xs) (suc i) h t = at (test x) (from test xs i (omega arith) t)
  where
    at : (b : Bool) → slice_index_or xs i 0 ≤ greatest_passing test xs → slice_index_or xs i 0 ≤ cond b (max x (greatest_passing test xs)) (greatest_passing test xs)
    at true ih = omega arith
    at false ih = ih

any_default : (ends : List ℕ) (i d e : ℕ) → i < length ends → slice_index_or ends i d ≡ slice_index_or ends i e
any_default [] i d e h = absurd (omega arith)
any_default (x ∷ xs) zero d e h = refl
any_default (x ∷ xs) (suc i) d e h = any_default xs i d e (omega arith)

-- the end of a majority is the greatest of those that pass
pub found : (ends copied rising : List ℕ) (place : ℕ) → copied ≡ ends → IsPermutation copied rising → place < length rising → IsNodeEnd ends (slice_index_or rising place 0) → slice_index_or rising place 0 ≡ granted_end ends
found ends copied rising place same moved inside is =
    let passes : nat_lt (length ends) (2 * granting ends (slice_index_or rising place 0)) ≡ true = lt-ltb (length ends) (2 * granting ends (slice_index_or rising place 0)) is.granted in
    let there : Contains rising (slice_index_or rising place 0) = (place, inside, any_default rising place (slice_index_or rising place 0) 0 inside) in
    let was : Contains ends (slice_index_or rising place 0) = subst (λ (xs : List ℕ). Contains xs (slice_index_or rising place 0)) same (Contains-permutation rising copied (slice_index_or rising place 0) (IsPermutation-sym copied rising moved) there) in
    let at : slice_index_or ends was.0 0 ≡ slice_index_or rising place 0 = any_default ends was.0 0 (slice_index_or rising place 0) was.1 ∙ was.2 in
    let low = upto (λ (end : ℕ). nat_lt (length ends) (2 * granting ends end)) (slice_index_or rising place 0) ends (λ x h. is.greatest x (ltb-true (length ends) (2 * granting ends x) h)) in
    let high = from (λ (end : ℕ). nat_lt (length ends) (2 * granting ends end)) ends was.0 was.1 (rw at passes) in
    omega (arith, low, high, at)
