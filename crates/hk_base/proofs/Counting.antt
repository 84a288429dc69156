-- The first view: the numbers from 0 on rise, and each of them is below the next.
use Rattle.std.proofs.Common.{◌≡◌, ◌+◌, ◌++◌, ◌<◌, ◌≤◌, ℕ, zero, suc, [], ◌∷◌, List, length, refl, sym, ap, ◌∙◌, arith}
use Rattle.std.specs.declared.cmp.Ordering.TheVariants.{Less}
use Rattle.std.specs.Ordering.{nat_cmp}
use Rattle.std.specs.List.{AllByRecursion}
use Rattle.std.specs.List.Sorted.{IsStrictlySortedBy}
use Rattle.std.proofs.lemmas.Bool.{lt-ltb}
use Rattle.std.proofs.lemmas.List.Elements.{All-from_recursion}
use Rattle.std.proofs.lemmas.Map.Keys.{IsStrictlyIncreasing-from_sorted}
use Rattle.hk_base.specs.declared.stamp.NodeId.{NodeId}
use Rattle.hk_base.specs.View.{IsView, member_numbers, counted, first_view}

sorted_nil : IsStrictlySortedBy nat_cmp []
unfolding IsStrictlySortedBy
sorted_nil = tt

sorted_cons : (n : ℕ) (ns : List ℕ) → AllByRecursion (λ y. nat_cmp n y ≡ Less) ns → IsStrictlySortedBy nat_cmp ns → IsStrictlySortedBy nat_cmp (n ∷ ns)
unfolding IsStrictlySortedBy
sorted_cons n ns all sorted = (all, sorted)

less_below : (a b : ℕ) → a < b → nat_cmp a b ≡ Less
less_below a b l = rw (lt-ltb a b l) refl

counted_length : (n k : ℕ) → length (counted n k) ≡ k
counted_length n zero = refl
counted_length n (suc k) = ap suc (counted_length (n + 1) k)

numbers_above : (m n k : ℕ) → m < n → AllByRecursion (λ y. nat_cmp m y ≡ Less) (member_numbers (counted n k))
numbers_above m n zero less = tt
numbers_above m n (suc k) less = (less_below m n less, numbers_above m (n + 1) k (omega arith))

counted_rises : (n k : ℕ) → IsStrictlySortedBy nat_cmp (member_numbers (counted n k))
counted_rises n zero = sorted_nil
counted_rises n (suc k) = sorted_cons n (member_numbers (counted (n + 1) k)) (numbers_above n (n + 1) k (omega arith)) (counted_rises (n + 1) k)

counted_below : (n k next : ℕ) → n + k ≤ next → AllByRecursion (λ (m : NodeId). m.0 < next) (counted n k)
counted_below n zero next le = tt
counted_below n (suc k) next le = (omega arith, counted_below (n + 1) k next (omega arith))

pub first_is_view : (n : ℕ) → 1 ≤ n → n ≤ 16 → IsView (first_view n)
first_is_view n some few = record {
  some = rw (counted_length 0 n) some;
  few = rw (counted_length 0 n) few;
  rising = IsStrictlyIncreasing-from_sorted _ (counted_rises 0 n);
  below = All-from_recursion _ _ (counted_below 0 n n (omega arith));
  next = omega arith;
}

-- ---- one number more
abbrev id_of : ℕ → NodeId
id_of n = record { 0 = n }

counted_suc : (n k : ℕ) → counted n k ++ record { 0 = n + k } ∷ [] ≡ counted n (suc k)
counted_suc n zero = let same : n + 0 ≡ n = omega arith in ap (λ (m : ℕ). record { 0 = m } ∷ []) same
counted_suc n (suc k) =
    let same : n + suc k ≡ n + 1 + k = omega arith in
    ap (λ (m : ℕ). record { 0 = n } ∷ (counted (n + 1) k ++ record { 0 = m } ∷ [])) same ∙ ap (λ (l : List NodeId). record { 0 = n } ∷ l) (counted_suc (n + 1) k)

counted_more : (k : ℕ) → counted 0 k ++ record { 0 = k } ∷ [] ≡ counted 0 (k + 1)
counted_more k =
    let same : 0 + k ≡ k = omega arith in
    let next : suc k ≡ k + 1 = omega arith in
    ap (λ (m : ℕ). counted 0 k ++ record { 0 = m } ∷ []) (sym same) ∙ counted_suc 0 k ∙ ap (counted 0) next

pub counted_next : (k n : ℕ) (old new : List NodeId) → n ≡ k → old ≡ counted 0 k → new ≡ old ++ record { 0 = n } ∷ [] → new ≡ counted 0 (k + 1)
counted_next k n old new same so_far pushed = pushed ∙ ap (λ (l : List NodeId). l ++ record { 0 = n } ∷ []) so_far ∙ ap (λ (m : ℕ). counted 0 k ++ id_of m ∷ []) same ∙ counted_more k
