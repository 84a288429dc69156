-- A short key's zeros add nothing to the sum of its bytes.
use Rattle.std.proofs.Common.{◌≡◌, ℕ, zero, suc, ◌+◌, ◌<◌, List, [], ◌∷◌, length, take, refl, sym, ap, ◌∙◌, subst, arith, slice_index}
use Rattle.std.specs.Prelude.{sum}
use Rattle.std.proofs.lemmas.List.Sums.{sum_by-cons}
use Rattle.hk_base.specs.declared.key.Form.{Form}
use Rattle.hk_base.specs.declared.key.Form.TheVariants.{Short}
use Rattle.hk_base.specs.KeyForm.{shown, in_key, IsFront, IsKept}

cons : (x : ℕ) (xs : List ℕ) → sum (x ∷ xs) ≡ x + sum xs
cons x xs = sum_by-cons (λ n. n) x xs

zeros : (xs : List ℕ) → ((i : ℕ) → i < length xs → slice_index xs i ≡ 0) → sum xs ≡ 0
zeros [] all = refl
zeros (x ∷ xs) all = let rest = zeros xs (λ i p. all (suc i) (omega (arith, p))) in cons x xs ∙ omega (arith, all 0 (omega arith), rest)

front_sum : (n : ℕ) (xs : List ℕ) → IsFront xs (take n xs) → sum xs ≡ sum (take n xs)
front_sum zero xs front = zeros xs front
front_sum (suc n) [] front = refl
front_sum (suc n) (x ∷ xs) front = cons x xs ∙ ap (λ (m : ℕ). x + m) (front_sum n xs (λ i p. front (suc i) (omega (arith, p)))) ∙ sym (cons x (take n xs))

pub short_sum : (form : Form) (bytes : List ℕ) (len : ℕ) → form ≡ Short bytes len → IsKept form → sum bytes ≡ sum (shown form)
short_sum form bytes len is kept = rw (ap shown is) (front_sum len bytes front)
  where
    front : IsFront bytes (take len bytes)
    front = subst (λ (f : Form). IsFront (in_key f) (shown f)) is kept.front
