-- Turns of loops over lists.
use Rattle.std.proofs.Common.{◌≡◌, ◌<◌, ◌≤◌, ◌+◌, ℕ, zero, suc, List, [], ◌∷◌, ◌++◌, length, take, drop, get_or, Some, None, Result, Ok, Err, OnOk, slice_get, refl, sym, ap, ◌∙◌, arith}
use Rattle.std.proofs.Math.Seq.{take-suc}
use Rattle.std.proofs.lemmas.List.{at_drop_more}
use Rattle.std.proofs.lemmas.Option.{none-some}
use Rattle.hk_world.specs.World.{numbered}

module _ {X : Type 0} where
  pub numbered_is : (n : ℕ) (xs : List X) → numbered (n + 1) xs ≡ slice_get xs n
  numbered_is n xs = ap (λ (m : ℕ). numbered m xs) one
    where
      one : n + 1 ≡ suc n
      one = omega arith

  got : (n : ℕ) (xs : List X) (x : X) → slice_get xs n ≡ Some x → drop n xs ≡ x ∷ drop (suc n) xs
  got n [] x e = absurd (none-some x e)
  got zero (y ∷ xs) x e = ap (λ (z : X). z ∷ xs) (some_same e)
    where
      some_same : Some y ≡ Some x → y ≡ x
      some_same s = cc
  got (suc n) (y ∷ xs) x e = got n xs x e

  not_got : (n : ℕ) (xs : List X) → slice_get xs n ≡ None → (drop n xs ≡ []) × (drop (suc n) xs ≡ [])
  not_got zero [] e = (refl, refl)
  not_got (suc n) [] e = (refl, refl)
  not_got zero (y ∷ xs) e = absurd (none-some y (sym e))
  not_got (suc n) (y ∷ xs) e = not_got n xs e

  -- the list from place n on, where there is one, and where there is none
  pub here : (n : ℕ) (xs : List X) (x : X) → numbered (n + 1) xs ≡ Some x → drop n xs ≡ x ∷ drop (n + 1) xs
  here n xs x e = got n xs x (sym (numbered_is n xs) ∙ e) ∙ ap (λ (m : ℕ). x ∷ drop m xs) one
    where
      one : suc n ≡ n + 1
      one = omega arith

  pub ended : (n : ℕ) (xs : List X) → numbered (n + 1) xs ≡ None → drop n xs ≡ drop (n + 1) xs
  ended n xs e =
      let none = not_got n xs (sym (numbered_is n xs) ∙ e) in
      none.0 ∙ (sym none.1 ∙ ap (λ (m : ℕ). drop m xs) one)
    where
      one : suc n ≡ n + 1
      one = omega arith

  -- the list up to the next place
  pub one_more : (xs : List X) (i : ℕ) (x : X) → i < length xs → x ≡ get_or xs i x → take (i + 1) xs ≡ take i xs ++ x ∷ []
  one_more xs i x within is = ap (λ (n : ℕ). take n xs) after ∙ (take-suc xs i x within ∙ ap (λ (y : X). take i xs ++ y ∷ []) (sym is))
    where
      after : i + 1 ≡ suc i
      after = omega arith

  pub split_at : (xs : List X) (i : ℕ) (x : X) → i < length xs → x ≡ get_or xs i x → drop i xs ≡ x ∷ drop (i + 1) xs
  split_at xs i x within is = at_drop_more (λ (l : List X). l) xs i x within ∙ ap (λ (y : X). y ∷ drop (i + 1) xs) (sym is)

pub none_left : {X : Type 0} (xs : List X) (n : ℕ) → length xs ≤ n → drop n xs ≡ []
none_left [] zero past = refl
none_left [] (suc n) past = refl
none_left (x ∷ xs) zero past = absurd (omega (arith, past))
none_left (x ∷ xs) (suc n) past = none_left xs n (omega (arith, past))

pub on_ok : {T E : Type 0} {P Q : Type 0} (r : Result T E) → (P → Q) → OnOk r P → OnOk r Q
on_ok (Ok x) go p = go p
on_ok (Err e) go p = p
