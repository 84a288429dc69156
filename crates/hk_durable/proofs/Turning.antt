-- Lists of managers that are made or changed in turn.
use Rattle.std.proofs.Common.{◌≡◌, ◌++◌, ◌<◌, ℕ, zero, suc, List, [], ◌∷◌, map, take, drop, length, get_or, slice_set, replicate, refl, sym, ap, ◌∙◌, subst, arith}

module _ {X : Type 0} where
  -- items in turn, of which the first were changed: with one more
  set_step : (f : X → X) (i : ℕ) (old : List X) (x y : X) → i < length old → get_or (map f (take i old) ++ drop i old) i x ≡ x → y ≡ f x →
      slice_set (map f (take i old) ++ drop i old) i y ≡ map f (take (suc i) old) ++ drop (suc i) old
  set_step f zero [] x y low at is = absurd (omega (arith, low))
  set_step f zero (z ∷ zs) x y low at is = ap (λ (v : X). v ∷ zs) (is ∙ ap f (sym at))
  set_step f (suc i) [] x y low at is = absurd (omega (arith, low))
  set_step f (suc i) (z ∷ zs) x y low at is = ap (λ (l : List X). f z ∷ l) (set_step f i zs x y (omega (arith, low)) at is)

  pub one_more : (f : X → X) (i j : ℕ) (old items : List X) (x y : X) → items ≡ map f (take i old) ++ drop i old → i < length old → get_or items i x ≡ x → y ≡ f x → j ≡ suc i →
      slice_set items i y ≡ map f (take j old) ++ drop j old
  one_more f i j old items x y so_far low at is next =
      ap (λ (l : List X). slice_set l i y) so_far
      ∙ set_step f i old x y low (subst (λ (l : List X). get_or l i x ≡ x) so_far at) is
      ∙ ap (λ (k : ℕ). map f (take k old) ++ drop k old) (sym next)

  copied : (k : ℕ) (x : X) → replicate k x ++ x ∷ [] ≡ replicate (suc k) x
  copied zero x = refl
  copied (suc k) x = ap (λ (l : List X). x ∷ l) (copied k x)

  -- one copy more
  pub copied_more : (k j : ℕ) (x y : X) (old new : List X) → new ≡ old ++ y ∷ [] → old ≡ replicate k x → y ≡ x → j ≡ suc k → new ≡ replicate j x
  copied_more k j x y old new grown so_far same next =
      grown ∙ ap (λ (l : List X). l ++ y ∷ []) so_far ∙ ap (λ (z : X). replicate k x ++ z ∷ []) same ∙ copied k x ∙ ap (λ (n : ℕ). replicate n x) (sym next)
