-- Sums over the views of a link, and what holds of each view.
use Rattle.std.proofs.Common.{◌≡◌, ◌≢◌, ⊎_elim, ℕ, zero, suc, ◌+◌, ◌<◌, ◌≤◌, List, [], ◌∷◌, ◌++◌, length, set, refl, sym, ap, ◌∙◌, subst, arith}
use mathlib.Core.Option.{some, some-ne-none, some-injective}
use lib.ListN.{get_elem?}
use native.Mathlib.Decide.{ℕ_discrete}
use Rattle.crossbeam_queue.proofs.Lists.{at_set, at_snoc, at_longer, set_else}
use Rattle.hk_link.specs.declared.rule.Known.{Known}
use Rattle.hk_link.specs.Rule.{total, Each}

module _ (f : Known → ℕ) where
  pub total_set : (views : List Known) (by : ℕ) (v w : Known) → get_elem? views by ≡ some v → total f (set views by w) + f v ≡ total f views + f w
  total_set [] by v w at = absurd (some-ne-none v (sym at))
  total_set (x ∷ views) zero v w at = let e = ap f (some-injective _ _ at) in omega (arith, e)
  total_set (x ∷ views) (suc by) v w at = let e = total_set views by v w at in omega (arith, e)

  pub total_snoc : (views : List Known) (w : Known) → total f (views ++ w ∷ []) ≡ total f views + f w
  total_snoc [] w = omega arith
  total_snoc (x ∷ views) w = let e = total_snoc views w in omega (arith, e)

  pub total_at : (views : List Known) (by : ℕ) (v : Known) → get_elem? views by ≡ some v → f v ≤ total f views
  total_at [] by v at = absurd (some-ne-none v (sym at))
  total_at (x ∷ views) zero v at = let e = ap f (some-injective _ _ at) in omega (arith, e)
  total_at (x ∷ views) (suc by) v at = let e = total_at views by v at in omega (arith, e)

  pub total_two : (views : List Known) (i j : ℕ) (v w : Known) → i ≢ j → get_elem? views i ≡ some v → get_elem? views j ≡ some w → f v + f w ≤ total f views
  total_two [] i j v w apart a b = absurd (some-ne-none v (sym a))
  total_two (x ∷ views) zero zero v w apart a b = absurd (apart refl)
  total_two (x ∷ views) zero (suc j) v w apart a b = let e = ap f (some-injective _ _ a) in let t = total_at views j w b in omega (arith, e, t)
  total_two (x ∷ views) (suc i) zero v w apart a b = let e = ap f (some-injective _ _ b) in let t = total_at views i v a in omega (arith, e, t)
  total_two (x ∷ views) (suc i) (suc j) v w apart a b = let t = total_two views i j v w (λ e. apart (ap suc e)) a b in omega (arith, t)

  total_none : (views : List Known) → Each (λ u. f u ≡ 0) views → total f views ≡ 0
  total_none [] none = refl
  total_none (x ∷ views) none = let a = none zero x refl in let b = total_none views (λ j u e. none (suc j) u e) in omega (arith, a, b)

  -- where all others have nothing, the sum is the one's
  pub total_lone : (views : List Known) (by : ℕ) (v : Known) → get_elem? views by ≡ some v → ((j : ℕ) (u : Known) → j ≢ by → get_elem? views j ≡ some u → f u ≡ 0) → total f views ≡ f v
  total_lone [] by v at others = absurd (some-ne-none v (sym at))
  total_lone (x ∷ views) zero v at others = let e = ap f (some-injective _ _ at) in let b = total_none views (λ j u g. others (suc j) u (λ k. let z : suc j ≡ zero = k in absurd (omega arith)) g) in omega (arith, e, b)
  total_lone (x ∷ views) (suc by) v at others =
      let a = others zero x (λ k. let z : zero ≡ suc by = k in absurd (omega arith)) refl in
      let b = total_lone views by v at (λ j u apart g. others (suc j) u (λ k. let z : suc j ≡ suc by = k in apart (omega arith)) g) in omega (arith, a, b)

pub there : (views : List Known) (by : ℕ) (v : Known) → get_elem? views by ≡ some v → by < length views
there [] by v at = absurd (some-ne-none v (sym at))
there (x ∷ views) zero v at = omega arith
there (x ∷ views) (suc by) v at = let e = there views by v at in omega (arith, e)

module _ (P : Known → Type 0) where
  pub each_set : (views : List Known) (by : ℕ) (w : Known) → Each P views → P w → Each P (set views by w)
  each_set views by w each mine j u e = ⊎_elim (λ (x : (j ≡ by) × (w ≡ u)). subst P x.1 mine) (λ (x : (j ≢ by) × (get_elem? views j ≡ some u)). each j u x.1) (at_set views by j w u e)

  pub each_snoc : (views : List Known) (w : Known) → Each P views → P w → Each P (views ++ w ∷ [])
  each_snoc views w each mine j u e = ⊎_elim (λ was. each j u was) (λ (same : w ≡ u). subst P same mine) (at_snoc views w u j e)

  pub each_front : (views : List Known) (w : Known) → Each P (views ++ w ∷ []) → Each P views
  each_front views w each j u e = each j u (at_longer views (w ∷ []) j u e)

  -- what held of each after one was replaced held of each before, if it held of that one
  pub each_back : (views : List Known) (by : ℕ) (v w : Known) → get_elem? views by ≡ some v → P v → Each P (set views by w) → Each P views
  each_back views by v w at mine each j u e = go (ℕ_discrete j by)
    where
      go : Dec (j ≡ by) → P u
      go (yes is) = subst P (some-injective _ _ (sym at ∙ (ap (get_elem? views) (sym is) ∙ e))) mine
      go (no apart) = each j u (set_else views by j w apart ∙ e)
