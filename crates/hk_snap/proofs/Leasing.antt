-- Each step of a lease cell keeps its rule.
use Rattle.std.proofs.Common.{◌≡◌, ◌≢◌, ℕ, zero, suc, ◌+◌, ◌≤◌, List, [], ◌∷◌, set, slice_index, true, false, true≢false, refl, sym, ap, ◌∙◌, subst, ⊎_elim, arith, le_refl, zero-le}
use mathlib.Core.Option.{some, some-ne-none, some-injective}
use lib.ListN.{get_elem?}
use Rattle.crossbeam_utils.specs.Register.{Turns, Forks, Merges}
use Rattle.atomic_table.proofs.Lists.{at_set, at_snoc}
use Rattle.hk_snap.specs.declared.lease_rule.Known.{Known}
use Rattle.hk_snap.specs.LeaseRule.{looker, keeper, greater, claimed, met, Fits, Kept, Raised, LookedAt, Weighed}

off : false ≡ true → ⊥
off e = true≢false (sym e)

fits_set : (seat : ℕ) (words : List ℕ) (views : List Known) (by : ℕ) (w : Known) → ((j : ℕ) (u : Known) → j ≢ by → get_elem? views j ≡ some u → Fits seat words j u) → Fits seat words by w → (j : ℕ) (u : Known) → get_elem? (set views by w) j ≡ some u → Fits seat words j u
fits_set seat words views by w others mine j u e =
    ⊎_elim
    (λ (x : (j ≡ by) × (w ≡ u)). subst (λ (y : ℕ × Known). Fits seat words y.0 y.1) (λ i. (sym x.0 i, x.1 i)) mine)
    (λ (x : (j ≢ by) × (get_elem? views j ≡ some u)). others j u x.0 x.1)
    (at_set views by j w u e)

pub begins : (words : List ℕ) → words ≡ 0 ∷ 0 ∷ [] → Kept words (keeper 0 0 0 ∷ [])
begins words is = (0, one)
  where
    one : (by : ℕ) (v : Known) → get_elem? (keeper 0 0 0 ∷ []) by ≡ some v → Fits 0 words by v
    one zero v e = subst (Fits 0 words 0) (some-injective _ _ e) (record { end = zero-le; now = zero-le; claim_end = zero-le; claim_now = zero-le; keeps = λ _. (refl, is) })
    one (suc by) v e = absurd (some-ne-none v (sym e))

pub raises : (by : ℕ) (v : Known) (end now : ℕ) → v ≡ keeper v.end v.now v.loads → v.end ≤ end → v.now ≤ now → Turns Kept by v (λ _. end ∷ now ∷ []) Raised
raises by v end now is up later words views h at =
    let keeps : v.keeps ≡ true = ap (λ (u : Known). u.keeps) is in
    let mine = (h.1 by v at).keeps keeps in
    let w : Known = record { keeps = v.keeps; end = end; now = now; loads = v.loads; claim_end = v.claim_end; claim_now = v.claim_now } in
    let first : slice_index words 0 ≡ v.end = ap (λ (ws : List ℕ). slice_index ws 0) mine.1 in
    let second : slice_index words 1 ≡ v.now = ap (λ (ws : List ℕ). slice_index ws 1) mine.1 in
    let grown : (a b : ℕ) → a ≤ slice_index words 0 → b ≤ slice_index words 1 → (a ≤ end) × (b ≤ now) = λ a b p q. (omega (arith, p, first, up), omega (arith, q, second, later)) in (
      w,
      (
        h.0,
        fits_set h.0 (end ∷ now ∷ []) views by w
            (λ j u apart e. (
            let f = h.1 j u e in
            record { end = (grown u.end u.now f.end f.now).0; now = (grown u.end u.now f.end f.now).1; claim_end = (grown u.claim_end u.claim_now f.claim_end f.claim_now).0; claim_now = (grown u.claim_end u.claim_now f.claim_end f.claim_now).1; keeps = λ k. absurd (apart ((f.keeps k).0 ∙ sym mine.0)) }
            ))
            (let f = h.1 by v at in record { end = le_refl end; now = le_refl now; claim_end = (grown v.claim_end v.claim_now f.claim_end f.claim_now).0; claim_now = (grown v.claim_end v.claim_now f.claim_end f.claim_now).1; keeps = λ _. (mine.0, refl) }),
      ),
      refl,
    )

pub looks_at : (by : ℕ) (v : Known) → Turns Kept by v (λ x. x) LookedAt
looks_at by v words views h at =
    let mine = h.1 by v at in
    let w : Known = record { keeps = v.keeps; end = slice_index words 0; now = slice_index words 1; loads = v.loads + 1; claim_end = v.claim_end; claim_now = v.claim_now } in
    let whole : v.keeps ≡ true → (slice_index words 0 ≡ v.end) × (slice_index words 1 ≡ v.now) = λ k. (ap (λ (ws : List ℕ). slice_index ws 0) (mine.keeps k).1, ap (λ (ws : List ℕ). slice_index ws 1) (mine.keeps k).1) in (
      w,
      (
        h.0,
        fits_set h.0 words views by w (λ j u apart e. h.1 j u e)
            (record { end = le_refl _; now = le_refl _; claim_end = mine.claim_end; claim_now = mine.claim_now; keeps = λ k. ((mine.keeps k).0, (mine.keeps k).1 ∙ sym (λ i. (whole k).0 i ∷ (whole k).1 i ∷ [])) }),
      ),
      (refl, mine.end, mine.now),
    )

pub weighs : (by : ℕ) (v : Known) → v.keeps ≡ true → Turns Kept by v (λ x. x) Weighed
weighs by v keeps words views h at =
    let mine = h.1 by v at in
    let first : slice_index words 0 ≡ v.end = ap (λ (ws : List ℕ). slice_index ws 0) (mine.keeps keeps).1 in
    let second : slice_index words 1 ≡ v.now = ap (λ (ws : List ℕ). slice_index ws 1) (mine.keeps keeps).1 in
    let w : Known = keeper v.end v.now (v.loads + 1) in (
      w,
      (h.0, fits_set h.0 words views by w (λ j u apart e. h.1 j u e) (record { end = mine.end; now = mine.now; claim_end = zero-le; claim_now = zero-le; keeps = λ k. mine.keeps keeps })),
      (refl, (let a = mine.claim_end in omega (arith, a, first)), (let a = mine.claim_now in omega (arith, a, second))),
    )

pub forks : (by : ℕ) (v left right : Known) → ((seat : ℕ) (words : List ℕ) → Fits seat words by v → Fits seat words by left) → ((seat : ℕ) (words : List ℕ) (j : ℕ) → Fits seat words by v → Fits seat words j right) → Forks Kept by v left right
forks by v left right keeps gives words views h at = (
  h.0,
  λ j u e. ⊎_elim
      (λ was. fits_set h.0 words views by left (λ i x apart e'. h.1 i x e') (keeps h.0 words (h.1 by v at)) j u was)
      (λ (same : right ≡ u). subst (Fits h.0 words j) same (gives h.0 words j (h.1 by v at)))
      (at_snoc (set views by left) right u j e),
)

pub merges : (by : ℕ) (v : Known) (other : ℕ) (w both spent : Known) → ((seat : ℕ) (words : List ℕ) → Fits seat words by v → Fits seat words other w → Fits seat words by both) → ((seat : ℕ) (words : List ℕ) → Fits seat words other spent) → Merges Kept by v other w both spent
merges by v other w both spent keeps rests words views h at apart there =
    let mine = h.1 by v at in
    let theirs = ⊎_elim (λ (t : (other ≡ by) × (both ≡ w)). absurd (apart t.0)) (λ (t : (other ≢ by) × (get_elem? views other ≡ some w)). h.1 other w t.1) (at_set views by other both w there) in
    (h.0, fits_set h.0 words (set views by both) other spent (λ j u _ e. fits_set h.0 words views by both (λ i y _ e'. h.1 i y e') (keeps h.0 words mine theirs) j u e) (rests h.0 words))

idle_fits : (seat : ℕ) (words : List ℕ) (j : ℕ) → Fits seat words j (looker 0 0 0)
idle_fits seat words j = record { end = zero-le; now = zero-le; claim_end = zero-le; claim_now = zero-le; keeps = λ k. absurd (off k) }

pub splits : (by : ℕ) (v : Known) → Forks Kept by v v (looker v.end v.now 0)
splits by v = forks by v v (looker v.end v.now 0) (λ seat words f. f) (λ seat words j f. record { end = f.end; now = f.now; claim_end = zero-le; claim_now = zero-le; keeps = λ k. absurd (off k) })

pub goes_over : (by : ℕ) (v : Known) → v.keeps ≡ false → Forks Kept by v (looker 0 0 0) v
goes_over by v looks = forks by v (looker 0 0 0) v (λ seat words f. idle_fits seat words by) (λ seat words j f. record { end = f.end; now = f.now; claim_end = f.claim_end; claim_now = f.claim_now; keeps = λ k. absurd (off (sym looks ∙ k)) })

pub joins : (by : ℕ) (v : Known) (other : ℕ) (w : Known) → v.keeps ≡ false → Merges Kept by v other w (greater v w) (looker 0 0 0)
joins by v other w looks = merges by v other w (greater v w) (looker 0 0 0)
    (λ seat words f g. record { end = (let a = f.end in let b = g.end in omega arith); now = (let a = f.now in let b = g.now in omega arith); claim_end = f.claim_end; claim_now = f.claim_now; keeps = λ k. absurd (off (sym looks ∙ k)) })
    (λ seat words. idle_fits seat words other)

pub claims : (by : ℕ) (v : Known) (other : ℕ) (w : Known) → Merges Kept by v other w (claimed v w) (looker 0 0 0)
claims by v other w = merges by v other w (claimed v w) (looker 0 0 0)
    (λ seat words f g. record { end = f.end; now = f.now; claim_end = g.end; claim_now = g.now; keeps = f.keeps })
    (λ seat words. idle_fits seat words other)

pub meets : (by : ℕ) (v : Known) (other : ℕ) (w : Known) → v.keeps ≡ false → Merges Kept by v other w (met v w) (looker 0 0 0)
meets by v other w looks = merges by v other w (met v w) (looker 0 0 0)
    (λ seat words f g. record { end = g.end; now = g.now; claim_end = f.claim_end; claim_now = f.claim_now; keeps = λ k. absurd (off (sym looks ∙ k)) })
    (λ seat words. idle_fits seat words other)
