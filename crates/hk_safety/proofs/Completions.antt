-- A stamp's moment is that of the next stamp, unless its own update is complete before.
use Rattle.std.proofs.Common.{◌≡◌, ◌⊎◌, ℕ, Bool, true, false, cond, ◌+◌, ◌&&◌, ◌||◌, not, List, [], ◌∷◌, ◌<◌, ◌∙◌, sym, refl, ap, ap₂, ⊎_elim, arith, eqb}
use Rattle.std.specs.Prelude.{nat_le, min}
use Rattle.std.specs.List.{list_any, position_or_len}
use Rattle.std.proofs.lemmas.Bool.{false≢true, eqb-true, eq-eqb, leb-true, le-leb, cases_order, false_from_ne_true}
use Rattle.hk_register.specs.Machine.{Update}
use Rattle.hk_register.specs.Printed.{is_complete}
use Rattle.hk_effects.specs.Projection.{project}
use Rattle.hk_effects.specs.Orders.{family}
use Rattle.hk_safety.specs.Moment.{traces, is_reached, is_completed, MomentsFollowCompletions}

-- at least s is s, or at least the next number
not_below : (s x : ℕ) → nat_le s x ≡ (eqb x s || nat_le (s + 1) x)
not_below s x = by_order (cases_order x s)
  where
    by_order : (x ≡ s) ⊎ ((x < s) ⊎ (s < x)) → nat_le s x ≡ (eqb x s || nat_le (s + 1) x)
    by_order order = by_tests (eqb x s) refl (nat_le (s + 1) x) refl
      where
        by_tests : (a : Bool) → eqb x s ≡ a → (b : Bool) → nat_le (s + 1) x ≡ b → nat_le s x ≡ (a || b)
        by_tests true e b f = let is = eqb-true x s e in le-leb s x (omega (arith, is))
        by_tests false e true f = let l = leb-true (s + 1) x f in le-leb s x (omega (arith, l))
        by_tests false e false f = false_from_ne_true (nat_le s x) (λ h.
            let l = leb-true s x h in
            ⊎_elim
            (λ (is : x ≡ s). absurd (false≢true (sym e ∙ eq-eqb x s is)))
            (λ (o : (x < s) ⊎ (s < x)).
            ⊎_elim
            (λ (low : x < s). absurd (omega (arith, low, l)))
            (λ (up : s < x). absurd (false≢true (sym f ∙ le-leb (s + 1) x (omega (arith, up))))) o)
            order)

any_or : {X : Type 0} (a b c d : X → Bool) (xs : List X) → ((x : X) → d x ≡ (a x || b x)) → list_any (λ x. d x && c x) xs ≡ (list_any (λ x. a x && c x) xs || list_any (λ x. b x && c x) xs)
any_or a b c d [] same = refl
any_or a b c d (x ∷ xs) same =
    ap₂ (λ (t r : Bool). (t && c x) || r) (same x) (any_or a b c d xs same)
    ∙ by_tests (a x) (b x) (c x) (list_any (λ x. a x && c x) xs) (list_any (λ x. b x && c x) xs)
  where
    by_tests : (p q r u v : Bool) → (((p || q) && r) || (u || v)) ≡ (((p && r) || u) || ((q && r) || v))
    by_tests true q true u v = refl
    by_tests true true false true v = refl
    by_tests true true false false v = refl
    by_tests true false false true v = refl
    by_tests true false false false v = refl
    by_tests false true true true v = refl
    by_tests false true true false v = refl
    by_tests false true false true v = refl
    by_tests false true false false v = refl
    by_tests false false r true v = refl
    by_tests false false r false v = refl

position_or : {X : Type 0} (p q r : X → Bool) (xs : List X) → ((x : X) → r x ≡ (p x || q x)) → position_or_len r xs ≡ min (position_or_len p xs) (position_or_len q xs)
position_or p q r [] same = omega arith
position_or p q r (x ∷ xs) same = ap (λ (t : Bool). cond (not t) (1 + position_or_len r xs) 0) (same x) ∙ by_tests (p x) (q x) (position_or p q r xs same)
  where
    by_tests : (a b : Bool) → position_or_len r xs ≡ min (position_or_len p xs) (position_or_len q xs) →
        cond (not (a || b)) (1 + position_or_len r xs) 0 ≡ min (cond (not a) (1 + position_or_len p xs) 0) (cond (not b) (1 + position_or_len q xs) 0)
    by_tests true true e = omega arith
    by_tests true false e = omega arith
    by_tests false true e = omega arith
    by_tests false false e = omega (arith, e)

pub moments_follow : MomentsFollowCompletions
moments_follow run key s = position_or (is_completed key s) (is_reached key (s + 1)) (is_reached key s) (traces run key) (λ t.
    any_or (λ (u : Update). eqb u.stamp s) (λ (u : Update). nat_le (s + 1) u.stamp) (λ (u : Update). is_complete (family t.world.views) (project key t) u.stamp) (λ (u : Update). nat_le s u.stamp) t.begun
    (λ u. not_below s u.stamp))
