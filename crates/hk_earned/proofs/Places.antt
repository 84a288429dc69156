-- Functions with another value at one place.
use Rattle.std.proofs.Common.{◌≡◌, ◌≢◌, ◌⊎◌, ℕ, Bool, true, false, cond, nat_eq, List, ◌∷◌, ◌&&◌, max, refl, sym, ap, inl, inr, ⊎_elim}
use Rattle.std.proofs.lemmas.Bool.{cases_eq, eqb-true, eqb-false, eq-eqb}
use Rattle.hk_base.specs.declared.stamp.NodeId.{NodeId}
use Rattle.hk_earned.specs.Machine.{Give, put, put_node, granted_by}

pub by_put : {X : Type 0} (Q : X → Type 0) (m : ℕ) (x : X) (f : ℕ → X) (j : ℕ) → (j ≡ m → Q x) → (j ≢ m → Q (f j)) → Q (put m x f j)
by_put Q m x f j here there = at (nat_eq j m) refl
  where
    at : (t : Bool) → nat_eq j m ≡ t → Q (cond t x (f j))
    at true e = here (eqb-true j m e)
    at false e = there (eqb-false j m e)

numbered_as : ℕ → NodeId
numbered_as n = record { 0 = n }

pub same_node : (a b : NodeId) → a.0 ≡ b.0 → a ≡ b
unfolding numbered_as
same_node a b e = ap numbered_as e

pub by_node : {X : Type 0} (Q : X → Type 0) (n : NodeId) (x : X) (f : NodeId → X) (k : NodeId) → (k ≡ n → Q x) → (k ≢ n → Q (f k)) → Q (put_node n x f k)
by_node Q n x f k here there = at (nat_eq k.0 n.0) refl
  where
    at : (t : Bool) → nat_eq k.0 n.0 ≡ t → Q (cond t x (f k))
    at true e = here (same_node k n (eqb-true k.0 n.0 e))
    at false e = there (λ s. eqb-false k.0 n.0 e (ap (λ (z : NodeId). z.0) s))

pub which_node : (k n : NodeId) → (k ≡ n) ⊎ (k ≢ n)
which_node k n = ⊎_elim (λ (e : k.0 ≡ n.0). inl (same_node k n e)) (λ (d : k.0 ≢ n.0). inr (λ s. d (ap (λ (z : NodeId). z.0) s))) (cases_eq k.0 n.0)

pub which_pair : (m : ℕ) (n : NodeId) (j : ℕ) (k : NodeId) → ((j ≡ m) × (k ≡ n)) ⊎ ((j ≡ m) × (k ≡ n) → ⊥)
which_pair m n j k = ⊎_elim
    (λ (e : j ≡ m). ⊎_elim (λ (h : k ≡ n). inl (e, h)) (λ (h : k ≢ n). inr (λ p. h p.1)) (which_node k n))
    (λ (e : j ≢ m). inr (λ p. e p.0)) (cases_eq j m)

-- one more letter of a grant: of this pair, or of another one
module _ (lease founders : ℕ) (gives : List Give) (give : Give) where
  at_give : (j : ℕ) (k : NodeId) →
      ((j ≡ give.manager) × (k ≡ give.node) × (granted_by lease founders (give ∷ gives) j k ≡ max (granted_by lease founders gives j k) give.end)) ⊎ (granted_by lease founders (give ∷ gives) j k ≡ granted_by lease founders gives j k)
  at_give j k = at (nat_eq give.manager j) (nat_eq give.node.0 k.0) refl refl
    where
      at : (t u : Bool) → nat_eq give.manager j ≡ t → nat_eq give.node.0 k.0 ≡ u →
          ((j ≡ give.manager) × (k ≡ give.node) × (cond (t && u) (max (granted_by lease founders gives j k) give.end) (granted_by lease founders gives j k) ≡ max (granted_by lease founders gives j k) give.end))
          ⊎ (cond (t && u) (max (granted_by lease founders gives j k) give.end) (granted_by lease founders gives j k) ≡ granted_by lease founders gives j k)
      at true true e h = inl (sym (eqb-true give.manager j e), same_node k give.node (sym (eqb-true give.node.0 k.0 h)), refl)
      at true false e h = inr refl
      at false u e h = inr refl

  pub other_give : (j : ℕ) (k : NodeId) → ((j ≡ give.manager) × (k ≡ give.node) → ⊥) → granted_by lease founders (give ∷ gives) j k ≡ granted_by lease founders gives j k
  other_give j k d = ⊎_elim
      (λ (h : (j ≡ give.manager) × (k ≡ give.node) × (granted_by lease founders (give ∷ gives) j k ≡ max (granted_by lease founders gives j k) give.end)). absurd (d (h.0, h.1)))
      (λ (h : granted_by lease founders (give ∷ gives) j k ≡ granted_by lease founders gives j k). h) (at_give j k)

  pub here_give : granted_by lease founders (give ∷ gives) give.manager give.node ≡ max (granted_by lease founders gives give.manager give.node) give.end
  here_give = ap (λ (t : Bool). cond t (max (granted_by lease founders gives give.manager give.node) give.end) (granted_by lease founders gives give.manager give.node)) both
    where
      both : (nat_eq give.manager give.manager && nat_eq give.node.0 give.node.0) ≡ true
      both = rw (eq-eqb give.manager give.manager refl, eq-eqb give.node.0 give.node.0 refl) refl
