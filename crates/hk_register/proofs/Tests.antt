-- Tests on lists, and what they decide.
use Rattle.std.proofs.Common.{◌≡◌, ◌⊎◌, ℕ, Bool, true, false, cond, ◌||◌, List, [], ◌∷◌, eqb, refl, ap, sym, inl, inr, ⊎_elim, ◌∙◌}
use Rattle.std.proofs.lemmas.Bool.{eqb-true, eqb-false, false≢true, or_cases, and_parts, and_from}
use Rattle.std.specs.List.{list_any, list_all}
use Rattle.hk_register.specs.Machine.{In}
use Rattle.hk_register.specs.Runs.{is_in}

-- the test decides membership
pub is_in_cases : (n : ℕ) (ms : List ℕ) → ((is_in n ms ≡ true) × In ms n) ⊎ ((is_in n ms ≡ false) × (In ms n → ⊥))
is_in_cases n [] = inr (refl, λ no. no)
is_in_cases n (m ∷ ms) = by_first (is_in_cases n ms) (eqb n m) refl
  where
    by_first : ((is_in n ms ≡ true) × In ms n) ⊎ ((is_in n ms ≡ false) × (In ms n → ⊥)) → (b : Bool) → eqb n m ≡ b → ((cond b true (is_in n ms) ≡ true) × In (m ∷ ms) n) ⊎ ((cond b true (is_in n ms) ≡ false) × (In (m ∷ ms) n → ⊥))
    by_first later true e = inl (refl, inl (eqb-true n m e))
    by_first later false e = ⊎_elim
        (λ (h : (is_in n ms ≡ true) × In ms n). inl (h.0, inr h.1))
        (λ (h : (is_in n ms ≡ false) × (In ms n → ⊥)). inr (h.0, elim [ inl same ↦ eqb-false n m e same | inr there ↦ h.1 there ])) later

pub in_is : (n : ℕ) (ms : List ℕ) → is_in n ms ≡ true → In ms n
in_is n ms e = ⊎_elim
    (λ (h : (is_in n ms ≡ true) × In ms n). h.1)
    (λ (h : (is_in n ms ≡ false) × (In ms n → ⊥)). absurd (false≢true (sym h.0 ∙ e))) (is_in_cases n ms)

pub is_in_from : (n : ℕ) (ms : List ℕ) → In ms n → is_in n ms ≡ true
is_in_from n ms h = ⊎_elim
    (λ (t : (is_in n ms ≡ true) × In ms n). t.0)
    (λ (t : (is_in n ms ≡ false) × (In ms n → ⊥)). absurd (t.1 h)) (is_in_cases n ms)

pub any_in : {X : Type 0} (p : X → Bool) (xs : List X) → list_any p xs ≡ true → (x : X) × In xs x × (p x ≡ true)
any_in p [] e = absurd (false≢true e)
any_in p (x ∷ xs) e = ⊎_elim
    (λ (h : p x ≡ true). (x, inl refl, h))
    (λ (h : list_any p xs ≡ true). let t = any_in p xs h in (t.0, inr t.1, t.2)) (or_cases (p x) (list_any p xs) e)

pub in_any : {X : Type 0} (p : X → Bool) (xs : List X) (x : X) → In xs x → p x ≡ true → list_any p xs ≡ true
in_any p [] x h e = absurd h
in_any p (y ∷ xs) x (inl is) e = rw (sym (ap p is) ∙ e) refl
in_any p (y ∷ xs) x (inr h) e = by_test (p y) (in_any p xs x h e)
  where
    by_test : (b : Bool) → list_any p xs ≡ true → (b || list_any p xs) ≡ true
    by_test true e = refl
    by_test false e = e

pub all_in : {X : Type 0} (p : X → Bool) (xs : List X) → list_all p xs ≡ true → (x : X) → In xs x → p x ≡ true
all_in p [] e x h = absurd h
all_in p (y ∷ xs) e x (inl is) = ap p is ∙ (and_parts (p y) (list_all p xs) e).0
all_in p (y ∷ xs) e x (inr h) = all_in p xs (and_parts (p y) (list_all p xs) e).1 x h

pub in_all : {X : Type 0} (p : X → Bool) (xs : List X) → ((x : X) → In xs x → p x ≡ true) → list_all p xs ≡ true
in_all p [] h = refl
in_all p (y ∷ xs) h = and_from (p y) (list_all p xs) (h y (inl refl)) (in_all p xs (λ x k. h x (inr k)))
