-- First places in lists.
use Rattle.std.proofs.Common.{◌≡◌, ℕ, Bool, true, false, cond, ◌+◌, not, List, [], ◌∷◌, ◌++◌, length, ◌<◌, ◌≤◌, refl, sym, ◌∙◌, ap, subst, inl, inr, arith}
use Rattle.std.specs.List.{position_or_len}
use Rattle.std.proofs.lemmas.Bool.{false≢true}
use Rattle.hk_register.specs.Machine.{In}

-- what passes no later than another test
pub no_later : {X : Type 0} (p q : X → Bool) (xs : List X) → ((x : X) → In xs x → q x ≡ true → p x ≡ true) → position_or_len p xs ≤ position_or_len q xs
no_later p q [] more = omega arith
no_later p q (x ∷ xs) more = by_tests (p x) refl (q x) refl (no_later p q xs (λ y h. more y (inr h)))
  where
    by_tests : (b : Bool) → p x ≡ b → (c : Bool) → q x ≡ c → position_or_len p xs ≤ position_or_len q xs →
        cond (not b) (1 + position_or_len p xs) 0 ≤ cond (not c) (1 + position_or_len q xs) 0
    by_tests true e c f up = omega arith
    by_tests false e true f up = absurd (false≢true (sym e ∙ more x (inl refl) f))
    by_tests false e false f up = omega (arith, up)

pub found_within : {X : Type 0} (p : X → Bool) (xs : List X) (x : X) → In xs x → p x ≡ true → position_or_len p xs < length xs
found_within p [] x h e = absurd h
found_within {X} p (y ∷ xs) x h e = by_test (p y) refl h (found_within p xs x)
  where
    by_test : (b : Bool) → p y ≡ b → In (y ∷ xs) x → (In xs x → p x ≡ true → position_or_len p xs < length xs) → cond (not b) (1 + position_or_len p xs) 0 < length (y ∷ xs)
    by_test true t h more = omega arith
    by_test false t (inl is) more = absurd (false≢true (sym t ∙ subst (λ (z : X). p z ≡ true) is e))
    by_test false t (inr h) more = let up = more h e in omega (arith, up)

pub place_within : {X : Type 0} (p : X → Bool) (xs : List X) → position_or_len p xs ≤ length xs
place_within p [] = omega arith
place_within p (x ∷ xs) = by_test (p x) (place_within p xs)
  where
    by_test : (b : Bool) → position_or_len p xs ≤ length xs → cond (not b) (1 + position_or_len p xs) 0 ≤ length (x ∷ xs)
    by_test true up = omega arith
    by_test false up = omega (arith, up)

-- ---- one element more
-- what was found stays where it is
pub stays_found : {X : Type 0} (p : X → Bool) (xs ys : List X) → position_or_len p xs < length xs → position_or_len p (xs ++ ys) ≡ position_or_len p xs
stays_found p [] ys l = absurd (omega (arith, l))
stays_found p (x ∷ xs) ys l = by_test (p x) l (stays_found p xs ys)
  where
    by_test : (b : Bool) → cond (not b) (1 + position_or_len p xs) 0 < length (x ∷ xs) → (position_or_len p xs < length xs → position_or_len p (xs ++ ys) ≡ position_or_len p xs) →
        cond (not b) (1 + position_or_len p (xs ++ ys)) 0 ≡ cond (not b) (1 + position_or_len p xs) 0
    by_test true l more = refl
    by_test false l more = ap (λ (n : ℕ). 1 + n) (more (omega (arith, l)))

-- where nothing passed, the last one is the first that does, or nothing does
pub found_last : {X : Type 0} (p : X → Bool) (xs : List X) (x : X) → position_or_len p xs ≡ length xs → p x ≡ true → position_or_len p (xs ++ x ∷ []) ≡ length xs
found_last p [] x none e = rw e refl
found_last p (y ∷ xs) x none e = by_test (p y) none (λ none. found_last p xs x none e)
  where
    by_test : (b : Bool) → cond (not b) (1 + position_or_len p xs) 0 ≡ length (y ∷ xs) → (position_or_len p xs ≡ length xs → position_or_len p (xs ++ x ∷ []) ≡ length xs) →
        cond (not b) (1 + position_or_len p (xs ++ x ∷ [])) 0 ≡ length (y ∷ xs)
    by_test true none more = absurd (omega (arith, none))
    by_test false none more = let same = more (omega (arith, none)) in omega (arith, same)

pub none_yet : {X : Type 0} (p : X → Bool) (xs : List X) (x : X) → position_or_len p xs ≡ length xs → p x ≡ false → position_or_len p (xs ++ x ∷ []) ≡ length xs + 1
none_yet p [] x none e = rw e refl
none_yet p (y ∷ xs) x none e = by_test (p y) none (λ none. none_yet p xs x none e)
  where
    by_test : (b : Bool) → cond (not b) (1 + position_or_len p xs) 0 ≡ length (y ∷ xs) → (position_or_len p xs ≡ length xs → position_or_len p (xs ++ x ∷ []) ≡ length xs + 1) →
        cond (not b) (1 + position_or_len p (xs ++ x ∷ [])) 0 ≡ length (y ∷ xs) + 1
    by_test true none more = absurd (omega (arith, none))
    by_test false none more = let same = more (omega (arith, none)) in omega (arith, same)
