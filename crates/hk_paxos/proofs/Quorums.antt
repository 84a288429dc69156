-- Two quorums share a manager.
use Rattle.std.proofs.Common.{◌≡◌, ◌≢◌, ◌⊎◌, ℕ, true, false, List, [], ◌∷◌, ◌++◌, length-append, nat_eq, refl, sym, inl, inr, ⊎_elim, arith}
use Rattle.std.specs.List.{IsDistinct, AllByRecursion, list_any}
use Rattle.std.proofs.lemmas.Map.Keys.{IsDistinct-tail, IsDistinct-head, IsDistinct-cons}
use Rattle.std.proofs.lemmas.Map.Steps.{length-le_from_distinct_below}
use Rattle.std.proofs.lemmas.Bool.{cases_eq, ne_eqb, eqb-true, eqb-false, or_cases, or_parts, false≢true}
use Rattle.hk_paxos.specs.Run.{In, IsQuorum}

pub in_right : {X : Type 0} (xs ys : List X) (y : X) → In ys y → In (xs ++ ys) y
in_right [] ys y h = h
in_right (x ∷ xs) ys y h = inr (in_right xs ys y h)

pub in_either : {X : Type 0} (xs ys : List X) (y : X) → In (xs ++ ys) y → In xs y ⊎ In ys y
in_either [] ys y h = inr h
in_either (x ∷ xs) ys y (inl e) = inl (inl e)
in_either (x ∷ xs) ys y (inr h) = ⊎_elim (λ a. inl (inr a)) inr (in_either xs ys y h)

cases_in : (x : ℕ) (ys : List ℕ) → In ys x ⊎ (In ys x → ⊥)
cases_in x [] = inr (λ h. h)
cases_in x (y ∷ ys) = ⊎_elim (λ (e : x ≡ y). inl (inl e)) (λ (d : x ≡ y → ⊥). ⊎_elim (λ (h : In ys x). inl (inr h)) (λ (n : In ys x → ⊥). inr (λ h. ⊎_elim d n h)) (cases_in x ys)) (cases_eq x y)

apart : (x : ℕ) (ys : List ℕ) → (In ys x → ⊥) → AllByRecursion (λ y. nat_eq x y ≡ false) ys
apart x [] n = tt
apart x (y ∷ ys) n = (ne_eqb x y (λ e. n (inl e)), apart x ys (λ h. n (inr h)))

both_apart : (P : ℕ → Type 0) (xs ys : List ℕ) → AllByRecursion P xs → AllByRecursion P ys → AllByRecursion P (xs ++ ys)
both_apart P [] ys h k = k
both_apart P (x ∷ xs) ys h k = (h.0, both_apart P xs ys h.1 k)

-- either they share one, or no number stands twice in the two together
shared : (xs ys : List ℕ) → IsDistinct nat_eq xs → IsDistinct nat_eq ys → ((m : ℕ) × In xs m × In ys m) ⊎ IsDistinct nat_eq (xs ++ ys)
shared [] ys d e = inr e
shared (x ∷ xs) ys d e = ⊎_elim
    (λ (h : In ys x). inl (x, inl refl, h))
    (λ (n : In ys x → ⊥). ⊎_elim
    (λ (s : (m : ℕ) × In xs m × In ys m). inl (s.0, inr s.1, s.2))
    (λ (a : IsDistinct nat_eq (xs ++ ys)). inr (IsDistinct-cons nat_eq x (xs ++ ys) (both_apart _ xs ys (IsDistinct-head nat_eq x xs d) (apart x ys n)) a))
    (shared xs ys (IsDistinct-tail nat_eq x xs d) e)) (cases_in x ys)

found : (m : ℕ) (xs : List ℕ) → list_any (nat_eq m) xs ≡ true → In xs m
found m [] h = absurd (false≢true h)
found m (x ∷ xs) h = ⊎_elim (λ (e : nat_eq m x ≡ true). inl (eqb-true m x e)) (λ (k : list_any (nat_eq m) xs ≡ true). inr (found m xs k)) (or_cases (nat_eq m x) (list_any (nat_eq m) xs) h)

pub meet : (managers : ℕ) (xs ys : List ℕ) → IsQuorum managers xs → IsQuorum managers ys → (m : ℕ) × In xs m × In ys m
meet managers xs ys p q = ⊎_elim
    (λ (s : (m : ℕ) × In xs m × In ys m). s)
    (λ (d : IsDistinct nat_eq (xs ++ ys)).
    let few = length-le_from_distinct_below (xs ++ ys) managers d (λ m h. ⊎_elim (λ (a : In xs m). p.known m a) (λ (b : In ys m). q.known m b) (in_either xs ys m (found m (xs ++ ys) h))) in
    absurd (omega (arith, few, length-append xs ys, p.majority, q.majority))) (shared xs ys p.distinct q.distinct)

-- one more manager that was not noted
not_noted : (from : ℕ) (xs : List ℕ) → list_any (λ manager. nat_eq manager from) xs ≡ false → In xs from → ⊥
not_noted from [] n h = h
not_noted from (x ∷ xs) n (inl e) = eqb-false x from (or_parts (nat_eq x from) _ n).0 (sym e)
not_noted from (x ∷ xs) n (inr h) = not_noted from xs (or_parts (nat_eq x from) _ n).1 h

apart_from : (x from : ℕ) (xs : List ℕ) → IsDistinct nat_eq (x ∷ xs) → x ≢ from → AllByRecursion (λ y. nat_eq x y ≡ false) (xs ++ from ∷ [])
apart_from x from xs d n = both_apart _ xs (from ∷ []) (IsDistinct-head nat_eq x xs d) (ne_eqb x from n, tt)

pub distinct_with : (from : ℕ) (xs : List ℕ) → list_any (λ manager. nat_eq manager from) xs ≡ false → IsDistinct nat_eq xs → IsDistinct nat_eq (xs ++ from ∷ [])
distinct_with from [] n d = IsDistinct-cons nat_eq from [] tt d
distinct_with from (x ∷ xs) n d =
    IsDistinct-cons nat_eq x (xs ++ from ∷ []) (apart_from x from xs d (eqb-false x from (or_parts (nat_eq x from) _ n).0))
    (distinct_with from xs (or_parts (nat_eq x from) _ n).1 (IsDistinct-tail nat_eq x xs d))

pub none_twice : IsDistinct nat_eq []
unfolding IsDistinct
none_twice = tt
