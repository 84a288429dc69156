-- The least number of a list that passes a test.
use Rattle.std.proofs.Common.{◌≡◌, ℕ, ◌≤◌, List, [], ◌∷◌, Option, Some, None, Bool, true, false, refl, sym, ap, subst, ◌∙◌, ◌||◌, ◌==◌, ◌⊎◌, inl, inr, arith, cond, min}
use Rattle.std.specs.List.{fold, reduce, filter, list_any}
use Rattle.std.proofs.lemmas.Bool.{cases_lt}
use Rattle.std.proofs.lemmas.Bool.Decides.{nat_tests}

abbrev pub IsIn : List ℕ → ℕ → Type 0
IsIn xs n = list_any (λ x. x == n) xs ≡ true

pub record IsLeastFold (a : ℕ) (xs : List ℕ) (m : ℕ) : Type 0 where
  pub first : m ≤ a
  pub others : (n : ℕ) → IsIn xs n → m ≤ n
  pub among : (m ≡ a) ⊎ IsIn xs m

is_here : (x n : ℕ) (rest : Bool) → (x == n || rest) ≡ true → (x ≡ n) ⊎ (rest ≡ true)
is_here x n true h = inr refl
is_here x n false h = here (x == n) refl
  where
    here : (b : Bool) → (x == n) ≡ b → (x ≡ n) ⊎ (false ≡ true)
    here true e = inl (grind (arith, nat_tests, e))
    here false e = inr (grind (arith, e, h))

pub in_head : (n : ℕ) (xs : List ℕ) → IsIn (n ∷ xs) n
in_head n xs = grind (arith, nat_tests)

pub in_tail : (x n : ℕ) (xs : List ℕ) → IsIn xs n → IsIn (x ∷ xs) n
in_tail x n xs h = kept (x == n) h
  where
    kept : (b : Bool) {r : Bool} → r ≡ true → (b || r) ≡ true
    kept true h = refl
    kept false h = h

pub least_fold : (a : ℕ) (xs : List ℕ) → IsLeastFold a xs (fold min a xs)
least_fold a [] = record { first = omega arith; others = λ n h. absurd (cc); among = inl refl }
least_fold a (x ∷ xs) = more (least_fold (min a x) xs)
  where
    more : IsLeastFold (min a x) xs (fold min (min a x) xs) → IsLeastFold a (x ∷ xs) (fold min (min a x) xs)
    more h = record {
      first = omega (arith, h.first);
      others = λ n i. elim (is_here x n (list_any (λ y. y == n) xs) i) [ inl e ↦ omega (arith, h.first, e) | inr r ↦ h.others n r ];
      among = elim h.among [ inl e ↦ elim (least_of a x) [ inl f ↦ inl (e ∙ f) | inr f ↦ inr (subst (IsIn (x ∷ xs)) (sym (e ∙ f)) (in_head x xs)) ] | inr r ↦ inr (in_tail x (fold min (min a x) xs) xs r) ];
    }
      where
        least_of : (a x : ℕ) → (min a x ≡ a) ⊎ (min a x ≡ x)
        least_of a x = elim (cases_lt a x) [ inl l ↦ inl (omega (arith, l)) | inr l ↦ inr (omega (arith, l)) ]

pub filter_in : (p : ℕ → Bool) (xs : List ℕ) (n : ℕ) → IsIn xs n → p n ≡ true → IsIn (filter p xs) n
filter_in p [] n h t = h
filter_in p (x ∷ xs) n h t = at (p x) refl (is_here x n (list_any (λ y. y == n) xs) h) (λ i. filter_in p xs n i t)
  where
    at : (b : Bool) → p x ≡ b → (x ≡ n) ⊎ IsIn xs n → (IsIn xs n → IsIn (filter p xs) n) → IsIn (cond b (x ∷ filter p xs) (filter p xs)) n
    at true e (inl s) more = rw s (in_head n (filter p xs))
    at true e (inr i) more = in_tail x n (filter p xs) (more i)
    at false e (inl s) more = absurd (let u = sym e ∙ ap p s ∙ t in cc)
    at false e (inr i) more = more i

pub in_filter : (p : ℕ → Bool) (xs : List ℕ) (n : ℕ) → IsIn (filter p xs) n → IsIn xs n × (p n ≡ true)
in_filter p [] n h = absurd (cc)
in_filter p (x ∷ xs) n h = at (p x) refl h (in_filter p xs n)
  where
    at : (b : Bool) → p x ≡ b → IsIn (cond b (x ∷ filter p xs) (filter p xs)) n → (IsIn (filter p xs) n → IsIn xs n × (p n ≡ true)) → IsIn (x ∷ xs) n × (p n ≡ true)
    at true e i more = elim (is_here x n (list_any (λ y. y == n) (filter p xs)) i) [ inl s ↦ ((rw s (in_head n xs)), (sym (ap p s) ∙ e)) | inr r ↦ ((in_tail x n xs (more r).0), (more r).1) ]
    at false e i more = ((in_tail x n xs (more i).0), (more i).1)

-- what the least number says: it passes, and so does none below it; where there is none, none passes
abbrev pub IsLeastIn : (ℕ → Bool) → List ℕ → Option ℕ → Type 0
IsLeastIn p xs None = (n : ℕ) → IsIn xs n → p n ≡ true → ⊥
IsLeastIn p xs (Some m) = IsIn xs m × (p m ≡ true) × ((n : ℕ) → IsIn xs n → p n ≡ true → m ≤ n)

least_of_list : (p : ℕ → Bool) (xs ys : List ℕ) → filter p xs ≡ ys → IsLeastIn p xs (reduce min ys)
least_of_list p xs [] e = λ n i t. let f = filter_in p xs n i t in absurd (let g = rw e at f in cc)
least_of_list p xs (y ∷ ys) e =
    let h = least_fold y ys in
    let inside : IsIn (y ∷ ys) (fold min y ys) = elim h.among [ inl s ↦ subst (IsIn (y ∷ ys)) (sym s) (in_head y ys) | inr r ↦ in_tail y (fold min y ys) ys r ] in
    let found = in_filter p xs (fold min y ys) (rw e inside) in
    (found.0, found.1, λ n i t. let f = rw e at (filter_in p xs n i t) in elim (is_here y n (list_any (λ x. x == n) ys) f) [ inl s ↦ omega (arith, h.first, s) | inr r ↦ h.others n r ])

pub least_in : (p : ℕ → Bool) (xs : List ℕ) (r : Option ℕ) → r ≡ reduce min (filter p xs) → IsLeastIn p xs r
least_in p xs r e = subst (IsLeastIn p xs) (sym e) (least_of_list p xs (filter p xs) refl)
