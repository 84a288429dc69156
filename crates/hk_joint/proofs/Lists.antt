-- Lists whose elements stand by their events.
use Rattle.std.proofs.Common.{◌≡◌, ◌⊎◌, ℕ, zero, suc, Bool, true, false, cond, ◌+◌, ◌||◌, not, List, [], ◌∷◌, ◌++◌, map, ◌<◌, ◌≤◌, ◌∙◌, sym, refl, ap, ap₂, subst, inl, inr, ⊎_elim, arith, eqb}
use Rattle.std.specs.Prelude.{⊤}
use Rattle.std.specs.List.{filter, flat_map, list_any, position_or_len, range_with_len}
use Rattle.std.proofs.lemmas.Bool.{false≢true, eqb-true, eqb-false, ne_eqb}
use Rattle.std.proofs.lemmas.List.Elements.{filter-append}
use Rattle.hk_register.specs.Machine.{In}
use Rattle.hk_register.proofs.Grow.{in_left, in_right, in_either}
use Rattle.hk_register.proofs.Tests.{any_in}

-- ---- members
pub in_filter : {X : Type 0} (p : X → Bool) (xs : List X) (x : X) → In xs x → p x ≡ true → In (filter p xs) x
in_filter p [] x h e = absurd h
in_filter p (y ∷ xs) x (inl is) e = rw (subst (λ z. p z ≡ true) is e) (inl is)
in_filter p (y ∷ xs) x (inr h) e = by_test (p y) (in_filter p xs x h e)
  where
    by_test : (b : Bool) → In (filter p xs) x → In (cond b (y ∷ filter p xs) (filter p xs)) x
    by_test true h = inr h
    by_test false h = h

pub of_filter : {X : Type 0} (p : X → Bool) (xs : List X) (x : X) → In (filter p xs) x → In xs x × (p x ≡ true)
of_filter p [] x h = absurd h
of_filter {X} p (y ∷ xs) x h = by_test (p y) refl h (of_filter p xs x)
  where
    by_test : (b : Bool) → p y ≡ b → In (cond b (y ∷ filter p xs) (filter p xs)) x → (In (filter p xs) x → In xs x × (p x ≡ true)) → In (y ∷ xs) x × (p x ≡ true)
    by_test true e (inl is) more = (inl is, subst (λ (z : X). p z ≡ true) (sym is) e)
    by_test true e (inr h) more = let t = more h in (inr t.0, t.1)
    by_test false e h more = let t = more h in (inr t.0, t.1)

pub in_flat : {X A : Type 0} (f : X → List A) (xs : List X) (x : X) (y : A) → In xs x → In (f x) y → In (flat_map f xs) y
in_flat f [] x y h k = absurd h
in_flat {X} f (z ∷ xs) x y (inl is) k = in_left (f z) (flat_map f xs) y (subst (λ (w : X). In (f w) y) is k)
in_flat f (z ∷ xs) x y (inr h) k = in_right (f z) (flat_map f xs) y (in_flat f xs x y h k)

pub of_flat : {X A : Type 0} (f : X → List A) (xs : List X) (y : A) → In (flat_map f xs) y → (x : X) × In xs x × In (f x) y
of_flat f [] y h = absurd h
of_flat f (z ∷ xs) y h = ⊎_elim
    (λ (k : In (f z) y). (z, inl refl, k))
    (λ (k : In (flat_map f xs) y). let t = of_flat f xs y k in (t.0, inr t.1, t.2))
    (in_either (f z) (flat_map f xs) y h)

pub in_map : {X Y : Type 0} (f : X → Y) (xs : List X) (x : X) → In xs x → In (map f xs) (f x)
in_map f [] x h = absurd h
in_map f (y ∷ xs) x (inl e) = inl (ap f e)
in_map f (y ∷ xs) x (inr h) = inr (in_map f xs x h)

pub of_map : {X Y : Type 0} (f : X → Y) (xs : List X) (y : Y) → In (map f xs) y → (x : X) × In xs x × (y ≡ f x)
of_map f [] y h = absurd h
of_map f (x ∷ xs) y (inl e) = (x, inl refl, e)
of_map f (x ∷ xs) y (inr h) = let t = of_map f xs y h in (t.0, inr t.1, t.2)

pub in_range : (a n m : ℕ) → In (range_with_len a n) m → (a ≤ m) × (m < a + n)
in_range a zero m h = absurd h
in_range a (suc n) m (inl e) = (omega (arith, e), omega (arith, e))
in_range a (suc n) m (inr h) = let t = in_range (a + 1) n m h in (omega (arith, t.0), omega (arith, t.1))

-- ---- filters of parts
pub flat_same : {X A : Type 0} (f g : X → List A) (xs : List X) → ((x : X) → In xs x → f x ≡ g x) → flat_map f xs ≡ flat_map g xs
flat_same f g [] same = refl
flat_same {X} {A} f g (x ∷ xs) same = ap₂ (λ (a b : List A). a ++ b) (same x (inl refl)) (flat_same f g xs (λ y h. same y (inr h)))

pub filter_flat : {X A : Type 0} (p : A → Bool) (f : X → List A) (xs : List X) → filter p (flat_map f xs) ≡ flat_map (λ x. filter p (f x)) xs
filter_flat p f [] = refl
filter_flat {X} {A} p f (x ∷ xs) = filter-append p (f x) (flat_map f xs) ∙ ap (λ (l : List A). filter p (f x) ++ l) (filter_flat p f xs)

pub filter_all : {X : Type 0} (p : X → Bool) (xs : List X) → ((x : X) → In xs x → p x ≡ true) → filter p xs ≡ xs
filter_all p [] all = refl
filter_all {X} p (x ∷ xs) all = rw (all x (inl refl)) (ap (λ (l : List X). x ∷ l) (filter_all p xs (λ y h. all y (inr h))))

pub filter_none : {X : Type 0} (p : X → Bool) (xs : List X) → ((x : X) → In xs x → p x ≡ false) → filter p xs ≡ []
filter_none p [] none = refl
filter_none p (x ∷ xs) none = rw (none x (inl refl)) (filter_none p xs (λ y h. none y (inr h)))

-- ---- elements that stand by their events
module _ {X : Type 0} (event : X → ℕ) where
  abbrev pub Rising : List X → Type 0
  Rising [] = ⊤
  Rising (x ∷ xs) = ((y : X) → In xs y → event x ≤ event y) × Rising xs

  pub rising_both : (xs ys : List X) → Rising xs → Rising ys → ((x y : X) → In xs x → In ys y → event x ≤ event y) → Rising (xs ++ ys)
  rising_both [] ys rx ry upto = ry
  rising_both (x ∷ xs) ys rx ry upto = (
    λ y h. ⊎_elim (λ (k : In xs y). rx.0 y k) (λ (k : In ys y). upto x y (inl refl) k) (in_either xs ys y h),
    rising_both xs ys rx.1 ry (λ a b h k. upto a b (inr h) k),
  )

  pub rising_same : (n : ℕ) (xs : List X) → ((x : X) → In xs x → event x ≡ n) → Rising xs
  rising_same n [] all = tt
  rising_same n (x ∷ xs) all = (λ y h. let e = all x (inl refl) in let f = all y (inr h) in omega (arith, e, f), rising_same n xs (λ y h. all y (inr h)))

  -- parts of one event each, one after the other
  pub rising_parts : (f : ℕ → List X) → ((n : ℕ) (x : X) → In (f n) x → event x ≡ n) → (a n : ℕ) → Rising (flat_map f (range_with_len a n))
  rising_parts f of a zero = tt
  rising_parts f of a (suc n) = rising_both (f a) (flat_map f (range_with_len (a + 1) n)) (rising_same a (f a) (of a)) (rising_parts f of (a + 1) n) (λ x y h k.
      let t = of_flat f (range_with_len (a + 1) n) y k in
      let r = in_range (a + 1) n t.0 t.1 in
      let e = of a x h in
      let g = of t.0 y t.2 in
      omega (arith, e, g, r.0))

  abbrev pub at : ℕ → X → Bool
  at n x = eqb (event x) n

  abbrev later : ℕ → List X → List X
  later a xs = filter (λ x. not (at a x)) xs

  rising_filter : (p : X → Bool) (xs : List X) → Rising xs → Rising (filter p xs)
  rising_filter p [] r = tt
  rising_filter p (x ∷ xs) r = by_test (p x) (rising_filter p xs r.1)
    where
      by_test : (b : Bool) → Rising (filter p xs) → Rising (cond b (x ∷ filter p xs) (filter p xs))
      by_test true more = (λ y h. r.0 y (of_filter p xs y h).0, more)
      by_test false more = more

  filter_later : (m a : ℕ) → eqb a m ≡ false → (xs : List X) → filter (at m) (later a xs) ≡ filter (at m) xs
  filter_later m a other [] = refl
  filter_later m a other (x ∷ xs) = by_test (at a x) refl (filter_later m a other xs)
    where
      by_test : (b : Bool) → at a x ≡ b → filter (at m) (later a xs) ≡ filter (at m) xs →
          filter (at m) (cond (not b) (x ∷ later a xs) (later a xs)) ≡ cond (at m x) (x ∷ filter (at m) xs) (filter (at m) xs)
      by_test true e more =
          let off : at m x ≡ false = ap (λ (k : ℕ). eqb k m) (eqb-true (event x) a e) ∙ other in
          rw off more
      by_test false e more = ap (λ (l : List X). cond (at m x) (x ∷ l) l) more

  -- the first ones, and then the later ones
  split : (a : ℕ) (xs : List X) → Rising xs → ((x : X) → In xs x → a ≤ event x) → filter (at a) xs ++ later a xs ≡ xs
  split a [] r low = refl
  split a (x ∷ xs) r low = by_test (at a x) refl (split a xs r.1 (λ y h. low y (inr h)))
    where
      by_test : (b : Bool) → at a x ≡ b → filter (at a) xs ++ later a xs ≡ xs →
          cond b (x ∷ filter (at a) xs) (filter (at a) xs) ++ cond (not b) (x ∷ later a xs) (later a xs) ≡ x ∷ xs
      by_test true e more = ap (λ (l : List X). x ∷ l) more
      by_test false e more =
          let above : (y : X) → In xs y → at a y ≡ false = λ y h.
          let here = low x (inl refl) in
          let up = r.0 y h in
          ne_eqb (event y) a (λ is. eqb-false (event x) a e (omega (arith, here, up, is))) in
          let none : filter (at a) xs ≡ [] = filter_none (at a) xs above in
          let all : later a xs ≡ xs = filter_all (λ y. not (at a y)) xs (λ y h. ap not (above y h)) in
          ap₂ (λ (u v : List X). u ++ x ∷ v) none all

  -- gathered event by event they are as they were
  pub gathered : (n a : ℕ) (xs : List X) → Rising xs → ((x : X) → In xs x → a ≤ event x) → ((x : X) → In xs x → event x < a + n) →
      flat_map (λ m. filter (at m) xs) (range_with_len a n) ≡ xs
  gathered zero a [] r low high = refl
  gathered zero a (x ∷ xs) r low high = let l = low x (inl refl) in let h = high x (inl refl) in absurd (omega (arith, l, h))
  gathered (suc n) a xs r low high =
      let rest : List X = later a xs in
      let low_rest : (x : X) → In rest x → a + 1 ≤ event x = λ x h.
      let t = of_filter (λ y. not (at a y)) xs x h in
      let l = low x t.0 in
      let off : at a x ≡ false = not_true (at a x) t.1 in
      above (event x) a l (eqb-false (event x) a off) in
      let high_rest : (x : X) → In rest x → event x < (a + 1) + n = λ x h.
      let up = high x (of_filter (λ y. not (at a y)) xs x h).0 in omega (arith, up) in
      let same : flat_map (λ m. filter (at m) xs) (range_with_len (a + 1) n) ≡ flat_map (λ m. filter (at m) rest) (range_with_len (a + 1) n) =
      flat_same (λ m. filter (at m) xs) (λ m. filter (at m) rest) (range_with_len (a + 1) n) (λ m h.
      let t = in_range (a + 1) n m h in
      sym (filter_later m a (ne_eqb a m (λ is. absurd (omega (arith, is, t.0)))) xs)) in
      ap (λ (l : List X). filter (at a) xs ++ l) (same ∙ gathered n (a + 1) rest (rising_filter (λ y. not (at a y)) xs r) low_rest high_rest) ∙ split a xs r low
    where
      not_true : (b : Bool) → not b ≡ true → b ≡ false
      not_true true e = sym e
      not_true false e = refl

      above : (m k : ℕ) → k ≤ m → (m ≡ k → ⊥) → k + 1 ≤ m
      above m k l off = ⊎_elim (λ (e : m ≡ k). absurd (off e)) (λ (h : k < m). omega (arith, h)) (either m k l)
        where
          either : (m k : ℕ) → k ≤ m → (m ≡ k) ⊎ (k < m)
          either zero zero l = inl refl
          either zero (suc k) l = absurd (omega (arith, l))
          either (suc m) zero l = inr (omega arith)
          either (suc m) (suc k) l = ⊎_elim (λ (e : m ≡ k). inl (ap suc e)) (λ (h : k < m). inr (omega (arith, h))) (either m k (omega (arith, l)))

  -- what has the lower events stands first
  pub stands_first : (p q : X → Bool) (xs : List X) → Rising xs → ((x y : X) → In xs x → In xs y → p x ≡ true → q y ≡ true → event x < event y) →
      list_any p xs ≡ true → list_any q xs ≡ true → position_or_len p xs < position_or_len q xs
  stands_first p q [] r low hp hq = absurd (false≢true hp)
  stands_first p q (x ∷ xs) r low hp hq = by_tests (p x) refl (q x) refl hp hq (stands_first p q xs r.1 (λ a b h k. low a b (inr h) (inr k)))
    where
      by_tests : (b : Bool) → p x ≡ b → (c : Bool) → q x ≡ c → (b || list_any p xs) ≡ true → (c || list_any q xs) ≡ true →
          (list_any p xs ≡ true → list_any q xs ≡ true → position_or_len p xs < position_or_len q xs) →
          cond (not b) (1 + position_or_len p xs) 0 < cond (not c) (1 + position_or_len q xs) 0
      by_tests true e true f hp hq more = let no = low x x (inl refl) (inl refl) e f in absurd (omega (arith, no))
      by_tests true e false f hp hq more = omega arith
      by_tests false e true f hp hq more =
          let t = any_in p xs hp in
          let no = low t.0 x (inr t.1) (inl refl) t.2 f in
          let up = r.0 t.0 t.1 in
          absurd (omega (arith, no, up))
      by_tests false e false f hp hq more = let l = more hp hq in omega (arith, l)
