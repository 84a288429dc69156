-- What is behind the first row that is behind a key.
use Rattle.std.proofs.Common.{◌≡◌, ℕ, Bool, true, false, cond, List, [], ◌∷◌, Option, Some, None, refl, sym, ap, ◌∙◌, arith, subst}
use Rattle.std.specs.Ordering.{is_lt, ordering_reverse}
use Rattle.std.specs.declared.cmp.Ordering.{Ordering}
use Rattle.std.specs.declared.cmp.Ordering.TheVariants.{Less, Equal, Greater}
use Rattle.std.specs.Cmp.Lexicographic.{nat_list_cmp_total}
use Rattle.std.specs.List.{AllByRecursion, filter}
use Rattle.std.proofs.lemmas.Bool.{false≢true}
use Rattle.hk_base.specs.declared.letter.CopyItem.{CopyItem}
use Rattle.hk_copy.specs.Batches.{key_cmp, IsRising, is_after, rows_after, row_at}

cons_head : (x y : CopyItem) (xs ys : List CopyItem) → x ∷ xs ≡ y ∷ ys → x ≡ y
cons_head x y xs ys e = grind arith

cons_tail : (x y : CopyItem) (xs ys : List CopyItem) → x ∷ xs ≡ y ∷ ys → xs ≡ ys
cons_tail x y xs ys e = grind arith

pub less_is : (o : Ordering) → is_lt o ≡ true → o ≡ Less
less_is Less e = refl
less_is Equal e = absurd (false≢true e)
less_is Greater e = absurd (false≢true e)

self_equal : (k : List ℕ) → key_cmp k k ≡ Equal
self_equal k = by_order (key_cmp k k) refl
  where
    by_order : (o : Ordering) → key_cmp k k ≡ o → key_cmp k k ≡ Equal
    by_order Equal e = e
    by_order Less e = absurd (clash (sym e ∙ nat_list_cmp_total.antisymm k k ∙ ap ordering_reverse e))
      where
        clash : Less ≡ Greater → ⊥
        clash h = false≢true (ap is_lt (sym h))
    by_order Greater e = absurd (clash (sym e ∙ nat_list_cmp_total.antisymm k k ∙ ap ordering_reverse e))
      where
        clash : Greater ≡ Less → ⊥
        clash h = false≢true (ap is_lt h)

-- the first row behind a key is one of the rows
head_of : (P : CopyItem → Type 0) (t : CopyItem → Bool) (rows : List CopyItem) (item : CopyItem) (rest : List CopyItem) → AllByRecursion P rows → filter t rows ≡ item ∷ rest → P item
head_of P t [] item rest all e = absurd (grind arith)
head_of P t (r ∷ rows) item rest all e = by_test (head_of P t rows item rest all.1) (t r) e
  where
    by_test : (filter t rows ≡ item ∷ rest → P item) → (b : Bool) → cond b (r ∷ filter t rows) (filter t rows) ≡ item ∷ rest → P item
    by_test later true h = subst P (cons_head r item (filter t rows) rest h) all.0
    by_test later false h = later h

-- all rows are behind a key below them
all_after : (c : Option (List ℕ)) (rows : List CopyItem) → AllByRecursion (λ y. is_after c y ≡ true) rows → rows_after c rows ≡ rows
all_after c [] all = refl
all_after c (r ∷ rows) all = rw all.0 (ap (λ (l : List CopyItem). r ∷ l) (all_after c rows all.1))

above : (k : List ℕ) (rows : List CopyItem) → AllByRecursion (λ y. key_cmp k y.key ≡ Less) rows → AllByRecursion (λ y. is_after (Some k) y ≡ true) rows
above k [] all = tt
above k (r ∷ rows) all = (ap is_lt all.0, above k rows all.1)

-- what is behind a row is behind what that row is behind
after_too : (c : Option (List ℕ)) (k : List ℕ) (r : CopyItem) → r.key ≡ k → is_after c r ≡ true → (rows : List CopyItem) → AllByRecursion (λ y. key_cmp k y.key ≡ Less) rows → AllByRecursion (λ y. is_after c y ≡ true) rows
after_too c k r same e [] all = tt
after_too None k r same e (y ∷ rows) all = (refl, after_too None k r same e rows all.1)
after_too (Some a) k r same e (y ∷ rows) all =
    (ap is_lt (nat_list_cmp_total.trans a k y.key (subst (λ (q : List ℕ). key_cmp a q ≡ Less) same (less_is (key_cmp a r.key) e)) all.0), after_too (Some a) k r same e rows all.1)

pub step_row : (c : Option (List ℕ)) (rows : List CopyItem) (item : CopyItem) (rest : List CopyItem) → IsRising rows → rows_after c rows ≡ item ∷ rest →
    (row_at item.key rows ≡ Some item) × (rows_after (Some item.key) rows ≡ rest)
step_row c [] item rest rising e = absurd (grind arith)
step_row c (r ∷ rows) item rest rising e = by_test (step_row c rows item rest rising.1) (is_after c r) refl e
  where
    Goal : Type 0
    Goal = (row_at item.key (r ∷ rows) ≡ Some item) × (rows_after (Some item.key) (r ∷ rows) ≡ rest)

    here : (is_after c r ≡ true) → (row_at r.key (r ∷ rows) ≡ Some r) × (rows_after (Some r.key) (r ∷ rows) ≡ filter (is_after c) rows)
    here t = (rw (self_equal r.key) refl, rw (self_equal r.key) (all_after (Some r.key) rows (above r.key rows rising.0) ∙ sym (all_after c rows (after_too c r.key r refl t rows rising.0))))

    by_test : (rows_after c rows ≡ item ∷ rest → (row_at item.key rows ≡ Some item) × (rows_after (Some item.key) rows ≡ rest)) → (b : Bool) → is_after c r ≡ b →
        cond b (r ∷ rows_after c rows) (rows_after c rows) ≡ item ∷ rest → (row_at item.key (r ∷ rows) ≡ Some item) × (rows_after (Some item.key) (r ∷ rows) ≡ rest)
    by_test later true t h =
        let same = cons_head r item (rows_after c rows) rest h in
        let tail = cons_tail r item (rows_after c rows) rest h in
        let own = here t in
        subst (λ (x : CopyItem). (row_at x.key (r ∷ rows) ≡ Some x) × (rows_after (Some x.key) (r ∷ rows) ≡ rest)) same (own.0, own.1 ∙ tail)
    by_test later false t h =
        let less = head_of (λ y. key_cmp r.key y.key ≡ Less) (is_after c) rows item rest rising.0 h in
        let more : key_cmp item.key r.key ≡ Greater = nat_list_cmp_total.antisymm item.key r.key ∙ ap ordering_reverse less in
        let found = later h in
        (rw more found.0, rw more found.1)
