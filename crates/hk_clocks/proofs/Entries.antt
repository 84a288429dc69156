-- Ordered entries by actor: what stands at a key, and in what order.
use Rattle.std.proofs.Common.{◌≡◌, ◌⊎◌, ℕ, List, [], ◌∷◌, ◌++◌, Some, map, refl, sym, ap, subst, ◌∙◌, cond, Bool, true, false, inl, inr}
use Rattle.std.specs.declared.cmp.Ordering.{Ordering}
use Rattle.std.specs.declared.cmp.Ordering.TheVariants.{Less, Equal, Greater}
use Rattle.std.specs.Ordering.{match_ordering, is_eq, ordering_reverse}
use Rattle.std.specs.Cmp.{IsTotalOrder}
use Rattle.std.specs.BTreeMap.{insert_entry, is_at}
use Rattle.std.specs.Map.{lookup, keys_of}
use Rattle.std.specs.List.{AllByRecursion, filter}
use Rattle.std.specs.List.Sorted.{IsStrictlySortedBy}
use Rattle.std.proofs.lemmas.Cmp.{nat_cmp_total, tied_itself}
use Rattle.std.proofs.lemmas.Map.Keys.{sorted_head, sorted_tail}
use Rattle.std.proofs.lemmas.Map.Lookups.{exact_unsigned}
use Rattle.hk_base.specs.declared.stamp.NodeId.{NodeId}
use Rattle.hk_base.specs.declared.letter.Actor.{Actor}
use Rattle.hk_base.specs.declared.letter.Actor.TheVariants.{Node, Manager}
use Rattle.hk_clocks.specs.Clocks.{by_actor}

antisymm : (a b : Actor) → by_actor a b ≡ ordering_reverse (by_actor b a)
antisymm (Node a) (Node b) = nat_cmp_total.antisymm a.0 b.0
antisymm (Node a) (Manager m) = refl
antisymm (Manager m) (Node b) = refl
antisymm (Manager m) (Manager k) = nat_cmp_total.antisymm m k

no_less : Greater ≡ Less → ⊥
no_less e = absurd cc

trans : (a b c : Actor) → by_actor a b ≡ Less → by_actor b c ≡ Less → by_actor a c ≡ Less
trans (Node a) (Node b) (Node c) p q = nat_cmp_total.trans a.0 b.0 c.0 p q
trans (Node a) (Node b) (Manager c) p q = refl
trans (Node a) (Manager b) (Node c) p q = absurd (no_less q)
trans (Node a) (Manager b) (Manager c) p q = refl
trans (Manager a) (Node b) c p q = absurd (no_less p)
trans (Manager a) (Manager b) (Node c) p q = absurd (no_less q)
trans (Manager a) (Manager b) (Manager c) p q = nat_cmp_total.trans a b c p q

no_equal : Greater ≡ Equal → ⊥
no_equal e = absurd cc

not_less : Less ≡ Equal → ⊥
not_less e = absurd cc

congr : (a b c : Actor) → by_actor a b ≡ Equal → by_actor a c ≡ by_actor b c
congr (Node a) (Node b) (Node c) e = nat_cmp_total.congr a.0 b.0 c.0 e
congr (Node a) (Node b) (Manager c) e = refl
congr (Node a) (Manager b) c e = absurd (not_less e)
congr (Manager a) (Node b) c e = absurd (no_equal e)
congr (Manager a) (Manager b) (Node c) e = refl
congr (Manager a) (Manager b) (Manager c) e = nat_cmp_total.congr a b c e

pub by_actor_total : IsTotalOrder by_actor
by_actor_total = record { antisymm = antisymm; trans = trans; congr = congr }

numbered_as : ℕ → NodeId
numbered_as n = record { 0 = n }

same_node : (a b : NodeId) → a.0 ≡ b.0 → a ≡ b
unfolding numbered_as
same_node a b e = ap numbered_as e

pub same_actor : (a b : Actor) → by_actor a b ≡ Equal → a ≡ b
same_actor (Node a) (Node b) e = ap Node (same_node a b (exact_unsigned a.0 b.0 e))
same_actor (Node a) (Manager m) e = absurd (not_less e)
same_actor (Manager m) (Node b) e = absurd (no_equal e)
same_actor (Manager m) (Manager k) e = ap Manager (exact_unsigned m k e)

pub itself : (a : Actor) → by_actor a a ≡ Equal
itself a = tied_itself by_actor_total a

-- it stands in the list
abbrev pub Among : {X : Type 0} → List X → X → Type 0
Among [] x = ⊥
Among (y ∷ ys) x = (x ≡ y) ⊎ Among ys x

pub all_of : {X : Type 0} (P : X → Type 0) (xs : List X) → AllByRecursion P xs → (x : X) → Among xs x → P x
all_of P [] all x i = absurd i
all_of P (y ∷ ys) all x (inl e) = subst P (sym e) all.0
all_of P (y ∷ ys) all x (inr i) = all_of P ys all.1 x i

pub all_from : {X : Type 0} (P : X → Type 0) (xs : List X) → ((x : X) → Among xs x → P x) → AllByRecursion P xs
all_from P [] f = tt
all_from P (y ∷ ys) f = (f y (inl refl), all_from P ys (λ x i. f x (inr i)))

module _ {X : Type 0} where
  -- an entry behind all others is put at the end
  pub insert_last : (made rest : List (Actor × X)) (k : Actor) (v : X) → IsStrictlySortedBy by_actor (keys_of (made ++ (k, v) ∷ rest)) → insert_entry by_actor made k v ≡ made ++ (k, v) ∷ []
  insert_last [] rest k v sorted = refl
  insert_last (e ∷ es) rest k v sorted = at (insert_last es rest k v (sorted_tail by_actor e.0 (keys_of (es ++ (k, v) ∷ rest)) sorted))
    where
      under : (ys : List (Actor × X)) → AllByRecursion (λ y. by_actor e.0 y ≡ Less) (keys_of (ys ++ (k, v) ∷ rest)) → by_actor e.0 k ≡ Less
      under [] all = all.0
      under (y ∷ ys) all = under ys all.1

      above : by_actor k e.0 ≡ Greater
      above = antisymm k e.0 ∙ ap ordering_reverse (under es (sorted_head by_actor e.0 (keys_of (es ++ (k, v) ∷ rest)) sorted))

      at : insert_entry by_actor es k v ≡ es ++ (k, v) ∷ [] → match_ordering (by_actor k e.0) ((k, v) ∷ e ∷ es) ((e.0, v) ∷ es) (e ∷ insert_entry by_actor es k v) ≡ e ∷ (es ++ (k, v) ∷ [])
      at more = rw above (ap (λ (l : List (Actor × X)). e ∷ l) more)

  pub keys_below : (k : Actor) (es : List (Actor × X)) → AllByRecursion (λ y. by_actor k y ≡ Less) (keys_of es) → (e : Actor × X) → Among es e → by_actor k e.0 ≡ Less
  keys_below k [] all e i = absurd i
  keys_below k (y ∷ es) all e (inl s) = ap (λ (z : Actor × X). by_actor k z.0) s ∙ all.0
  keys_below k (y ∷ es) all e (inr i) = keys_below k es all.1 e i

  -- each entry is what a look-up finds
  pub found : (es : List (Actor × X)) → IsStrictlySortedBy by_actor (keys_of es) → (e : Actor × X) → Among es e → lookup (is_at (by_actor e.0)) es ≡ Some e.1
  found [] sorted e i = absurd i
  found (y ∷ es) sorted e (inl s) =
      let is : by_actor e.0 y.0 ≡ Equal = ap (λ (z : Actor × X). by_actor z.0 y.0) s ∙ itself y.0 in
      rw is (ap (λ (z : Actor × X). Some z.1) (sym s))
  found (y ∷ es) sorted e (inr i) =
      let is : by_actor e.0 y.0 ≡ Greater = antisymm e.0 y.0 ∙ ap ordering_reverse (keys_below y.0 es (sorted_head by_actor y.0 (keys_of es) sorted) e i) in
      rw is (found es (sorted_tail by_actor y.0 (keys_of es) sorted) e i)

  -- what a look-up finds is an entry
  pub finds : (a : Actor) (v : X) (es : List (Actor × X)) → lookup (is_at (by_actor a)) es ≡ Some v → Among es (a, v)
  finds a v [] e = absurd cc
  finds a v (y ∷ es) e = at (by_actor a y.0) refl e (finds a v es)
    where
      at : (o : Ordering) → by_actor a y.0 ≡ o → cond (is_eq o) (Some y.1) (lookup (is_at (by_actor a)) es) ≡ Some v → (lookup (is_at (by_actor a)) es ≡ Some v → Among es (a, v)) → Among (y ∷ es) (a, v)
      at Less is there ih = inr (ih there)
      at Equal is there ih = let x : y.1 ≡ v = cc in inl (rw (same_actor a y.0 is, sym x) refl)
      at Greater is there ih = inr (ih there)

  -- entries that are mapped, each under its own key
  pub keys_map : {Y : Type 0} (f : Actor × X → Y) (es : List (Actor × X)) → keys_of (map (λ e. (e.0, f e)) es) ≡ keys_of es
  keys_map f [] = refl
  keys_map f (e ∷ es) = ap (λ (l : List Actor). e.0 ∷ l) (keys_map f es)

  pub lookup_map : {Y : Type 0} (f : Actor × X → Y) (a : Actor) (es : List (Actor × X)) (v : X) → lookup (is_at (by_actor a)) es ≡ Some v → lookup (is_at (by_actor a)) (map (λ e. (e.0, f e)) es) ≡ Some (f (a, v))
  lookup_map f a [] v e = absurd cc
  lookup_map {Y} f a (y ∷ es) v e = at (by_actor a y.0) refl e (lookup_map f a es v)
    where
      at : (o : Ordering) → by_actor a y.0 ≡ o → cond (is_eq o) (Some y.1) (lookup (is_at (by_actor a)) es) ≡ Some v →
          (lookup (is_at (by_actor a)) es ≡ Some v → lookup (is_at (by_actor a)) (map (λ e. (e.0, f e)) es) ≡ Some (f (a, v))) →
          cond (is_eq o) (Some (f y)) (lookup (is_at (by_actor a)) (map (λ e. (e.0, f e)) es)) ≡ Some (f (a, v))
      at Less is there ih = ih there
      at Equal is there ih = let x : y.1 ≡ v = cc in rw (same_actor a y.0 is, sym x) refl
      at Greater is there ih = ih there

  pub among_map : {Y : Type 0} (f : X → Y) (xs : List X) (y : Y) → Among (map f xs) y → (x : X) × Among xs x × (y ≡ f x)
  among_map f [] y i = absurd i
  among_map f (x ∷ xs) y (inl e) = (x, inl refl, e)
  among_map f (x ∷ xs) y (inr i) = let r = among_map f xs y i in (r.0, inr r.1, r.2)

  pub among_filter : (test : X → Bool) (xs : List X) (x : X) → Among (filter test xs) x → Among xs x × (test x ≡ true)
  among_filter test [] x i = absurd i
  among_filter test (y ∷ ys) x i = at (test y) refl i (among_filter test ys x)
    where
      at : (t : Bool) → test y ≡ t → Among (cond t (y ∷ filter test ys) (filter test ys)) x → (Among (filter test ys) x → Among ys x × (test x ≡ true)) → Among (y ∷ ys) x × (test x ≡ true)
      at true is (inl e) ih = (inl e, ap test e ∙ is)
      at true is (inr i) ih = let r = ih i in (inr r.0, r.1)
      at false is i ih = let r = ih i in (inr r.0, r.1)

pub sorted_nil : IsStrictlySortedBy by_actor []
unfolding IsStrictlySortedBy
sorted_nil = tt

pub sorted_cons : (k : Actor) (ks : List Actor) → AllByRecursion (λ y. by_actor k y ≡ Less) ks → IsStrictlySortedBy by_actor ks → IsStrictlySortedBy by_actor (k ∷ ks)
unfolding IsStrictlySortedBy
sorted_cons k ks all sorted = (all, sorted)

module _ {X : Type 0} where
  below_filter : (test : Actor × X → Bool) (k : Actor) (es : List (Actor × X)) → AllByRecursion (λ y. by_actor k y ≡ Less) (keys_of es) → AllByRecursion (λ y. by_actor k y ≡ Less) (keys_of (filter test es))
  below_filter test k [] all = tt
  below_filter test k (e ∷ es) all = at (test e) (below_filter test k es all.1)
    where
      at : (t : Bool) → AllByRecursion (λ y. by_actor k y ≡ Less) (keys_of (filter test es)) → AllByRecursion (λ y. by_actor k y ≡ Less) (keys_of (cond t (e ∷ filter test es) (filter test es)))
      at true h = (all.0, h)
      at false h = h

  -- a part of what is in order is in order
  pub sorted_filter : (test : Actor × X → Bool) (es : List (Actor × X)) → IsStrictlySortedBy by_actor (keys_of es) → IsStrictlySortedBy by_actor (keys_of (filter test es))
  sorted_filter test [] sorted = sorted_nil
  sorted_filter test (e ∷ es) sorted = at (test e) (sorted_filter test es (sorted_tail by_actor e.0 (keys_of es) sorted))
    where
      at : (t : Bool) → IsStrictlySortedBy by_actor (keys_of (filter test es)) → IsStrictlySortedBy by_actor (keys_of (cond t (e ∷ filter test es) (filter test es)))
      at true h = sorted_cons e.0 (keys_of (filter test es)) (below_filter test e.0 es (sorted_head by_actor e.0 (keys_of es) sorted)) h
      at false h = h
