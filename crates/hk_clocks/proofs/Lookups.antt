-- What stands at an actor after an entry is put or taken out.
use Rattle.std.proofs.Common.{◌≡◌, ◌≢◌, ◌⊎◌, ℕ, List, [], ◌∷◌, map, Bool, true, false, cond, nat_lt, Option, Some, None, unwrap_or, refl, sym, ap, subst, ◌∙◌, inl, inr, arith}
use Rattle.std.specs.declared.cmp.Ordering.{Ordering}
use Rattle.std.specs.declared.cmp.Ordering.TheVariants.{Less, Equal, Greater}
use Rattle.std.specs.Ordering.{match_ordering, is_eq, ordering_reverse}
use Rattle.std.specs.List.{AllByRecursion, filter}
use Rattle.std.specs.List.Sorted.{IsStrictlySortedBy}
use Rattle.std.specs.BTreeMap.{insert_entry, is_at}
use Rattle.std.specs.Map.{lookup, keys_of, remove_entry}
use Rattle.std.proofs.lemmas.Bool.{false≢true, ltb-false}
use Rattle.std.proofs.lemmas.Map.Keys.{sorted_head, sorted_tail}
use Rattle.hk_base.specs.declared.letter.Actor.{Actor}
use Rattle.hk_clocks.specs.Clocks.{by_actor}
use Rattle.hk_clocks.proofs.Entries.{Among, by_actor_total, itself, same_actor, sorted_nil, sorted_cons}

pub at_itself : (a : Actor) → is_at (by_actor a) a ≡ true
at_itself a = ap is_eq (itself a)

pub same_at : (a b : Actor) → is_at (by_actor a) b ≡ true → a ≡ b
same_at a b e = at (by_actor a b) refl e
  where
    at : (o : Ordering) → by_actor a b ≡ o → is_eq o ≡ true → a ≡ b
    at Less is h = absurd (false≢true h)
    at Equal is h = same_actor a b is
    at Greater is h = absurd (false≢true h)

-- by whether they are one
pub which : (a b : Actor) → (a ≡ b) ⊎ ((a ≢ b) × (is_at (by_actor a) b ≡ false) × (is_at (by_actor b) a ≡ false))
which a b = at (is_at (by_actor a) b) (is_at (by_actor b) a) refl refl
  where
    at : (t u : Bool) → is_at (by_actor a) b ≡ t → is_at (by_actor b) a ≡ u → (a ≡ b) ⊎ ((a ≢ b) × (is_at (by_actor a) b ≡ false) × (is_at (by_actor b) a ≡ false))
    at true u e f = inl (same_at a b e)
    at false true e f = inl (sym (same_at b a f))
    at false false e f = inr ((λ s. false≢true (sym e ∙ subst (λ (x : Actor). is_at (by_actor a) x ≡ true) s (at_itself a))), e, f)

below_all : (a b : Actor) (ks : List Actor) → by_actor a b ≡ Less → AllByRecursion (λ y. by_actor b y ≡ Less) ks → AllByRecursion (λ y. by_actor a y ≡ Less) ks
below_all a b [] less all = tt
below_all a b (k ∷ ks) less all = (by_actor_total.trans a b k less all.0, below_all a b ks less all.1)

module _ {X : Type 0} where
  -- ---- an entry that is put
  pub put_same : (k : Actor) (v : X) (es : List (Actor × X)) → lookup (is_at (by_actor k)) (insert_entry by_actor es k v) ≡ Some v
  put_same k v [] = rw (at_itself k) refl
  put_same k v (e ∷ es) = at (by_actor k e.0) refl (put_same k v es)
    where
      at : (o : Ordering) → by_actor k e.0 ≡ o → lookup (is_at (by_actor k)) (insert_entry by_actor es k v) ≡ Some v →
          lookup (is_at (by_actor k)) (match_ordering o ((k, v) ∷ e ∷ es) ((e.0, v) ∷ es) (e ∷ insert_entry by_actor es k v)) ≡ Some v
      at Less is more = rw (at_itself k) refl
      at Equal is more = ap (λ (o : Ordering). cond (is_eq o) (Some v) (lookup (is_at (by_actor k)) es)) is
      at Greater is more = ap (λ (o : Ordering). cond (is_eq o) (Some e.1) (lookup (is_at (by_actor k)) (insert_entry by_actor es k v))) is ∙ more

  pub put_other : (q k : Actor) (v : X) (es : List (Actor × X)) → is_at (by_actor q) k ≡ false → lookup (is_at (by_actor q)) (insert_entry by_actor es k v) ≡ lookup (is_at (by_actor q)) es
  put_other q k v [] ne = rw ne refl
  put_other q k v (e ∷ es) ne = at (by_actor k e.0) refl (put_other q k v es ne)
    where
      at : (o : Ordering) → by_actor k e.0 ≡ o → lookup (is_at (by_actor q)) (insert_entry by_actor es k v) ≡ lookup (is_at (by_actor q)) es →
          lookup (is_at (by_actor q)) (match_ordering o ((k, v) ∷ e ∷ es) ((e.0, v) ∷ es) (e ∷ insert_entry by_actor es k v)) ≡ lookup (is_at (by_actor q)) (e ∷ es)
      at Less is more = rw ne refl
      at Equal is more =
          let other : is_at (by_actor q) e.0 ≡ false = subst (λ (x : Actor). is_at (by_actor q) x ≡ false) (same_actor k e.0 is) ne in
          ap (λ (b : Bool). cond b (Some v) (lookup (is_at (by_actor q)) es)) other ∙ sym (ap (λ (b : Bool). cond b (Some e.1) (lookup (is_at (by_actor q)) es)) other)
      at Greater is more = ap (λ (o : Option X). cond (is_at (by_actor q) e.0) (Some e.1) o) more

  pub among_put : (k : Actor) (v : X) (es : List (Actor × X)) (x : Actor × X) → Among (insert_entry by_actor es k v) x → (x ≡ (k, v)) ⊎ Among es x
  among_put k v [] x (inl e) = inl e
  among_put k v [] x (inr i) = absurd i
  among_put k v (e ∷ es) x i = at (by_actor k e.0) refl i (among_put k v es x)
    where
      at : (o : Ordering) → by_actor k e.0 ≡ o → Among (match_ordering o ((k, v) ∷ e ∷ es) ((e.0, v) ∷ es) (e ∷ insert_entry by_actor es k v)) x →
          (Among (insert_entry by_actor es k v) x → (x ≡ (k, v)) ⊎ Among es x) → (x ≡ (k, v)) ⊎ Among (e ∷ es) x
      at Less is (inl s) ih = inl s
      at Less is (inr i) ih = inr i
      at Equal is (inl s) ih = inl (rw (same_actor k e.0 is) s)
      at Equal is (inr i) ih = inr (inr i)
      at Greater is (inl s) ih = inr (inl s)
      at Greater is (inr i) ih = later (ih i)
        where
          later : (x ≡ (k, v)) ⊎ Among es x → (x ≡ (k, v)) ⊎ Among (e ∷ es) x
          later (inl s) = inl s
          later (inr i) = inr (inr i)

  below_put : (k a : Actor) (w : X) (es : List (Actor × X)) → by_actor k a ≡ Less → AllByRecursion (λ y. by_actor k y ≡ Less) (keys_of es) →
      AllByRecursion (λ y. by_actor k y ≡ Less) (keys_of (insert_entry by_actor es a w))
  below_put k a w [] less all = (less, tt)
  below_put k a w (e ∷ es) less all = at (by_actor a e.0) (below_put k a w es less all.1)
    where
      at : (o : Ordering) → AllByRecursion (λ y. by_actor k y ≡ Less) (keys_of (insert_entry by_actor es a w)) →
          AllByRecursion (λ y. by_actor k y ≡ Less) (keys_of (match_ordering o ((a, w) ∷ e ∷ es) ((e.0, w) ∷ es) (e ∷ insert_entry by_actor es a w)))
      at Less ih = (less, all)
      at Equal ih = all
      at Greater ih = (all.0, ih)

  sorted_put_at : (o : Ordering) (a : Actor) (w : X) (e : Actor × X) (es : List (Actor × X)) → by_actor a e.0 ≡ o → IsStrictlySortedBy by_actor (e.0 ∷ keys_of es) →
      IsStrictlySortedBy by_actor (keys_of (insert_entry by_actor es a w)) →
      IsStrictlySortedBy by_actor (keys_of (match_ordering o ((a, w) ∷ e ∷ es) ((e.0, w) ∷ es) (e ∷ insert_entry by_actor es a w)))
  sorted_put_at Less a w e es is sorted ih = sorted_cons a (e.0 ∷ keys_of es) (is, below_all a e.0 (keys_of es) is (sorted_head by_actor e.0 (keys_of es) sorted)) sorted
  sorted_put_at Equal a w e es is sorted ih = sorted
  sorted_put_at Greater a w e es is sorted ih =
      let under : by_actor e.0 a ≡ Less = by_actor_total.antisymm e.0 a ∙ ap ordering_reverse is in
      sorted_cons e.0 (keys_of (insert_entry by_actor es a w)) (below_put e.0 a w es under (sorted_head by_actor e.0 (keys_of es) sorted)) ih

  pub sorted_put : (a : Actor) (w : X) (es : List (Actor × X)) → IsStrictlySortedBy by_actor (keys_of es) → IsStrictlySortedBy by_actor (keys_of (insert_entry by_actor es a w))
  sorted_put a w [] sorted = sorted_cons a [] tt sorted_nil
  sorted_put a w (e ∷ es) sorted = sorted_put_at (by_actor a e.0) a w e es refl sorted (sorted_put a w es (sorted_tail by_actor e.0 (keys_of es) sorted))

  -- ---- an entry that is taken out
  pub none_above : (a : Actor) (es : List (Actor × X)) → AllByRecursion (λ y. by_actor a y ≡ Less) (keys_of es) → lookup (is_at (by_actor a)) es ≡ None
  none_above a [] all = refl
  none_above a (e ∷ es) all = rw all.0 (none_above a es all.1)

  pub out_same : (a : Actor) (es : List (Actor × X)) → IsStrictlySortedBy by_actor (keys_of es) → lookup (is_at (by_actor a)) (remove_entry (is_at (by_actor a)) es) ≡ None
  out_same a [] sorted = refl
  out_same a (e ∷ es) sorted = at (is_at (by_actor a) e.0) refl (out_same a es (sorted_tail by_actor e.0 (keys_of es) sorted))
    where
      at : (t : Bool) → is_at (by_actor a) e.0 ≡ t → lookup (is_at (by_actor a)) (remove_entry (is_at (by_actor a)) es) ≡ None →
          lookup (is_at (by_actor a)) (cond t es (e ∷ remove_entry (is_at (by_actor a)) es)) ≡ None
      at true is ih = none_above a es (subst (λ (x : Actor). AllByRecursion (λ y. by_actor x y ≡ Less) (keys_of es)) (sym (same_at a e.0 is)) (sorted_head by_actor e.0 (keys_of es) sorted))
      at false is ih = rw is ih

  pub out_other : (q a : Actor) (es : List (Actor × X)) → is_at (by_actor q) a ≡ false → lookup (is_at (by_actor q)) (remove_entry (is_at (by_actor a)) es) ≡ lookup (is_at (by_actor q)) es
  out_other q a [] ne = refl
  out_other q a (e ∷ es) ne = at (is_at (by_actor a) e.0) refl (out_other q a es ne)
    where
      at : (t : Bool) → is_at (by_actor a) e.0 ≡ t → lookup (is_at (by_actor q)) (remove_entry (is_at (by_actor a)) es) ≡ lookup (is_at (by_actor q)) es →
          lookup (is_at (by_actor q)) (cond t es (e ∷ remove_entry (is_at (by_actor a)) es)) ≡ lookup (is_at (by_actor q)) (e ∷ es)
      at true is ih =
          let other : is_at (by_actor q) e.0 ≡ false = subst (λ (x : Actor). is_at (by_actor q) x ≡ false) (same_at a e.0 is) ne in
          sym (ap (λ (b : Bool). cond b (Some e.1) (lookup (is_at (by_actor q)) es)) other)
      at false is ih = ap (λ (o : Option X). cond (is_at (by_actor q) e.0) (Some e.1) o) ih

  pub among_out : (test : Actor → Bool) (es : List (Actor × X)) (x : Actor × X) → Among (remove_entry test es) x → Among es x
  among_out test [] x i = absurd i
  among_out test (e ∷ es) x i = at (test e.0) i (among_out test es x)
    where
      at : (t : Bool) → Among (cond t es (e ∷ remove_entry test es)) x → (Among (remove_entry test es) x → Among es x) → Among (e ∷ es) x
      at true i ih = inr i
      at false (inl s) ih = inl s
      at false (inr i) ih = inr (ih i)

  below_out : (test : Actor → Bool) (k : Actor) (es : List (Actor × X)) → AllByRecursion (λ y. by_actor k y ≡ Less) (keys_of es) → AllByRecursion (λ y. by_actor k y ≡ Less) (keys_of (remove_entry test es))
  below_out test k [] all = tt
  below_out test k (e ∷ es) all = at (test e.0) (below_out test k es all.1)
    where
      at : (t : Bool) → AllByRecursion (λ y. by_actor k y ≡ Less) (keys_of (remove_entry test es)) → AllByRecursion (λ y. by_actor k y ≡ Less) (keys_of (cond t es (e ∷ remove_entry test es)))
      at true h = all.1
      at false h = (all.0, h)

  pub sorted_out : (test : Actor → Bool) (es : List (Actor × X)) → IsStrictlySortedBy by_actor (keys_of es) → IsStrictlySortedBy by_actor (keys_of (remove_entry test es))
  sorted_out test [] sorted = sorted_nil
  sorted_out test (e ∷ es) sorted = at (test e.0) (sorted_out test es (sorted_tail by_actor e.0 (keys_of es) sorted))
    where
      at : (t : Bool) → IsStrictlySortedBy by_actor (keys_of (remove_entry test es)) → IsStrictlySortedBy by_actor (keys_of (cond t es (e ∷ remove_entry test es)))
      at true h = sorted_tail by_actor e.0 (keys_of es) sorted
      at false h = sorted_cons e.0 (keys_of (remove_entry test es)) (below_out test e.0 es (sorted_head by_actor e.0 (keys_of es) sorted)) h

  -- ---- numbers above 0, of which the others are left out
  above_none : (f : Actor × X → ℕ) (a : Actor) (es : List (Actor × X)) → AllByRecursion (λ y. by_actor a y ≡ Less) (keys_of es) →
      lookup (is_at (by_actor a)) (filter (λ l. nat_lt 0 l.1) (map (λ e. (e.0, f e)) es)) ≡ None
  above_none f a [] all = refl
  above_none f a (e ∷ es) all = at (nat_lt 0 (f e)) (above_none f a es all.1)
    where
      at : (t : Bool) → lookup (is_at (by_actor a)) (filter (λ l. nat_lt 0 l.1) (map (λ e. (e.0, f e)) es)) ≡ None →
          lookup (is_at (by_actor a)) (cond t ((e.0, f e) ∷ filter (λ l. nat_lt 0 l.1) (map (λ e. (e.0, f e)) es)) (filter (λ l. nat_lt 0 l.1) (map (λ e. (e.0, f e)) es))) ≡ None
      at true h = rw all.0 h
      at false h = h

  pub above_at : (f : Actor × X → ℕ) (a : Actor) (v : X) (es : List (Actor × X)) → IsStrictlySortedBy by_actor (keys_of es) → lookup (is_at (by_actor a)) es ≡ Some v →
      unwrap_or (lookup (is_at (by_actor a)) (filter (λ l. nat_lt 0 l.1) (map (λ e. (e.0, f e)) es))) 0 ≡ f (a, v)
  above_at f a v [] sorted is = absurd cc
  above_at f a v (e ∷ es) sorted is = at (by_actor a e.0) (nat_lt 0 (f e)) refl refl is (above_at f a v es (sorted_tail by_actor e.0 (keys_of es) sorted))
    where
      left : List (Actor × ℕ)
      left = filter (λ l. nat_lt 0 l.1) (map (λ e. (e.0, f e)) es)

      here : by_actor a e.0 ≡ Equal → Some e.1 ≡ Some v → e ≡ (a, v)
      here o s = let x : e.1 ≡ v = cc in rw (same_actor a e.0 o, sym x) refl

      at : (o : Ordering) (t : Bool) → by_actor a e.0 ≡ o → nat_lt 0 (f e) ≡ t → cond (is_eq o) (Some e.1) (lookup (is_at (by_actor a)) es) ≡ Some v →
          (lookup (is_at (by_actor a)) es ≡ Some v → unwrap_or (lookup (is_at (by_actor a)) left) 0 ≡ f (a, v)) →
          unwrap_or (lookup (is_at (by_actor a)) (cond t ((e.0, f e) ∷ left) left)) 0 ≡ f (a, v)
      at Less true o t s ih = rw o (ih s)
      at Less false o t s ih = ih s
      at Greater true o t s ih = rw o (ih s)
      at Greater false o t s ih = ih s
      at Equal true o t s ih = rw o (ap f (here o s))
      at Equal false o t s ih =
          let z : f e ≡ 0 = let l = ltb-false 0 (f e) t in omega (arith, l) in
          let n : lookup (is_at (by_actor a)) left ≡ None = above_none f a es (subst (λ (x : Actor). AllByRecursion (λ y. by_actor x y ≡ Less) (keys_of es)) (sym (same_actor a e.0 o)) (sorted_head by_actor e.0 (keys_of es) sorted)) in
          rw n (sym z ∙ ap f (here o s))
