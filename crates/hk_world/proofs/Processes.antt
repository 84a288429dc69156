-- The processes of a world: what a put leaves of them, and what holds of each.
use Rattle.std.proofs.Common.{◌≡◌, ◌⊎◌, inl, inr, ℕ, Bool, false, cond, List, [], ◌∷◌, Option, Some, None, refl, sym, ap, subst, ◌∙◌}
use Rattle.std.specs.declared.cmp.Ordering.{Ordering}
use Rattle.std.specs.declared.cmp.Ordering.TheVariants.{Less, Equal, Greater}
use Rattle.std.specs.Ordering.{match_ordering, is_eq, ordering_reverse}
use Rattle.std.specs.Cmp.{IsTotalOrder}
use Rattle.std.specs.BTreeMap.{insert_entry, is_at}
use Rattle.std.specs.Map.{lookup, set_value, remove_entry, keys_of}
use Rattle.std.specs.List.{AllByRecursion}
use Rattle.std.specs.List.Sorted.{IsStrictlySortedBy}
use Rattle.std.proofs.lemmas.Cmp.{nat_cmp_total, tied_itself}
use Rattle.std.proofs.lemmas.Map.{lookup-none}
use Rattle.std.proofs.lemmas.Map.Entries.{none_below_head}
use Rattle.std.proofs.lemmas.Map.Keys.{sorted_head, sorted_tail}
use Rattle.std.proofs.lemmas.Map.Lookups.{exact_unsigned}
use Rattle.std.proofs.lemmas.Map.Steps.{set_value_same}
use Rattle.hk_base.specs.declared.stamp.NodeId.{NodeId}
use Rattle.hk_world.specs.World.{by_number}

pub by_number_total : IsTotalOrder by_number
by_number_total = record { antisymm = λ x y. nat_cmp_total.antisymm x.0 y.0; trans = λ x y z. nat_cmp_total.trans x.0 y.0 z.0; congr = λ x y z. nat_cmp_total.congr x.0 y.0 z.0 }

numbered_as : ℕ → NodeId
numbered_as n = record { 0 = n }

pub same_id : (a b : NodeId) → by_number a b ≡ Equal → a ≡ b
unfolding numbered_as
same_id a b e = ap numbered_as (exact_unsigned a.0 b.0 e)

-- by whether they are one
pub which : (a b : NodeId) → (a ≡ b) ⊎ (is_at (by_number a) b ≡ false)
which a b = at (by_number a b) refl
  where
    at : (o : Ordering) → by_number a b ≡ o → (a ≡ b) ⊎ (is_at (by_number a) b ≡ false)
    at Less is = inr (ap is_eq is)
    at Equal is = inl (same_id a b is)
    at Greater is = inr (ap is_eq is)

pub itself : (a : NodeId) → by_number a a ≡ Equal
itself a = tied_itself by_number_total a

none_some : {X : Type 0} (v : X) (o : Option X) → o ≡ None → o ≡ Some v → ⊥
none_some v o n s = absurd cc

below_all : (a b : NodeId) (ks : List NodeId) → by_number a b ≡ Less → AllByRecursion (λ y. by_number b y ≡ Less) ks → AllByRecursion (λ y. by_number a y ≡ Less) ks
below_all a b [] less all = tt
below_all a b (k ∷ ks) less all = (by_number_total.trans a b k less all.0, below_all a b ks less all.1)

sorted_cons : (k : NodeId) (ks : List NodeId) → AllByRecursion (λ y. by_number k y ≡ Less) ks → IsStrictlySortedBy by_number ks → IsStrictlySortedBy by_number (k ∷ ks)
unfolding IsStrictlySortedBy
sorted_cons k ks all sorted = (all, sorted)

sorted_nil : IsStrictlySortedBy by_number []
unfolding IsStrictlySortedBy
sorted_nil = tt

module _ {X : Type 0} where
  -- a value set where the key is, is put
  pub set_is_put : (id : NodeId) (w v : X) (es : List (NodeId × X)) → IsStrictlySortedBy by_number (keys_of es) → lookup (is_at (by_number id)) es ≡ Some v →
      set_value (is_at (by_number id)) es w ≡ insert_entry by_number es id w
  set_is_put id w v [] sorted found = absurd cc
  set_is_put id w v (e ∷ es) sorted found =
      at (by_number id e.0) refl found (set_is_put id w v es (sorted_tail by_number e.0 (keys_of es) sorted))
    where
      at : (o : Ordering) → by_number id e.0 ≡ o → cond (is_eq o) (Some e.1) (lookup (is_at (by_number id)) es) ≡ Some v →
          (lookup (is_at (by_number id)) es ≡ Some v → set_value (is_at (by_number id)) es w ≡ insert_entry by_number es id w) →
          cond (is_eq o) ((e.0, w) ∷ es) (e ∷ set_value (is_at (by_number id)) es w) ≡ match_ordering o ((id, w) ∷ e ∷ es) ((e.0, w) ∷ es) (e ∷ insert_entry by_number es id w)
      at Less is there ih = absurd (none_some v _ (lookup-none (is_at (by_number id)) (e ∷ es) (none_below_head by_number_total id e es sorted is)) found)
      at Equal is there ih = refl
      at Greater is there ih = ap (λ (l : List (NodeId × X)). e ∷ l) (ih there)

  -- the value that is there, put again, changes nothing
  pub put_back : (id : NodeId) (v : X) (es : List (NodeId × X)) → IsStrictlySortedBy by_number (keys_of es) → lookup (is_at (by_number id)) es ≡ Some v → insert_entry by_number es id v ≡ es
  put_back id v es sorted found = sym (set_is_put id v v es sorted found) ∙ set_value_same (is_at (by_number id)) es v found

  below_put : (k id : NodeId) (w : X) (es : List (NodeId × X)) → by_number k id ≡ Less → AllByRecursion (λ y. by_number k y ≡ Less) (keys_of es) →
      AllByRecursion (λ y. by_number k y ≡ Less) (keys_of (insert_entry by_number es id w))
  below_put k id w [] less all = (less, tt)
  below_put k id w (e ∷ es) less all = at (by_number id e.0) (below_put k id w es less all.1)
    where
      at : (o : Ordering) → AllByRecursion (λ y. by_number k y ≡ Less) (keys_of (insert_entry by_number es id w)) →
          AllByRecursion (λ y. by_number k y ≡ Less) (keys_of (match_ordering o ((id, w) ∷ e ∷ es) ((e.0, w) ∷ es) (e ∷ insert_entry by_number es id w)))
      at Less ih = (less, all)
      at Equal ih = all
      at Greater ih = (all.0, ih)

  sorted_put_at : (o : Ordering) (id : NodeId) (w : X) (e : NodeId × X) (es : List (NodeId × X)) → by_number id e.0 ≡ o → IsStrictlySortedBy by_number (e.0 ∷ keys_of es) →
      IsStrictlySortedBy by_number (keys_of (insert_entry by_number es id w)) →
      IsStrictlySortedBy by_number (keys_of (match_ordering o ((id, w) ∷ e ∷ es) ((e.0, w) ∷ es) (e ∷ insert_entry by_number es id w)))
  sorted_put_at Less id w e es is sorted ih = sorted_cons id (e.0 ∷ keys_of es) (is, below_all id e.0 (keys_of es) is (sorted_head by_number e.0 (keys_of es) sorted)) sorted
  sorted_put_at Equal id w e es is sorted ih = sorted
  sorted_put_at Greater id w e es is sorted ih =
      let under : by_number e.0 id ≡ Less = by_number_total.antisymm e.0 id ∙ ap ordering_reverse is in
      sorted_cons e.0 (keys_of (insert_entry by_number es id w)) (below_put e.0 id w es under (sorted_head by_number e.0 (keys_of es) sorted)) ih

  pub sorted_put : (id : NodeId) (w : X) (es : List (NodeId × X)) → IsStrictlySortedBy by_number (keys_of es) → IsStrictlySortedBy by_number (keys_of (insert_entry by_number es id w))
  sorted_put id w [] sorted = sorted_cons id [] tt sorted_nil
  sorted_put id w (e ∷ es) sorted = sorted_put_at (by_number id e.0) id w e es refl sorted (sorted_put id w es (sorted_tail by_number e.0 (keys_of es) sorted))

  pub all_put : (P : NodeId × X → Type 0) (id : NodeId) (w : X) (es : List (NodeId × X)) → AllByRecursion P es → P (id, w) → AllByRecursion P (insert_entry by_number es id w)
  all_put P id w [] all new = (new, tt)
  all_put P id w (e ∷ es) all new = at (by_number id e.0) refl (all_put P id w es all.1 new)
    where
      at : (o : Ordering) → by_number id e.0 ≡ o → AllByRecursion P (insert_entry by_number es id w) → AllByRecursion P (match_ordering o ((id, w) ∷ e ∷ es) ((e.0, w) ∷ es) (e ∷ insert_entry by_number es id w))
      at Less is ih = (new, all)
      at Equal is ih = (subst (λ (k : NodeId). P (k, w)) (same_id id e.0 is) new, all.1)
      at Greater is ih = (all.0, ih)

  pub found_holds : (P : NodeId × X → Type 0) (id : NodeId) (v : X) (es : List (NodeId × X)) → AllByRecursion P es → lookup (is_at (by_number id)) es ≡ Some v → P (id, v)
  found_holds P id v [] all found = absurd cc
  found_holds P id v (e ∷ es) all found = at (by_number id e.0) refl found (found_holds P id v es all.1)
    where
      at : (o : Ordering) → by_number id e.0 ≡ o → cond (is_eq o) (Some e.1) (lookup (is_at (by_number id)) es) ≡ Some v → (lookup (is_at (by_number id)) es ≡ Some v → P (id, v)) → P (id, v)
      at Less is there ih = ih there
      at Equal is there ih =
          let same : e.1 ≡ v = cc in
          subst (λ (k : NodeId). P (k, v)) (sym (same_id id e.0 is)) (subst (λ (x : X). P (e.0, x)) same all.0)
      at Greater is there ih = ih there

  pub all_map : (P Q : NodeId × X → Type 0) → ((e : NodeId × X) → P e → Q e) → (es : List (NodeId × X)) → AllByRecursion P es → AllByRecursion Q es
  all_map P Q f [] all = tt
  all_map P Q f (e ∷ es) all = (f e all.0, all_map P Q f es all.1)

  -- ---- what is found where a value was put
  pub put_same : (k : NodeId) (v : X) (es : List (NodeId × X)) → lookup (is_at (by_number k)) (insert_entry by_number es k v) ≡ Some v
  put_same k v [] = rw (itself k) refl
  put_same k v (e ∷ es) = at (by_number k e.0) refl (put_same k v es)
    where
      at : (o : Ordering) → by_number k e.0 ≡ o → lookup (is_at (by_number k)) (insert_entry by_number es k v) ≡ Some v →
          lookup (is_at (by_number k)) (match_ordering o ((k, v) ∷ e ∷ es) ((e.0, v) ∷ es) (e ∷ insert_entry by_number es k v)) ≡ Some v
      at Less is more = rw (itself k) refl
      at Equal is more = ap (λ (o : Ordering). cond (is_eq o) (Some v) (lookup (is_at (by_number k)) es)) is
      at Greater is more = ap (λ (o : Ordering). cond (is_eq o) (Some e.1) (lookup (is_at (by_number k)) (insert_entry by_number es k v))) is ∙ more

  pub put_other : (q k : NodeId) (v : X) (es : List (NodeId × X)) → is_at (by_number q) k ≡ false → lookup (is_at (by_number q)) (insert_entry by_number es k v) ≡ lookup (is_at (by_number q)) es
  put_other q k v [] ne = rw ne refl
  put_other q k v (e ∷ es) ne = at (by_number k e.0) refl (put_other q k v es ne)
    where
      at : (o : Ordering) → by_number k e.0 ≡ o → lookup (is_at (by_number q)) (insert_entry by_number es k v) ≡ lookup (is_at (by_number q)) es →
          lookup (is_at (by_number q)) (match_ordering o ((k, v) ∷ e ∷ es) ((e.0, v) ∷ es) (e ∷ insert_entry by_number es k v)) ≡ lookup (is_at (by_number q)) (e ∷ es)
      at Less is more = rw ne refl
      at Equal is more =
          let other : is_at (by_number q) e.0 ≡ false = subst (λ (x : NodeId). is_at (by_number q) x ≡ false) (same_id k e.0 is) ne in
          ap (λ (b : Bool). cond b (Some v) (lookup (is_at (by_number q)) es)) other ∙ sym (ap (λ (b : Bool). cond b (Some e.1) (lookup (is_at (by_number q)) es)) other)
      at Greater is more = ap (λ (o : Option X). cond (is_at (by_number q) e.0) (Some e.1) o) more

  -- a value that was put where there was none is taken out again
  pub taken_out : (k : NodeId) (v : X) (es : List (NodeId × X)) → lookup (is_at (by_number k)) es ≡ None → remove_entry (is_at (by_number k)) (insert_entry by_number es k v) ≡ es
  taken_out k v [] none = rw (itself k) refl
  taken_out k v (e ∷ es) none = at (by_number k e.0) refl none (taken_out k v es)
    where
      at : (o : Ordering) → by_number k e.0 ≡ o → cond (is_eq o) (Some e.1) (lookup (is_at (by_number k)) es) ≡ None →
          (lookup (is_at (by_number k)) es ≡ None → remove_entry (is_at (by_number k)) (insert_entry by_number es k v) ≡ es) →
          remove_entry (is_at (by_number k)) (match_ordering o ((k, v) ∷ e ∷ es) ((e.0, v) ∷ es) (e ∷ insert_entry by_number es k v)) ≡ e ∷ es
      at Less is there ih = rw (itself k) refl
      at Equal is there ih = absurd cc
      at Greater is there ih = rw (ap is_eq is) (ap (λ (l : List (NodeId × X)). e ∷ l) (ih there))
