-- What an entry that is put takes the place of, given back, makes the map as it was.
use Rattle.std.proofs.Common.{◌≡◌, cond, List, [], ◌∷◌, Option, Some, None, IsSome, refl, sym, ap, ◌∙◌}
use Rattle.std.specs.Ordering.{match_ordering, is_eq}
use Rattle.std.specs.declared.cmp.Ordering.{Ordering}
use Rattle.std.specs.declared.cmp.Ordering.TheVariants.{Less, Equal, Greater}
use Rattle.std.specs.BTreeMap.{is_at, insert_entry}
use Rattle.std.specs.Cmp.{IsTotalOrder}
use Rattle.std.specs.Map.{keys_of, lookup, remove_entry, set_value}
use Rattle.std.specs.List.{AllByRecursion}
use Rattle.std.specs.List.Sorted.{IsStrictlySortedBy}
use Rattle.std.proofs.lemmas.Cmp.{nat_cmp_total, tied_itself}
use Rattle.std.proofs.lemmas.Map.Keys.{sorted_head, sorted_tail}
use Rattle.std.proofs.lemmas.Option.{none-some}
use Rattle.hk_lease.specs.Entries.{entry_rolled_back}
use Rattle.hk_lease.specs.Grants.{by_number}

-- what is below the first key is below all
further : {K : Type 0} (cmp : K → K → Ordering) → IsTotalOrder cmp → (k first : K) (ks : List K) → cmp k first ≡ Less → AllByRecursion (λ (y : K). cmp first y ≡ Less) ks → AllByRecursion (λ (y : K). cmp k y ≡ Less) ks
further cmp total k first [] low all = tt
further cmp total k first (y ∷ ks) low all = (total.trans k first y low all.0, further cmp total k first ks low all.1)

module _ {K X : Type 0} (cmp : K → K → Ordering) (total : IsTotalOrder cmp) where
  -- no entry is found below the first
  above : (k : K) (es : List (K × X)) → AllByRecursion (λ (y : K). cmp k y ≡ Less) (keys_of es) → lookup (is_at (cmp k)) es ≡ None
  above k [] all = refl
  above k (e ∷ es) all = rw all.0 (above k es all.1)

  below : (k : K) (e : K × X) (es : List (K × X)) → IsStrictlySortedBy cmp (keys_of (e ∷ es)) → cmp k e.0 ≡ Less → lookup (is_at (cmp k)) (e ∷ es) ≡ None
  below k e es sorted low = rw low (above k es (further cmp total k e.0 (keys_of es) low (sorted_head cmp e.0 (keys_of es) sorted)))

  -- an entry that was put where there was none is taken away
  remove_put : (k : K) (v : X) (es : List (K × X)) → lookup (is_at (cmp k)) es ≡ None → remove_entry (is_at (cmp k)) (insert_entry cmp es k v) ≡ es
  remove_put k v [] none = rw (tied_itself total k) refl
  remove_put k v (e ∷ es) none = by_order (cmp k e.0) refl none (remove_put k v es)
    where
      by_order : (o : Ordering) → cmp k e.0 ≡ o → cond (is_eq o) (Some e.1) (lookup (is_at (cmp k)) es) ≡ None →
          (lookup (is_at (cmp k)) es ≡ None → remove_entry (is_at (cmp k)) (insert_entry cmp es k v) ≡ es) →
          remove_entry (is_at (cmp k)) (match_ordering o ((k, v) ∷ e ∷ es) ((e.0, v) ∷ es) (e ∷ insert_entry cmp es k v)) ≡ e ∷ es
      by_order Less is at more = rw (tied_itself total k) refl
      by_order Equal is at more = absurd (none-some e.1 (sym at))
      by_order Greater is at more = rw (ap is_eq is) (ap (λ (l : List (K × X)). e ∷ l) (more at))

  -- the value that was there is put back
  set_put : (k : K) (v old : X) (es : List (K × X)) → IsStrictlySortedBy cmp (keys_of es) → lookup (is_at (cmp k)) es ≡ Some old → set_value (is_at (cmp k)) (insert_entry cmp es k v) old ≡ es
  set_put k v old [] sorted there = absurd (none-some old there)
  set_put k v old (e ∷ es) sorted there = by_order (cmp k e.0) refl there (set_put k v old es (sorted_tail cmp e.0 (keys_of es) sorted))
    where
      by_order : (o : Ordering) → cmp k e.0 ≡ o → cond (is_eq o) (Some e.1) (lookup (is_at (cmp k)) es) ≡ Some old →
          (lookup (is_at (cmp k)) es ≡ Some old → set_value (is_at (cmp k)) (insert_entry cmp es k v) old ≡ es) →
          set_value (is_at (cmp k)) (match_ordering o ((k, v) ∷ e ∷ es) ((e.0, v) ∷ es) (e ∷ insert_entry cmp es k v)) old ≡ e ∷ es
      by_order Less is at more = absurd (none-some old (sym (below k e es sorted is) ∙ there))
      by_order Equal is at more =
          let same : e.1 ≡ old = cc in
          rw is (ap (λ (x : X). (e.0, x) ∷ es) (sym same))
      by_order Greater is at more = rw (ap is_eq is) (ap (λ (l : List (K × X)). e ∷ l) (more at))

  pub put_undone : (k : K) (v : X) (es : List (K × X)) → IsStrictlySortedBy cmp (keys_of es) → entry_rolled_back (is_at (cmp k)) (lookup (is_at (cmp k)) es) (insert_entry cmp es k v) ≡ es
  put_undone k v es sorted = by_found (lookup (is_at (cmp k)) es) refl
    where
      by_found : (o : Option X) → lookup (is_at (cmp k)) es ≡ o → entry_rolled_back (is_at (cmp k)) o (insert_entry cmp es k v) ≡ es
      by_found None is = remove_put k v es is
      by_found (Some old) is = set_put k v old es sorted is

  pub put_there : (k : K) (v : X) (es : List (K × X)) → IsSome (lookup (is_at (cmp k)) (insert_entry cmp es k v))
  put_there k v [] = rw (tied_itself total k) refl
  put_there k v (e ∷ es) = by_order (cmp k e.0) refl (put_there k v es)
    where
      by_order : (o : Ordering) → cmp k e.0 ≡ o → IsSome (lookup (is_at (cmp k)) (insert_entry cmp es k v)) →
          IsSome (lookup (is_at (cmp k)) (match_ordering o ((k, v) ∷ e ∷ es) ((e.0, v) ∷ es) (e ∷ insert_entry cmp es k v)))
      by_order Less is at = rw (tied_itself total k) refl
      by_order Equal is at = rw is refl
      by_order Greater is at = rw is at

pub by_number_total : IsTotalOrder by_number
by_number_total = record {
  antisymm = λ x y. nat_cmp_total.antisymm x.0 y.0;
  trans = λ x y z. nat_cmp_total.trans x.0 y.0 z.0;
  congr = λ x y z. nat_cmp_total.congr x.0 y.0 z.0;
}
