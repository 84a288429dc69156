-- What an ordered map has at a key, after an entry is put.
use Rattle.std.proofs.Common.{◌≡◌, ◌≢◌, ℕ, List, [], ◌∷◌, Bool, true, false, cond, Option, Some, refl, sym, ap, ◌∙◌, Ordering, Less, Equal, Greater}
use Rattle.std.specs.Ordering.{match_ordering, is_eq, nat_cmp}
use Rattle.std.specs.Cmp.Lexicographic.{slice_cmp}
use Rattle.std.proofs.lemmas.Map.Text.{is_eq-slice_cmp}
use Rattle.std.proofs.lemmas.Slice.Eq.{bytes_eq-Decides}
use Rattle.std.specs.BTreeMap.{insert_entry, is_at}
use Rattle.std.specs.Map.{lookup}

module _ {K : Type 0} (cmp : K → K → Ordering) (equal : (a b : K) → cmp a b ≡ Equal → a ≡ b) (itself : (a : K) → cmp a a ≡ Equal) where
  at_itself : (k : K) → is_at (cmp k) k ≡ true
  at_itself k = ap is_eq (itself k)

  pub at_other : (q k : K) → q ≢ k → is_at (cmp q) k ≡ false
  at_other q k ne = by_order (cmp q k) refl
    where
      by_order : (o : Ordering) → cmp q k ≡ o → is_eq o ≡ false
      by_order Less e = refl
      by_order Equal e = absurd (ne (equal q k e))
      by_order Greater e = refl

  -- what was put is found
  pub found_same : {X : Type 0} (k : K) (v : X) (es : List (K × X)) → lookup (is_at (cmp k)) (insert_entry cmp es k v) ≡ Some v
  found_same k v [] = rw (at_itself k) refl
  found_same {X} k v (e ∷ es) = by_order (cmp k e.0) refl (found_same k v es)
    where
      by_order : (o : Ordering) → cmp k e.0 ≡ o → lookup (is_at (cmp k)) (insert_entry cmp es k v) ≡ Some v →
          lookup (is_at (cmp k)) (match_ordering o ((k, v) ∷ e ∷ es) ((e.0, v) ∷ es) (e ∷ insert_entry cmp es k v)) ≡ Some v
      by_order Less is more = rw (at_itself k) refl
      by_order Equal is more = ap (λ (o : Ordering). cond (is_eq o) (Some v) (lookup (is_at (cmp k)) es)) is
      by_order Greater is more = ap (λ (o : Ordering). cond (is_eq o) (Some e.1) (lookup (is_at (cmp k)) (insert_entry cmp es k v))) is ∙ more

  -- and each other key has what it had
  pub found_other : {X : Type 0} (q k : K) (v : X) (es : List (K × X)) → q ≢ k → lookup (is_at (cmp q)) (insert_entry cmp es k v) ≡ lookup (is_at (cmp q)) es
  found_other q k v [] ne = rw (at_other q k ne) refl
  found_other {X} q k v (e ∷ es) ne = by_order (cmp k e.0) refl (found_other q k v es ne)
    where
      by_order : (o : Ordering) → cmp k e.0 ≡ o → lookup (is_at (cmp q)) (insert_entry cmp es k v) ≡ lookup (is_at (cmp q)) es →
          lookup (is_at (cmp q)) (match_ordering o ((k, v) ∷ e ∷ es) ((e.0, v) ∷ es) (e ∷ insert_entry cmp es k v)) ≡ lookup (is_at (cmp q)) (e ∷ es)
      by_order Less is more = rw (at_other q k ne) refl
      by_order Equal is more =
          let other : q ≢ e.0 = λ s. ne (s ∙ sym (equal k e.0 is)) in
          ap (λ (b : Bool). cond b (Some v) (lookup (is_at (cmp q)) es)) (at_other q e.0 other) ∙ sym (ap (λ (b : Bool). cond b (Some e.1) (lookup (is_at (cmp q)) es)) (at_other q e.0 other))
      by_order Greater is more = ap (λ (o : Option X). cond (is_at (cmp q) e.0) (Some e.1) o) more

-- lists of numbers that compare as equal are equal
pub list_equal : (a b : List ℕ) → slice_cmp nat_cmp a b ≡ Equal → a ≡ b
list_equal a b e = (bytes_eq-Decides a b).0 (sym (is_eq-slice_cmp a b) ∙ ap is_eq e)
