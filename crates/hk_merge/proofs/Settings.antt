-- What an ordered map by lists of numbers has at a key, after the value at a key is replaced.
use Rattle.std.proofs.Common.{◌≡◌, ◌≢◌, ℕ, List, [], ◌∷◌, Bool, true, false, cond, Option, Some, refl, sym, ap, subst, ◌∙◌, Ordering, Less, Equal, Greater}
use Rattle.std.specs.Ordering.{nat_cmp, is_eq}
use Rattle.std.specs.Cmp.Lexicographic.{slice_cmp}
use Rattle.std.specs.BTreeMap.{is_at}
use Rattle.std.specs.Map.{lookup, set_value}
use Rattle.std.proofs.lemmas.Bool.{false≢true}
use Rattle.std.proofs.lemmas.Cmp.{nat_list_cmp_total, tied_itself}
use Rattle.hk_merge.proofs.Entries.{list_equal}

pub itself : (a : List ℕ) → slice_cmp nat_cmp a a ≡ Equal
itself a = tied_itself nat_list_cmp_total a

pub at_is : (q k : List ℕ) → is_at (slice_cmp nat_cmp q) k ≡ true → q ≡ k
at_is q k e = by_order (slice_cmp nat_cmp q k) refl e
  where
    by_order : (o : Ordering) → slice_cmp nat_cmp q k ≡ o → is_eq o ≡ true → q ≡ k
    by_order Less is h = absurd (false≢true h)
    by_order Equal is h = list_equal q k is
    by_order Greater is h = absurd (false≢true h)

at_itself : (k : List ℕ) → is_at (slice_cmp nat_cmp k) k ≡ true
at_itself k = ap is_eq (itself k)

pub at_far : (q k : List ℕ) → is_at (slice_cmp nat_cmp q) k ≡ false → q ≢ k
at_far q k e same = false≢true (sym e ∙ subst (λ (x : List ℕ). is_at (slice_cmp nat_cmp q) x ≡ true) same (at_itself q))

module _ {X : Type 0} (k : List ℕ) (w : X) where
  pub set_same : (es : List (List ℕ × X)) (v : X) → lookup (is_at (slice_cmp nat_cmp k)) es ≡ Some v → lookup (is_at (slice_cmp nat_cmp k)) (set_value (is_at (slice_cmp nat_cmp k)) es w) ≡ Some w
  set_same [] v e = absurd cc
  set_same (y ∷ es) v e = by_test (is_at (slice_cmp nat_cmp k) y.0) refl e (set_same es v)
    where
      by_test : (t : Bool) → is_at (slice_cmp nat_cmp k) y.0 ≡ t → cond t (Some y.1) (lookup (is_at (slice_cmp nat_cmp k)) es) ≡ Some v →
          (lookup (is_at (slice_cmp nat_cmp k)) es ≡ Some v → lookup (is_at (slice_cmp nat_cmp k)) (set_value (is_at (slice_cmp nat_cmp k)) es w) ≡ Some w) →
          lookup (is_at (slice_cmp nat_cmp k)) (cond t ((y.0, w) ∷ es) (y ∷ set_value (is_at (slice_cmp nat_cmp k)) es w)) ≡ Some w
      by_test true t e more = rw t refl
      by_test false t e more = rw t (more e)

  pub set_other : (q : List ℕ) → is_at (slice_cmp nat_cmp q) k ≡ false → (es : List (List ℕ × X)) → lookup (is_at (slice_cmp nat_cmp q)) (set_value (is_at (slice_cmp nat_cmp k)) es w) ≡ lookup (is_at (slice_cmp nat_cmp q)) es
  set_other q far [] = refl
  set_other q far (y ∷ es) = by_test (is_at (slice_cmp nat_cmp k) y.0) refl (set_other q far es)
    where
      by_test : (t : Bool) → is_at (slice_cmp nat_cmp k) y.0 ≡ t → lookup (is_at (slice_cmp nat_cmp q)) (set_value (is_at (slice_cmp nat_cmp k)) es w) ≡ lookup (is_at (slice_cmp nat_cmp q)) es →
          lookup (is_at (slice_cmp nat_cmp q)) (cond t ((y.0, w) ∷ es) (y ∷ set_value (is_at (slice_cmp nat_cmp k)) es w)) ≡ lookup (is_at (slice_cmp nat_cmp q)) (y ∷ es)
      by_test true t more =
          let other : is_at (slice_cmp nat_cmp q) y.0 ≡ false = subst (λ (x : List ℕ). is_at (slice_cmp nat_cmp q) x ≡ false) (at_is k y.0 t) far in
          ap (λ (b : Bool). cond b (Some w) (lookup (is_at (slice_cmp nat_cmp q)) es)) other ∙ sym (ap (λ (b : Bool). cond b (Some y.1) (lookup (is_at (slice_cmp nat_cmp q)) es)) other)
      by_test false t more = ap (λ (o : Option X). cond (is_at (slice_cmp nat_cmp q) y.0) (Some y.1) o) more
