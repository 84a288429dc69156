-- A map and an entry that is put into it: what is found then, what is left when one is taken out, and what is written in place.
use Rattle.std.proofs.Common.{◌≡◌, ◌==◌, ◌⊎◌, inl, Bool, true, false, cond, List, [], ◌∷◌, Option, Some, None, refl, sym, ap, ◌∙◌}
use Rattle.std.specs.Ordering.{match_ordering, is_eq}
use Rattle.std.specs.declared.cmp.Ordering.{Ordering}
use Rattle.std.specs.declared.cmp.Ordering.TheVariants.{Less, Equal, Greater}
use Rattle.std.specs.BTreeMap.{is_at, insert_entry}
use Rattle.std.specs.Cmp.{IsTotalOrder}
use Rattle.std.specs.Map.{keys_of, lookup, remove_entry, set_value}
use Rattle.std.specs.List.{AllByRecursion}
use Rattle.std.specs.List.Sorted.{IsStrictlySortedBy}
use Rattle.std.proofs.lemmas.Cmp.{nat_cmp_total, tied_itself, alike_right}
use Rattle.std.proofs.lemmas.Bool.{false≢true}
use Rattle.std.proofs.lemmas.Map.Keys.{sorted_head, sorted_tail}
use Rattle.std.proofs.lemmas.Option.{none-some}
use Rattle.hk_base.specs.declared.call.CallNo.{CallNo}
use Rattle.hk_by_call.specs.Kept.{by_number, kept_for, kept_with, kept_without, kept_at, all_kept, is_newest, newest_value, AreOthersSame, AreApart}
use Rattle.hk_by_call.proofs.Apart.{same_call, other_call, is_apart}

module _ {K : Type 0} (cmp : K → K → Ordering) (total : IsTotalOrder cmp) where
  -- a key is not that of what equals another one
  elsewhere : (q k e : K) → is_eq (cmp q k) ≡ false → cmp k e ≡ Equal → is_eq (cmp q e) ≡ false
  elsewhere q k e apart is = sym (ap is_eq (alike_right total k e q is)) ∙ apart

  below : (l : K) (first : K) (ks : List K) → cmp l first ≡ Less → AllByRecursion (λ (y : K). cmp first y ≡ Less) ks → AllByRecursion (λ (y : K). cmp l y ≡ Less) ks
  below l first [] low all = tt
  below l first (y ∷ ks) low all = (total.trans l first y low all.0, below l first ks low all.1)

module _ {K X : Type 0} (cmp : K → K → Ordering) (total : IsTotalOrder cmp) where
  pub found_same : (k : K) (v : X) (es : List (K × X)) → lookup (is_at (cmp k)) (insert_entry cmp es k v) ≡ Some v
  found_same k v [] = rw (tied_itself total k) refl
  found_same k v (e ∷ es) = by_order (cmp k e.0) refl (found_same k v es)
    where
      by_order : (o : Ordering) → cmp k e.0 ≡ o → lookup (is_at (cmp k)) (insert_entry cmp es k v) ≡ Some v →
          lookup (is_at (cmp k)) (match_ordering o ((k, v) ∷ e ∷ es) ((e.0, v) ∷ es) (e ∷ insert_entry cmp es k v)) ≡ Some v
      by_order Less is more = rw (tied_itself total k) refl
      by_order Equal is more = rw is refl
      by_order Greater is more = rw is more

  pub found_other : (k q : K) (v : X) (es : List (K × X)) → is_eq (cmp q k) ≡ false → lookup (is_at (cmp q)) (insert_entry cmp es k v) ≡ lookup (is_at (cmp q)) es
  found_other k q v [] apart = rw apart refl
  found_other k q v (e ∷ es) apart = by_order (cmp k e.0) refl (found_other k q v es apart)
    where
      by_order : (o : Ordering) → cmp k e.0 ≡ o → lookup (is_at (cmp q)) (insert_entry cmp es k v) ≡ lookup (is_at (cmp q)) es →
          lookup (is_at (cmp q)) (match_ordering o ((k, v) ∷ e ∷ es) ((e.0, v) ∷ es) (e ∷ insert_entry cmp es k v)) ≡ cond (is_eq (cmp q e.0)) (Some e.1) (lookup (is_at (cmp q)) es)
      by_order Less is more = rw apart refl
      by_order Equal is more = rw (elsewhere cmp total q k e.0 apart is) refl
      by_order Greater is more = ap (λ (o : Option X). cond (is_eq (cmp q e.0)) (Some e.1) o) more

  pub left_other : (k q : K) (es : List (K × X)) → is_eq (cmp q k) ≡ false → lookup (is_at (cmp q)) (remove_entry (is_at (cmp k)) es) ≡ lookup (is_at (cmp q)) es
  left_other k q [] apart = refl
  left_other k q (e ∷ es) apart = by_order (cmp k e.0) refl (left_other k q es apart)
    where
      by_order : (o : Ordering) → cmp k e.0 ≡ o → lookup (is_at (cmp q)) (remove_entry (is_at (cmp k)) es) ≡ lookup (is_at (cmp q)) es →
          lookup (is_at (cmp q)) (cond (is_eq o) es (e ∷ remove_entry (is_at (cmp k)) es)) ≡ cond (is_eq (cmp q e.0)) (Some e.1) (lookup (is_at (cmp q)) es)
      by_order Less is more = ap (λ (o : Option X). cond (is_eq (cmp q e.0)) (Some e.1) o) more
      by_order Equal is more = rw (elsewhere cmp total q k e.0 apart is) refl
      by_order Greater is more = ap (λ (o : Option X). cond (is_eq (cmp q e.0)) (Some e.1) o) more

  -- what is put where nothing was, and taken out
  pub put_and_taken : (k : K) (v : X) (es : List (K × X)) → lookup (is_at (cmp k)) es ≡ None → remove_entry (is_at (cmp k)) (insert_entry cmp es k v) ≡ es
  put_and_taken k v [] none = rw (tied_itself total k) refl
  put_and_taken k v (e ∷ es) none = by_order (cmp k e.0) refl none (put_and_taken k v es)
    where
      by_order : (o : Ordering) → cmp k e.0 ≡ o → cond (is_eq o) (Some e.1) (lookup (is_at (cmp k)) es) ≡ None →
          (lookup (is_at (cmp k)) es ≡ None → remove_entry (is_at (cmp k)) (insert_entry cmp es k v) ≡ es) →
          remove_entry (is_at (cmp k)) (match_ordering o ((k, v) ∷ e ∷ es) ((e.0, v) ∷ es) (e ∷ insert_entry cmp es k v)) ≡ e ∷ es
      by_order Less is at more = rw (tied_itself total k) refl
      by_order Equal is at more = absurd (none-some e.1 (sym at))
      by_order Greater is at more = rw (ap is_eq is) (ap (λ (l : List (K × X)). e ∷ l) (more at))

  -- what is below all comes first
  in_front : (l : K) (v : X) (es : List (K × X)) → AllByRecursion (λ (y : K). cmp l y ≡ Less) (keys_of es) → insert_entry cmp es l v ≡ (l, v) ∷ es
  in_front l v [] low = refl
  in_front l v (e ∷ es) low = rw low.0 refl

  -- another one is taken out, whether before or behind
  pub taken_past : (k l : K) (v : X) (es : List (K × X)) → is_eq (cmp k l) ≡ false → IsStrictlySortedBy cmp (keys_of es) →
      remove_entry (is_at (cmp k)) (insert_entry cmp es l v) ≡ insert_entry cmp (remove_entry (is_at (cmp k)) es) l v
  taken_past k l v [] apart sorted = rw apart refl
  taken_past k l v (e ∷ es) apart sorted = by_order (cmp l e.0) refl (taken_past k l v es apart (sorted_tail cmp e.0 (keys_of es) sorted))
    where
      by_order : (o : Ordering) → cmp l e.0 ≡ o → remove_entry (is_at (cmp k)) (insert_entry cmp es l v) ≡ insert_entry cmp (remove_entry (is_at (cmp k)) es) l v →
          remove_entry (is_at (cmp k)) (match_ordering o ((l, v) ∷ e ∷ es) ((e.0, v) ∷ es) (e ∷ insert_entry cmp es l v)) ≡ insert_entry cmp (cond (is_eq (cmp k e.0)) es (e ∷ remove_entry (is_at (cmp k)) es)) l v
      by_order Less is more = rw apart (by (is_eq (cmp k e.0)))
        where
          by : (b : Bool) → (l, v) ∷ cond b es (e ∷ remove_entry (is_at (cmp k)) es) ≡ insert_entry cmp (cond b es (e ∷ remove_entry (is_at (cmp k)) es)) l v
          by true = sym (in_front l v es (below cmp total l e.0 (keys_of es) is (sorted_head cmp e.0 (keys_of es) sorted)))
          by false = rw is refl
      by_order Equal is more = rw (elsewhere cmp total k l e.0 apart is, is) refl
      by_order Greater is more = by (is_eq (cmp k e.0))
        where
          by : (b : Bool) → cond b (insert_entry cmp es l v) (e ∷ remove_entry (is_at (cmp k)) (insert_entry cmp es l v)) ≡ insert_entry cmp (cond b es (e ∷ remove_entry (is_at (cmp k)) es)) l v
          by true = refl
          by false = rw (is, more) refl

  -- what was put is written anew
  pub put_and_set : (k : K) (v w : X) (es : List (K × X)) → insert_entry cmp es k w ≡ set_value (is_at (cmp k)) (insert_entry cmp es k v) w
  put_and_set k v w [] = rw (tied_itself total k) refl
  put_and_set k v w (e ∷ es) = by_order (cmp k e.0) refl (put_and_set k v w es)
    where
      by_order : (o : Ordering) → cmp k e.0 ≡ o → insert_entry cmp es k w ≡ set_value (is_at (cmp k)) (insert_entry cmp es k v) w →
          match_ordering o ((k, w) ∷ e ∷ es) ((e.0, w) ∷ es) (e ∷ insert_entry cmp es k w) ≡
          set_value (is_at (cmp k)) (match_ordering o ((k, v) ∷ e ∷ es) ((e.0, v) ∷ es) (e ∷ insert_entry cmp es k v)) w
      by_order Less is more = rw (tied_itself total k) refl
      by_order Equal is more = rw is refl
      by_order Greater is more = rw is (ap (λ (l : List (K × X)). e ∷ l) more)

  -- another one is written, whether before or behind
  pub set_past : (k l : K) (v w : X) (es : List (K × X)) → is_eq (cmp k l) ≡ false → insert_entry cmp (set_value (is_at (cmp k)) es w) l v ≡ set_value (is_at (cmp k)) (insert_entry cmp es l v) w
  set_past k l v w [] apart = rw apart refl
  set_past k l v w (e ∷ es) apart = by_order (cmp l e.0) refl (set_past k l v w es apart)
    where
      by_order : (o : Ordering) → cmp l e.0 ≡ o → insert_entry cmp (set_value (is_at (cmp k)) es w) l v ≡ set_value (is_at (cmp k)) (insert_entry cmp es l v) w →
          insert_entry cmp (cond (is_eq (cmp k e.0)) ((e.0, w) ∷ es) (e ∷ set_value (is_at (cmp k)) es w)) l v ≡
          set_value (is_at (cmp k)) (match_ordering o ((l, v) ∷ e ∷ es) ((e.0, v) ∷ es) (e ∷ insert_entry cmp es l v)) w
      by_order Less is more = rw apart (by (is_eq (cmp k e.0)))
        where
          by : (b : Bool) → insert_entry cmp (cond b ((e.0, w) ∷ es) (e ∷ set_value (is_at (cmp k)) es w)) l v ≡ (l, v) ∷ cond b ((e.0, w) ∷ es) (e ∷ set_value (is_at (cmp k)) es w)
          by true = rw is refl
          by false = rw is refl
      by_order Equal is more = rw (elsewhere cmp total k l e.0 apart is, is) refl
      by_order Greater is more = by (is_eq (cmp k e.0))
        where
          by : (b : Bool) → insert_entry cmp (cond b ((e.0, w) ∷ es) (e ∷ set_value (is_at (cmp k)) es w)) l v ≡ cond b ((e.0, w) ∷ insert_entry cmp es l v) (e ∷ set_value (is_at (cmp k)) (insert_entry cmp es l v) w)
          by true = rw is refl
          by false = rw is (ap (λ (m : List (K × X)). e ∷ m) more)

  pub keys_set : (k : K) (w : X) (es : List (K × X)) → keys_of (set_value (is_at (cmp k)) es w) ≡ keys_of es
  keys_set k w [] = refl
  keys_set k w (e ∷ es) = by (is_eq (cmp k e.0)) (keys_set k w es)
    where
      by : (b : Bool) → keys_of (set_value (is_at (cmp k)) es w) ≡ keys_of es → keys_of (cond b ((e.0, w) ∷ es) (e ∷ set_value (is_at (cmp k)) es w)) ≡ e.0 ∷ keys_of es
      by true more = refl
      by false more = ap (λ (ks : List K). e.0 ∷ ks) more

  pub set_same : (k : K) (v w : X) (es : List (K × X)) → lookup (is_at (cmp k)) es ≡ Some v → lookup (is_at (cmp k)) (set_value (is_at (cmp k)) es w) ≡ Some w
  set_same k v w [] at = absurd (none-some v at)
  set_same k v w (e ∷ es) at = by (is_at (cmp k) e.0) refl at (set_same k v w es)
    where
      by : (b : Bool) → is_at (cmp k) e.0 ≡ b → cond b (Some e.1) (lookup (is_at (cmp k)) es) ≡ Some v →
          (lookup (is_at (cmp k)) es ≡ Some v → lookup (is_at (cmp k)) (set_value (is_at (cmp k)) es w) ≡ Some w) →
          lookup (is_at (cmp k)) (cond b ((e.0, w) ∷ es) (e ∷ set_value (is_at (cmp k)) es w)) ≡ Some w
      by true is at more = rw is refl
      by false is at more = rw is (more at)

  pub set_other : (k q : K) (w : X) (es : List (K × X)) → is_eq (cmp q k) ≡ false → lookup (is_at (cmp q)) (set_value (is_at (cmp k)) es w) ≡ lookup (is_at (cmp q)) es
  set_other k q w [] apart = refl
  set_other k q w (e ∷ es) apart = by_order (cmp k e.0) refl (set_other k q w es apart)
    where
      by_order : (o : Ordering) → cmp k e.0 ≡ o → lookup (is_at (cmp q)) (set_value (is_at (cmp k)) es w) ≡ lookup (is_at (cmp q)) es →
          lookup (is_at (cmp q)) (cond (is_eq o) ((e.0, w) ∷ es) (e ∷ set_value (is_at (cmp k)) es w)) ≡ cond (is_eq (cmp q e.0)) (Some e.1) (lookup (is_at (cmp q)) es)
      by_order Less is more = ap (λ (o : Option X). cond (is_eq (cmp q e.0)) (Some e.1) o) more
      by_order Equal is more = rw (elsewhere cmp total q k e.0 apart is) refl
      by_order Greater is more = ap (λ (o : Option X). cond (is_eq (cmp q e.0)) (Some e.1) o) more

pub by_number_total : IsTotalOrder by_number
by_number_total = record {
  antisymm = λ x y. nat_cmp_total.antisymm x.0 y.0;
  trans = λ x y z. nat_cmp_total.trans x.0 y.0 z.0;
  congr = λ x y z. nat_cmp_total.congr x.0 y.0 z.0;
}

-- ---- the newest beside the map
-- another call is not that of the newest
apart_at : (call key : CallNo) → (key.0 == call.0) ≡ false → is_at (by_number call) key ≡ false
apart_at call key e = is_apart call key (other_call key call e)

module _ {V : Type 0} where
  pub find_newest : (call : CallNo) (newest : Option (CallNo × V)) (kept : List (CallNo × V)) → is_newest newest call ≡ true → newest_value newest ≡ kept_for (all_kept newest kept) call
  find_newest call None kept is = absurd (false≢true is)
  find_newest call (Some entry) kept is = rw (sym (same_call entry.0 call is)) (sym (found_same by_number by_number_total entry.0 entry.1 kept))

  pub find_kept : (call : CallNo) (newest : Option (CallNo × V)) (kept : List (CallNo × V)) → is_newest newest call ≡ false → kept_for kept call ≡ kept_for (all_kept newest kept) call
  find_kept call None kept not = refl
  find_kept call (Some entry) kept not = sym (found_other by_number by_number_total entry.0 call entry.1 kept (apart_at call entry.0 not))

  -- ---- the newest is taken out
  pub without_newest : (call : CallNo) (newest : Option (CallNo × V)) (kept : List (CallNo × V)) → is_newest newest call ≡ true → AreApart newest kept → kept ≡ kept_without (all_kept newest kept) call
  without_newest call None kept is both = absurd (false≢true is)
  without_newest call (Some entry) kept is both = rw (sym (same_call entry.0 call is)) (sym (put_and_taken by_number by_number_total entry.0 entry.1 kept (both.apart entry refl)))

  pub newest_gone : (call : CallNo) (newest : Option (CallNo × V)) (kept : List (CallNo × V)) → is_newest newest call ≡ true → AreApart newest kept → kept_for kept call ≡ None
  newest_gone call None kept is both = absurd (false≢true is)
  newest_gone call (Some entry) kept is both = rw (sym (same_call entry.0 call is)) (both.apart entry refl)

  -- another one is
  pub without_kept : (call : CallNo) (newest : Option (CallNo × V)) (kept : List (CallNo × V)) → is_newest newest call ≡ false → AreApart newest kept
      → all_kept newest (kept_without kept call) ≡ kept_without (all_kept newest kept) call
  without_kept call None kept not both = refl
  without_kept call (Some entry) kept not both = sym (taken_past by_number by_number_total call entry.0 entry.1 kept (apart_at call entry.0 not) both.rises)

  -- ---- all others
  pub others_left : (call : CallNo) (old new : List (CallNo × V)) → new ≡ kept_without old call → AreOthersSame call (kept_for old) (kept_for new)
  others_left call old new is other apart = ap (λ (l : List (CallNo × V)). kept_for l other) is ∙ left_other by_number by_number_total call other old (is_apart other call (λ e. apart (sym e)))

  pub others_kept : (call : CallNo) (value : V) (old : List (CallNo × V)) → AreOthersSame call (kept_for old) (kept_for (kept_with old call value))
  others_kept call value old other apart = found_other by_number by_number_total call other value old (is_apart other call (λ e. apart (sym e)))

  pub is_kept : (call : CallNo) (value : V) (old : List (CallNo × V)) → kept_for (kept_with old call value) call ≡ Some value
  is_kept call value old = found_same by_number by_number_total call value old

  -- ---- the invariant
  pub with_none : (newest : Option (CallNo × V)) (kept : List (CallNo × V)) → newest ≡ None → IsStrictlySortedBy by_number (keys_of kept) → AreApart newest kept
  with_none newest kept none rises = record { rises = rises; apart = λ entry e. absurd (none-some entry (sym none ∙ e)) }

  -- no other call's number is that of the newest
  aside : (call : CallNo) (newest : Option (CallNo × V)) (entry : CallNo × V) → is_newest newest call ≡ false → newest ≡ Some entry → is_at (by_number entry.0) call ≡ false
  aside call newest entry not e = is_apart entry.0 call (λ same. other_call entry.0 call (sym (ap (λ n. is_newest n call) e) ∙ not) (sym same))

  pub with_fewer : (call : CallNo) (newest : Option (CallNo × V)) (kept : List (CallNo × V)) → is_newest newest call ≡ false → AreApart newest kept → IsStrictlySortedBy by_number (keys_of (kept_without kept call)) → AreApart newest (kept_without kept call)
  with_fewer call newest kept not both rises = record {
    rises = rises;
    apart = λ entry e. left_other by_number by_number_total call entry.0 kept (aside call newest entry not e) ∙ both.apart entry e;
  }

  -- ---- what is written in place
  pub newest_written : (call : CallNo) (entry : CallNo × V) (kept : List (CallNo × V)) (w : V) → (entry.0.0 == call.0) ≡ true → kept_with kept entry.0 w ≡ kept_at (kept_with kept entry.0 entry.1) call w
  newest_written call entry kept w is = rw (sym (same_call entry.0 call is)) (put_and_set by_number by_number_total entry.0 entry.1 w kept)

  pub kept_written : (call : CallNo) (newest : Option (CallNo × V)) (kept : List (CallNo × V)) (w : V) → is_newest newest call ≡ false → all_kept newest (kept_at kept call w) ≡ kept_at (all_kept newest kept) call w
  kept_written call None kept w not = refl
  kept_written call (Some entry) kept w not = set_past by_number by_number_total call entry.0 entry.1 w kept (apart_at call entry.0 not)

  pub is_written : (call : CallNo) (v w : V) (old : List (CallNo × V)) → kept_for old call ≡ Some v → kept_for (kept_at old call w) call ≡ Some w
  is_written call v w old at = set_same by_number by_number_total call v w old at

  pub others_written : (call : CallNo) (w : V) (old : List (CallNo × V)) → AreOthersSame call (kept_for old) (kept_for (kept_at old call w))
  others_written call w old other apart = set_other by_number by_number_total call other w old (is_apart other call (λ e. apart (sym e)))

  pub with_kept_written : (call : CallNo) (newest : Option (CallNo × V)) (kept : List (CallNo × V)) (w : V) → is_newest newest call ≡ false → AreApart newest kept → AreApart newest (kept_at kept call w)
  with_kept_written call newest kept w not both = record {
    rises = rw (keys_set by_number by_number_total call w kept) both.rises;
    apart = λ entry e. set_other by_number by_number_total call entry.0 w kept (aside call newest entry not e) ∙ both.apart entry e;
  }

-- two functions that agree say the same of what was lent
pub lent_same : {N A B C : Type 0} (name : N) (f g : A → B) → ((a : A) → f a ≡ g a) → ◌≡◌ {A = (N × (A → B)) ⊎ C} (inl (name, f)) (inl (name, g))
lent_same name f g same = λ t. inl (name, λ a. same a t)
