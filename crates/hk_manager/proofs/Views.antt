-- A view that is changed is a view.
use Rattle.std.proofs.Common.{◌≡◌, ◌≢◌, ◌==◌, ◌++◌, ◌+◌, ◌<◌, ◌≤◌, ℕ, Bool, true, false, cond, not, nat_le, nat_eq, List, [], ◌∷◌, length, Some, None, refl, ap, subst, arith}
use Rattle.std.specs.declared.cmp.Ordering.TheVariants.{Less, Equal}
use Rattle.std.specs.Ordering.{nat_cmp}
use Rattle.std.specs.List.{AllByRecursion, filter}
use Rattle.std.specs.List.Sorted.{IsStrictlySortedBy}
use Rattle.std.proofs.lemmas.Bool.{lt-ltb, eqb-true, eqb-false, leb-false}
use Rattle.std.proofs.lemmas.Cmp.{nat_cmp_total, tied_itself}
use Rattle.std.proofs.lemmas.List.{length_push}
use Rattle.std.proofs.lemmas.List.Elements.{All-from_recursion, recursion_from_All}
use Rattle.std.proofs.lemmas.Map.Keys.{sorted_head, sorted_tail, sorted_from_strictly_increasing, IsStrictlyIncreasing-from_sorted}
use Rattle.hk_base.specs.declared.stamp.NodeId.{NodeId}
use Rattle.hk_base.specs.declared.view.View.{View}
use Rattle.hk_base.specs.declared.view.Change.{Change}
use Rattle.hk_base.specs.declared.view.Change.TheVariants.{Drop, Add}
use Rattle.hk_base.specs.View.{IsView, member_numbers, is_member}
use Rattle.hk_manager.specs.declared.fault.ManagerFault.TheVariants.{NoSuchMember, LastMember, Full, NoNumbers}
use Rattle.hk_manager.specs.Changes.{changed, change_fault}

module _ {X : Type 0} where
  pub all_append : (P : X → Type 0) (xs ys : List X) → AllByRecursion P xs → AllByRecursion P ys → AllByRecursion P (xs ++ ys)
  all_append P [] ys p q = q
  all_append P (x ∷ xs) ys p q = (p.0, all_append P xs ys p.1 q)

  all_filter : (P : X → Type 0) (p : X → Bool) (xs : List X) → AllByRecursion P xs → AllByRecursion P (filter p xs)
  all_filter P p [] all = tt
  all_filter P p (x ∷ xs) all = at (p x) (all_filter P p xs all.1)
    where
      at : (b : Bool) → AllByRecursion P (filter p xs) → AllByRecursion P (cond b (x ∷ filter p xs) (filter p xs))
      at true ih = (all.0, ih)
      at false ih = ih

apart : (a b : ℕ) → nat_cmp a b ≡ Less → nat_eq b a ≡ false
apart a b less = at (nat_eq b a) refl
  where
    at : (t : Bool) → nat_eq b a ≡ t → t ≡ false
    at false e = refl
    at true e =
        let same : b ≡ a = eqb-true b a e in
        let tied : nat_cmp a b ≡ Equal = rw same (tied_itself nat_cmp_total a) in
        absurd cc

abbrev Rises : List NodeId → Type 0
Rises members = IsStrictlySortedBy nat_cmp (member_numbers members)

sorted_cons : (n : ℕ) (ns : List ℕ) → AllByRecursion (λ y. nat_cmp n y ≡ Less) ns → IsStrictlySortedBy nat_cmp ns → IsStrictlySortedBy nat_cmp (n ∷ ns)
unfolding IsStrictlySortedBy
sorted_cons n ns all sorted = (all, sorted)

sorted_nil : IsStrictlySortedBy nat_cmp []
unfolding IsStrictlySortedBy
sorted_nil = tt

above_filter : (n : ℕ) (p : NodeId → Bool) (ms : List NodeId) → AllByRecursion (λ y. nat_cmp n y ≡ Less) (member_numbers ms) → AllByRecursion (λ y. nat_cmp n y ≡ Less) (member_numbers (filter p ms))
above_filter n p [] all = tt
above_filter n p (m ∷ ms) all = at (p m) (above_filter n p ms all.1)
  where
    at : (b : Bool) → AllByRecursion (λ y. nat_cmp n y ≡ Less) (member_numbers (filter p ms)) → AllByRecursion (λ y. nat_cmp n y ≡ Less) (member_numbers (cond b (m ∷ filter p ms) (filter p ms)))
    at true ih = (all.0, ih)
    at false ih = ih

rises_filter : (p : NodeId → Bool) (ms : List NodeId) → Rises ms → Rises (filter p ms)
rises_filter p [] rises = rises
rises_filter p (m ∷ ms) rises = at (p m) (rises_filter p ms (sorted_tail nat_cmp m.0 (member_numbers ms) rises))
  where
    at : (b : Bool) → Rises (filter p ms) → Rises (cond b (m ∷ filter p ms) (filter p ms))
    at true ih = sorted_cons m.0 (member_numbers (filter p ms)) (above_filter m.0 p ms (sorted_head nat_cmp m.0 (member_numbers ms) rises)) ih
    at false ih = ih

-- the numbers above n are none of them n
keeps_above : (n : ℕ) (ms : List NodeId) → AllByRecursion (λ y. nat_cmp n y ≡ Less) (member_numbers ms) → filter (λ (m : NodeId). not (m.0 == n)) ms ≡ ms
keeps_above n [] all = refl
keeps_above n (m ∷ ms) all = rw (apart n m.0 all.0) (ap (λ (l : List NodeId). m ∷ l) (keeps_above n ms all.1))

one_leaves : (n : ℕ) (ms : List NodeId) → Rises ms → length ms ≤ length (filter (λ (m : NodeId). not (m.0 == n)) ms) + 1
one_leaves n [] rises = omega arith
one_leaves n (m ∷ ms) rises = at (m.0 == n) refl (one_leaves n ms (sorted_tail nat_cmp m.0 (member_numbers ms) rises))
  where
    at : (b : Bool) → (m.0 == n) ≡ b → length ms ≤ length (filter (λ (k : NodeId). not (k.0 == n)) ms) + 1 →
        length (m ∷ ms) ≤ length (cond (not b) (m ∷ filter (λ (k : NodeId). not (k.0 == n)) ms) (filter (λ (k : NodeId). not (k.0 == n)) ms)) + 1
    at false e ih = omega arith
    at true e ih =
        let same : m.0 ≡ n = eqb-true m.0 n e in
        let kept : filter (λ (k : NodeId). not (k.0 == n)) ms ≡ ms = keeps_above n ms (subst (λ (x : ℕ). AllByRecursion (λ y. nat_cmp x y ≡ Less) (member_numbers ms)) same (sorted_head nat_cmp m.0 (member_numbers ms) rises)) in
        rw kept (omega arith)

filter_short : (p : NodeId → Bool) (ms : List NodeId) → length (filter p ms) ≤ length ms
filter_short p [] = omega arith
filter_short p (m ∷ ms) = at (p m) (filter_short p ms)
  where
    at : (b : Bool) → length (filter p ms) ≤ length ms → length (cond b (m ∷ filter p ms) (filter p ms)) ≤ length (m ∷ ms)
    at true ih = omega arith
    at false ih = omega arith

pub dropped_view : (view : View) (id : NodeId) → IsView view → (length view.members ≡ 1 → ⊥) → IsView (changed view (Drop id))
dropped_view view id is many =
    let rises : Rises view.members = sorted_from_strictly_increasing (member_numbers view.members) is.rising in
    let gone = one_leaves id.0 view.members rises in
    let short = filter_short (λ (m : NodeId). not (m.0 == id.0)) view.members in
    record {
      some = at (length view.members) refl;
      few = omega (arith, is.few);
      rising = IsStrictlyIncreasing-from_sorted _ (rises_filter (λ (m : NodeId). not (m.0 == id.0)) view.members rises);
      below = All-from_recursion _ _ (all_filter (λ (m : NodeId). m.0 < view.next) (λ (m : NodeId). not (m.0 == id.0)) view.members (recursion_from_All _ view.members is.below));
      next = is.next;
    }
  where
    at : (n : ℕ) → length view.members ≡ n → 1 ≤ length (filter (λ (m : NodeId). not (m.0 == id.0)) view.members)
    at n e =
        let some = is.some in
        let gone = one_leaves id.0 view.members (sorted_from_strictly_increasing (member_numbers view.members) is.rising) in
        let apart_from_one : length view.members ≢ 1 = many in
        omega arith

above_push : (n : ℕ) (ms : List NodeId) (last : NodeId) → AllByRecursion (λ y. nat_cmp n y ≡ Less) (member_numbers ms) → nat_cmp n last.0 ≡ Less → AllByRecursion (λ y. nat_cmp n y ≡ Less) (member_numbers (ms ++ last ∷ []))
above_push n [] last all less = (less, tt)
above_push n (m ∷ ms) last all less = (all.0, above_push n ms last all.1 less)

less_below : (a b : ℕ) → a < b → nat_cmp a b ≡ Less
less_below a b l = rw (lt-ltb a b l) refl

rises_push : (ms : List NodeId) (last : NodeId) → Rises ms → AllByRecursion (λ (m : NodeId). m.0 < last.0) ms → Rises (ms ++ last ∷ [])
rises_push [] last rises all = sorted_cons last.0 [] tt sorted_nil
rises_push (m ∷ ms) last rises all =
    sorted_cons m.0 (member_numbers (ms ++ last ∷ [])) (above_push m.0 ms last (sorted_head nat_cmp m.0 (member_numbers ms) rises) (less_below m.0 last.0 all.0)) (rises_push ms last (sorted_tail nat_cmp m.0 (member_numbers ms) rises) all.1)

below_more : (ms : List NodeId) (n : ℕ) → AllByRecursion (λ (m : NodeId). m.0 < n) ms → AllByRecursion (λ (m : NodeId). m.0 < n + 1) ms
below_more [] n all = tt
below_more (m ∷ ms) n all = let h = all.0 in (omega arith, below_more ms n all.1)

pub added_view : (view : View) → IsView view → length view.members < 16 → view.next < 65536 → IsView (changed view Add)
added_view view is few numbers =
    let below : AllByRecursion (λ (m : NodeId). m.0 < view.next) view.members = recursion_from_All _ view.members is.below in
    let longer : length (view.members ++ record { 0 = view.next } ∷ []) ≡ length view.members + 1 = length_push view.members (record { 0 = view.next }) in
    record {
      some = rw longer (omega arith);
      few = rw longer (omega arith);
      rising = IsStrictlyIncreasing-from_sorted _ (rises_push view.members (record { 0 = view.next }) (sorted_from_strictly_increasing _ is.rising) below);
      below = All-from_recursion _ _ (all_append (λ (m : NodeId). m.0 < view.next + 1) view.members (record { 0 = view.next } ∷ []) (below_more view.members view.next below) (omega arith, tt));
      next = omega arith;
    }

drop_fault : (view : View) (node : NodeId) (b d : Bool) → cond b (cond d (Some LastMember) None) (Some NoSuchMember) ≡ None → d ≡ false
drop_fault view node true true h = absurd cc
drop_fault view node true false h = refl
drop_fault view node false d h = absurd cc

add_fault : (b d : Bool) → cond b (Some Full) (cond d (Some NoNumbers) None) ≡ None → (b ≡ false) × (d ≡ false)
add_fault true d h = absurd cc
add_fault false true h = absurd cc
add_fault false false h = (refl, refl)

-- a change that may be gives a view
pub changed_view : (view : View) (change : Change) → IsView view → change_fault view change ≡ None → IsView (changed view change)
changed_view view (Drop node) is possible = dropped_view view node is (eqb-false _ 1 (drop_fault view node (is_member node view.members) (length view.members == 1) possible))
changed_view view Add is possible =
    let tests = add_fault (nat_le 16 (length view.members)) (nat_le 65536 view.next) possible in
    added_view view is (leb-false 16 _ tests.0) (leb-false 65536 _ tests.1)

-- there is a number for the node that is added
pub number_left : (view : View) → change_fault view Add ≡ None → view.next < 65536
number_left view possible = leb-false 65536 _ (add_fault (nat_le 16 (length view.members)) (nat_le 65536 view.next) possible).1
