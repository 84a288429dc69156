-- What was granted, after one more grant, and where nothing outside a view may run.
use Rattle.std.proofs.Common.{◌≡◌, ◌≢◌, ◌⊎◌, ℕ, ◌<◌, ◌≤◌, Bool, true, false, not, cond, List, [], ◌∷◌, Option, Some, None, Ok, unwrap_or, max, nat_le, nat_eq, refl, sym, ap, ◌∙◌, ⊎_elim, arith, le_refl}
use Rattle.std.specs.declared.cmp.Ordering.{Ordering}
use Rattle.std.specs.declared.cmp.Ordering.TheVariants.{Less, Equal, Greater}
use Rattle.std.specs.Ordering.{nat_cmp, match_ordering, is_eq}
use Rattle.std.specs.BTreeMap.{insert_entry, is_at}
use Rattle.std.specs.Map.{lookup}
use Rattle.std.specs.List.{list_any}
use Rattle.std.proofs.lemmas.Bool.{cases_order, lt-ltb, le-ltb, eq-eqb, ne_eqb, leb-false, and_cases, false≢true}
use Rattle.hk_base.specs.declared.stamp.NodeId.{NodeId}
use Rattle.hk_base.specs.declared.view.View.{View}
use Rattle.hk_lease.specs.Grants.{by_number, until_of, with_grant}
use Rattle.hk_lease.specs.Past.{may_run, first_running, past_or, past_answer}
use Rattle.hk_base.specs.View.{is_member}

same_at : (x y : ℕ) → x ≡ y → is_eq (nat_cmp x y) ≡ true
same_at x y e = rw (e, le-ltb y y (le_refl y), eq-eqb y y refl) refl

other_at : (x y : ℕ) → x ≢ y → is_eq (nat_cmp x y) ≡ false
other_at x y d = ⊎_elim (λ (e : x ≡ y). absurd (d e))
    (λ (o : (x < y) ⊎ (y < x)). ⊎_elim (λ (l : x < y). rw (lt-ltb x y l) refl) (λ (g : y < x). rw (le-ltb x y (omega arith), ne_eqb x y d) refl) o) (cases_order x y)

equal_numbers : (x y : ℕ) → nat_cmp x y ≡ Equal → x ≡ y
equal_numbers x y h = ⊎_elim (λ (e : x ≡ y). e) (λ (o : (x < y) ⊎ (y < x)). let d : x ≢ y = λ e. ⊎_elim (λ (l : x < y). absurd (omega arith)) (λ (g : y < x). absurd (omega arith)) o in absurd (false≢true (sym (other_at x y d) ∙ ap is_eq h))) (cases_order x y)

abbrev find_until : List (NodeId × ℕ) → NodeId → Option ℕ
find_until grants node = lookup (is_at (by_number node)) grants

put_same : (grants : List (NodeId × ℕ)) (k : NodeId) (v : ℕ) → find_until (insert_entry by_number grants k v) k ≡ Some v
put_same [] k v = rw (same_at k.0 k.0 refl) refl
put_same (e ∷ es) k v = at (nat_cmp k.0 e.0.0) refl (put_same es k v)
  where
    at : (o : Ordering) → nat_cmp k.0 e.0.0 ≡ o → find_until (insert_entry by_number es k v) k ≡ Some v → find_until (match_ordering o ((k, v) ∷ e ∷ es) ((e.0, v) ∷ es) (e ∷ insert_entry by_number es k v)) k ≡ Some v
    at Less is ih = rw (same_at k.0 k.0 refl) refl
    at Equal is ih = rw is refl
    at Greater is ih = rw is ih

put_other : (grants : List (NodeId × ℕ)) (k : NodeId) (v : ℕ) (node : NodeId) → node.0 ≢ k.0 → find_until (insert_entry by_number grants k v) node ≡ find_until grants node
put_other [] k v node d = rw (other_at node.0 k.0 d) refl
put_other (e ∷ es) k v node d = at (nat_cmp k.0 e.0.0) refl (put_other es k v node d)
  where
    at : (o : Ordering) → nat_cmp k.0 e.0.0 ≡ o → find_until (insert_entry by_number es k v) node ≡ find_until es node → find_until (match_ordering o ((k, v) ∷ e ∷ es) ((e.0, v) ∷ es) (e ∷ insert_entry by_number es k v)) node ≡ find_until (e ∷ es) node
    at Less is ih = rw (other_at node.0 k.0 d) refl
    at Equal is ih = let off : node.0 ≢ e.0.0 = λ s. d (s ∙ sym (equal_numbers k.0 e.0.0 is)) in rw (other_at node.0 e.0.0 off) refl
    at Greater is ih = ap (λ (o : Option ℕ). cond (is_eq (nat_cmp node.0 e.0.0)) (Some e.1) o) ih

pub granted_other : (grants : List (NodeId × ℕ)) (k : NodeId) (v : ℕ) (node : NodeId) → node.0 ≢ k.0 → until_of (with_grant grants k v) node ≡ until_of grants node
granted_other grants k v node d = ap (λ (o : Option ℕ). unwrap_or o 0) (put_other grants k (max (until_of grants k) v) node d)

pub granted_same : (grants : List (NodeId × ℕ)) (k : NodeId) (v : ℕ) → until_of (with_grant grants k v) k ≡ max (until_of grants k) v
granted_same grants k v = ap (λ (o : Option ℕ). unwrap_or o 0) (put_same grants k (max (until_of grants k) v))

none_left : (b : Bool) (x : NodeId × ℕ) (o : Option (NodeId × ℕ)) → cond b (Some x) o ≡ None → (b ≡ false) × (o ≡ None)
none_left true x o h = absurd cc
none_left false x o h = (refl, h)

-- where nothing outside the view may run, the end of a node outside is below now
quiet : (grants : List (NodeId × ℕ)) (view : View) (now : ℕ) (node : NodeId) → first_running grants view now ≡ None → is_member node view.members ≡ false → 1 ≤ now → until_of grants node < now
quiet [] view now node none out some = omega arith
quiet (e ∷ es) view now node none out some =
    let split = none_left (may_run view now e) e (first_running es view now) none in
    at split.0 (quiet es view now node split.1 out some) (nat_cmp node.0 e.0.0) refl
  where
    at : may_run view now e ≡ false → until_of es node < now → (o : Ordering) → nat_cmp node.0 e.0.0 ≡ o → unwrap_or (cond (is_eq o) (Some e.1) (find_until es node)) 0 < now
    at test rest Less is = rest
    at test rest Greater is = rest
    at test rest Equal is =
        let n : list_any (λ (member : NodeId). nat_eq member.0 e.0.0) view.members ≡ false = rw (equal_numbers node.0 e.0.0 is) at out in
        ⊎_elim
        (λ (low : nat_le now e.1 ≡ false). leb-false now e.1 low)
        (λ (high : not (is_member e.0 view.members) ≡ false). let k : not false ≡ false = rw n at high in absurd (false≢true (sym k))) (and_cases (nat_le now e.1) (not (is_member e.0 view.members)) test)

pub past : (grants : List (NodeId × ℕ)) (view : View) (now : ℕ) (node : NodeId) → past_answer grants view now ≡ Ok tt → is_member node view.members ≡ false → 1 ≤ now → until_of grants node < now
past grants view now node ok out some = quiet grants view now node (at (first_running grants view now) ok) out some
  where
    at : (o : Option (NodeId × ℕ)) → past_or o ≡ Ok tt → o ≡ None
    at None h = refl
    at (Some grant) h = absurd cc
