-- The first that may run is the least node that may.
use Rattle.std.proofs.Common.{◌≡◌, ℕ, ◌<◌, ◌≤◌, Bool, true, false, not, cond, List, [], ◌∷◌, Option, Some, None, Result, nat_le, nat_lt, nat_eq, refl, sym, ◌∙◌, inl, inr, ⊎_elim, arith, le_refl}
use Rattle.std.specs.List.{AllByRecursion}
use Rattle.std.specs.Map.{keys_of}
use Rattle.std.specs.declared.cmp.Ordering.TheVariants.{Less, Equal, Greater}
use Rattle.std.specs.Ordering.{nat_cmp}
use Rattle.std.specs.List.Sorted.{IsStrictlySortedBy}
use Rattle.std.proofs.lemmas.Map.Keys.{sorted_head, sorted_tail}
use Rattle.std.proofs.lemmas.Bool.{and_parts, and_cases, leb-true, leb-false, ltb-true, not-true, not-false, false≢true}
use Rattle.hk_base.specs.declared.stamp.NodeId.{NodeId}
use Rattle.hk_base.specs.declared.view.View.{View}
use Rattle.hk_lease.specs.declared.grants.NotPast.{NotPast}
use Rattle.hk_lease.specs.Grants.{by_number}
use Rattle.hk_lease.specs.Past.{may_run, first_running, past_or, past_answer, Among, IsAllPast}
use Rattle.hk_base.specs.View.{is_member}

abbrev grants_type : Type 0
grants_type = List (NodeId × ℕ)

-- an end that can't run, of a node outside, is below now
cannot : (view : View) (now : ℕ) (e : NodeId × ℕ) → may_run view now e ≡ false → is_member e.0 view.members ≡ false → e.1 < now
cannot view now e h out = ⊎_elim
    (λ (low : nat_le now e.1 ≡ false). leb-false now e.1 low)
    (λ (k : not (is_member e.0 view.members) ≡ false). absurd (false≢true (sym out ∙ not-false (is_member e.0 view.members) k))) (and_cases (nat_le now e.1) (not (is_member e.0 view.members)) h)

none_runs : (grants : grants_type) (view : View) (now : ℕ) → first_running grants view now ≡ None → AllByRecursion (λ g. is_member g.0 view.members ≡ false → g.1 < now) grants
none_runs [] view now h = tt
none_runs (e ∷ es) view now h = at (may_run view now e) refl h (none_runs es view now)
  where
    at : (b : Bool) → may_run view now e ≡ b → cond b (Some e) (first_running es view now) ≡ None → (first_running es view now ≡ None → AllByRecursion (λ g. is_member g.0 view.members ≡ false → g.1 < now) es) →
        AllByRecursion (λ g. is_member g.0 view.members ≡ false → g.1 < now) (e ∷ es)
    at true test k ih = absurd cc
    at false test k ih = (cannot view now e test, ih k)

less_than : (x y : ℕ) → nat_cmp x y ≡ Less → x ≤ y
less_than x y h = at (nat_lt x y) refl h
  where
    at : (b : Bool) → nat_lt x y ≡ b → cond b Less (cond (nat_eq x y) Equal Greater) ≡ Less → x ≤ y
    at true e k = omega (arith, ltb-true x y e)
    at false e k = below (nat_eq x y) k
      where
        below : (c : Bool) → cond c Equal Greater ≡ Less → x ≤ y
        below true l = absurd cc
        below false l = absurd cc

all_later : (node : NodeId) (grants : grants_type) (view : View) (now : ℕ) → AllByRecursion (λ (y : NodeId). nat_cmp node.0 y.0 ≡ Less) (keys_of grants) → AllByRecursion (λ g. is_member g.0 view.members ≡ false → now ≤ g.1 → node.0 ≤ g.0.0) grants
all_later node [] view now h = tt
all_later node (e ∷ es) view now h = (λ out runs. less_than node.0 e.0.0 h.0, all_later node es view now h.1)

record First (grants : grants_type) (view : View) (now : ℕ) (x : NodeId × ℕ) : Type 0 where
  among : Among grants x
  out : is_member x.0 view.members ≡ false
  runs : now ≤ x.1
  lowest : AllByRecursion (λ g. is_member g.0 view.members ≡ false → now ≤ g.1 → x.0.0 ≤ g.0.0) grants

first_is : (grants : grants_type) (view : View) (now : ℕ) (x : NodeId × ℕ) → IsStrictlySortedBy by_number (keys_of grants) → first_running grants view now ≡ Some x → First grants view now x
first_is [] view now x rising h = absurd cc
first_is (e ∷ es) view now x rising h = at (may_run view now e) refl h (first_is es view now x (sorted_tail by_number e.0 (keys_of es) rising))
  where
    at : (b : Bool) → may_run view now e ≡ b → cond b (Some e) (first_running es view now) ≡ Some x → (first_running es view now ≡ Some x → First es view now x) → First (e ∷ es) view now x
    at true test k ih =
        let same : e ≡ x = cc in
        let parts = and_parts (nat_le now e.1) (not (is_member e.0 view.members)) test in
        rw (← same) (record {
          among = inl refl;
          out = not-true (is_member e.0 view.members) parts.1;
          runs = leb-true now e.1 parts.0;
          lowest = (λ out runs. le_refl e.0.0, all_later e.0 es view now (sorted_head by_number e.0 (keys_of es) rising));
        })
    at false test k ih =
        let f = ih k in
        record { among = inr f.among; out = f.out; runs = f.runs; lowest = (λ out runs. let c = cannot view now e test out in absurd (omega arith), f.lowest) }

pub least : (answer : Result Unit NotPast) (grants : grants_type) (view : View) (now : ℕ) → IsStrictlySortedBy by_number (keys_of grants) → answer ≡ past_answer grants view now → IsAllPast answer grants view now
least answer grants view now rising h = rw h (at (first_running grants view now) refl)
  where
    at : (o : Option (NodeId × ℕ)) → first_running grants view now ≡ o → IsAllPast (past_or o) grants view now
    at None e = none_runs grants view now e
    at (Some x) e = let f = first_is grants view now x rising e in (f.among, f.out, f.runs, f.lowest)
