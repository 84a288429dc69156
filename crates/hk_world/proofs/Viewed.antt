-- The agreed views: the next one, and who was a member.
use Rattle.std.proofs.Common.{◌≡◌, ◌≢◌, ◌⊎◌, inl, inr, ⊎_elim, ◌&&◌, ◌==◌, ◌++◌, ◌+◌, ◌<◌, ◌≤◌, ℕ, zero, suc, Bool, true, false, cond, not, nat_lt, nat_eq, List, [], ◌∷◌, length, Option, Some, None, refl, sym, ap, subst, ◌∙◌, arith}
use Rattle.std.specs.declared.cmp.Ordering.TheVariants.{Less, Equal}
use Rattle.std.specs.Ordering.{nat_cmp}
use Rattle.std.specs.List.{AllByRecursion, list_any, filter, slice_get}
use Rattle.std.specs.List.Sorted.{IsStrictlySortedBy}
use Rattle.std.proofs.lemmas.Bool.{ltb-true, lt-ltb, le-ltb, eqb-true, eq-eqb, cases_lt, or_cases, or_left, or_right, and_parts, and_from, false≢true, false_from_ne_true}
use Rattle.std.proofs.lemmas.Cmp.{nat_cmp_total, tied_itself}
use Rattle.std.proofs.lemmas.List.{length_push}
use Rattle.std.proofs.lemmas.List.Folds.{list_any-append}
use Rattle.std.proofs.lemmas.List.Elements.{All-from_recursion, recursion_from_All}
use Rattle.std.proofs.lemmas.Map.Keys.{sorted_head, sorted_tail, sorted_from_strictly_increasing, IsStrictlyIncreasing-from_sorted}
use Rattle.std.specs.Cmp.{both_ways}
use Rattle.hk_base.specs.declared.stamp.NodeId.{NodeId}
use Rattle.hk_base.specs.declared.view.View.{View}
use Rattle.hk_base.specs.View.{IsView, member_numbers, is_member}
use Rattle.hk_world.specs.World.{numbered, last_view}
use Rattle.hk_world.specs.Steps.{was_member}
use Rattle.hk_world.specs.Sound.{AreViews}
use Rattle.hk_world.specs.Views.{dropped, added, given_before}

-- ---- what has a number
module _ {X : Type 0} where
  get_holds : (P : X → Type 0) (k : ℕ) (xs : List X) (x : X) → AllByRecursion P xs → slice_get xs k ≡ Some x → P x
  get_holds P k [] x all at = absurd cc
  get_holds P zero (y ∷ xs) x all at = let same : y ≡ x = cc in subst P same all.0
  get_holds P (suc k) (y ∷ xs) x all at = get_holds P k xs x all.1 at

  pub numbered_holds : (P : X → Type 0) (n : ℕ) (xs : List X) (x : X) → AllByRecursion P xs → numbered n xs ≡ Some x → P x
  numbered_holds P zero xs x all at = absurd cc
  numbered_holds P (suc k) xs x all at = get_holds P k xs x all at

  pub all_append : (P : X → Type 0) (xs ys : List X) → AllByRecursion P xs → AllByRecursion P ys → AllByRecursion P (xs ++ ys)
  all_append P [] ys p q = q
  all_append P (x ∷ xs) ys p q = (p.0, all_append P xs ys p.1 q)

  get_more : (k : ℕ) (xs : List X) (y x : X) → slice_get (xs ++ y ∷ []) k ≡ Some x → (slice_get xs k ≡ Some x) ⊎ ((k ≡ length xs) × (x ≡ y))
  get_more zero [] y x at = inr (refl, cc)
  get_more (suc k) [] y x at = absurd cc
  get_more zero (z ∷ xs) y x at = inl at
  get_more (suc k) (z ∷ xs) y x at = ⊎_elim (λ (h : slice_get xs k ≡ Some x). inl h) (λ (p : (k ≡ length xs) × (x ≡ y)). inr (ap suc p.0, p.1)) (get_more k xs y x at)

  -- behind one more item
  pub numbered_more : (n : ℕ) (xs : List X) (y x : X) → numbered n (xs ++ y ∷ []) ≡ Some x → (numbered n xs ≡ Some x) ⊎ ((n ≡ length xs + 1) × (x ≡ y))
  numbered_more zero xs y x at = absurd cc
  numbered_more (suc k) xs y x at = ⊎_elim (λ (h : slice_get xs k ≡ Some x). inl h) (λ (p : (k ≡ length xs) × (x ≡ y)). inr (ap suc p.0 ∙ omega arith, p.1)) (get_more k xs y x at)

  get_before : (k : ℕ) (xs : List X) (x : X) → slice_get xs (suc k) ≡ Some x → (y : X) × (slice_get xs k ≡ Some y)
  get_before k [] x at = absurd cc
  get_before zero (y ∷ xs) x at = (y, refl)
  get_before (suc k) (y ∷ xs) x at = get_before k xs x at

  pub get_within : (k : ℕ) (xs : List X) (x : X) → slice_get xs k ≡ Some x → k < length xs
  get_within k [] x at = absurd cc
  get_within zero (y ∷ xs) x at = omega arith
  get_within (suc k) (y ∷ xs) x at = let h = get_within k xs x at in omega arith

  any_at : (p : X → Bool) (xs : List X) → list_any p xs ≡ true → (k : ℕ) × (x : X) × (slice_get xs k ≡ Some x) × (p x ≡ true)
  any_at p [] h = absurd (false≢true h)
  any_at p (x ∷ xs) h = ⊎_elim {C = (k : ℕ) × (y : X) × (slice_get (x ∷ xs) k ≡ Some y) × (p y ≡ true)} (λ (t : p x ≡ true). (0, x, refl, t)) (λ (t : list_any p xs ≡ true). let r = any_at p xs t in (suc r.0, r.1, r.2, r.3)) (or_cases (p x) (list_any p xs) h)

  all_filter : (P : X → Type 0) (p : X → Bool) (xs : List X) → AllByRecursion P xs → AllByRecursion P (filter p xs)
  all_filter P p [] all = tt
  all_filter P p (x ∷ xs) all = at (p x) (all_filter P p xs all.1)
    where
      at : (b : Bool) → AllByRecursion P (filter p xs) → AllByRecursion P (cond b (x ∷ filter p xs) (filter p xs))
      at true ih = (all.0, ih)
      at false ih = ih

-- ---- the last view
last_get : (v : View) (vs : List View) → slice_get (v ∷ vs) (length vs) ≡ Some (last_view (v ∷ vs))
last_get v [] = refl
last_get v (w ∷ vs) = last_get w vs

pub last_numbered : (vs : List View) → 1 ≤ length vs → numbered (length vs) vs ≡ Some (last_view vs)
last_numbered [] some = absurd (omega arith)
last_numbered (v ∷ vs) some = last_get v vs

pub numbered_last : (vs : List View) (n : ℕ) (v : View) → n ≡ length vs → numbered n vs ≡ Some v → v.epoch ≡ (last_view vs).epoch
numbered_last [] n v same at = absurd (no_number n v at)
  where
    no_number : (k : ℕ) (x : View) → numbered k [] ≡ Some x → ⊥
    no_number zero x h = absurd cc
    no_number (suc k) x h = absurd cc
numbered_last (w ∷ vs) n v same at =
    let there : numbered (length (w ∷ vs)) (w ∷ vs) ≡ Some v = subst (λ (k : ℕ). numbered k (w ∷ vs) ≡ Some v) same at in
    let one : v ≡ last_view (w ∷ vs) = one_of v (last_view (w ∷ vs)) (sym there ∙ last_numbered (w ∷ vs) (omega arith)) in
    ap (λ (x : View). x.epoch) one
  where
    one_of : (x y : View) → ◌≡◌ {A = Option View} (Some x) (Some y) → x ≡ y
    one_of x y e = cc

pub none_last : (vs : List View) (n : ℕ) → n ≡ length vs → numbered n vs ≡ None → 0 ≡ (last_view vs).epoch
none_last [] n same at = refl
none_last (w ∷ vs) n same at = absurd (some_none (last_view (w ∷ vs)) (sym (last_numbered (w ∷ vs) (omega arith)) ∙ subst (λ (k : ℕ). numbered k (w ∷ vs) ≡ None) same at))
  where
    some_none : (x : View) → ◌≡◌ {A = Option View} (Some x) None → ⊥
    some_none x e = cc

-- ---- who was a member
pub was_later : (vs : List View) (e f : ℕ) (id : NodeId) → e ≤ f → was_member vs e id ≡ true → was_member vs f id ≡ true
was_later [] e f id le h = h
was_later (v ∷ vs) e f id le h = ⊎_elim
    (λ (t : (nat_lt v.epoch e && is_member id v.members) ≡ true). let parts = and_parts (nat_lt v.epoch e) (is_member id v.members) t in let under = ltb-true v.epoch e parts.0 in
    or_left _ _ (and_from _ _ (lt-ltb v.epoch f (omega arith)) parts.1))
    (λ (t : was_member vs e id ≡ true). or_right _ _ (was_later vs e f id le t))
    (or_cases _ (was_member vs e id) h)

pub was_more : (vs ws : List View) (e : ℕ) (id : NodeId) → was_member vs e id ≡ true → was_member (vs ++ ws) e id ≡ true
was_more vs ws e id h = list_any-append _ vs ws ∙ or_left _ _ h

was_last : (vs : List View) (v : View) (e : ℕ) (id : NodeId) → v.epoch < e → is_member id v.members ≡ true → was_member (vs ++ v ∷ []) e id ≡ true
was_last vs v e id under m = list_any-append _ vs (v ∷ []) ∙ or_right _ _ (or_left _ _ (and_from _ _ (lt-ltb v.epoch e under) m))

member_below : (members : List NodeId) (id : NodeId) (next : ℕ) → AllByRecursion (λ (m : NodeId). m.0 < next) members → is_member id members ≡ true → id.0 < next
member_below [] id next all h = absurd (false≢true h)
member_below (m ∷ members) id next all h = ⊎_elim
    (λ (t : nat_eq m.0 id.0 ≡ true). let same = eqb-true m.0 id.0 t in let under = all.0 in omega arith)
    (λ (t : is_member id members ≡ true). member_below members id next all.1 t)
    (or_cases (nat_eq m.0 id.0) (is_member id members) h)

was_below : (vs : List View) (e : ℕ) (v : View) (id : NodeId) → AreViews vs → numbered e vs ≡ Some v → was_member vs (e + 1) id ≡ true → id.0 < v.next
was_below vs e v id are at h =
    let there = any_at (λ (view : View). nat_lt view.epoch (e + 1) && is_member id view.members) vs h in
    let k : ℕ = there.0 in
    let u : View = there.1 in
    let put : numbered (suc k) vs ≡ Some u = there.2 in
    let parts = and_parts (nat_lt u.epoch (e + 1)) (is_member id u.members) there.3 in
    let named : u.epoch ≡ suc k = are.epochs (suc k) u put in
    let early = ltb-true u.epoch (e + 1) parts.0 in
    let view : IsView u = numbered_holds IsView (suc k) vs u are.each put in
    let under : id.0 < u.next = member_below u.members id u.next (recursion_from_All _ u.members view.below) parts.1 in
    let up : u.next ≤ v.next = are.rising (suc k) e u v put at (omega arith) in
    omega arith

never_before : (vs : List View) (id : NodeId) → AreViews vs → was_member vs 1 id ≡ true → ⊥
never_before vs id are h =
    let there = any_at (λ (view : View). nat_lt view.epoch 1 && is_member id view.members) vs h in
    let parts = and_parts (nat_lt there.1.epoch 1) (is_member id there.1.members) there.3 in
    let named : there.1.epoch ≡ suc there.0 = are.epochs (suc there.0) there.1 there.2 in
    let early = ltb-true there.1.epoch 1 parts.0 in
    absurd (omega arith)

-- A number was a member before this epoch exactly where it was given before.
pub was_given : (vs : List View) (e : ℕ) (view : View) (id : NodeId) → AreViews vs → numbered e vs ≡ Some view → was_member vs e id ≡ nat_lt id.0 (given_before vs e)
was_given vs zero view id are at = absurd cc
was_given vs (suc zero) view id are at = false_from_ne_true _ (never_before vs id are) ∙ sym (le-ltb id.0 0 (omega arith))
was_given vs (suc (suc k)) view id are at =
    let before = get_before k vs view at in
    let same : given_before vs (suc (suc k)) ≡ before.0.next = rw before.1 refl in
    both_ways _ _
    (λ h. rw same (lt-ltb id.0 before.0.next (was_below vs (suc k) before.0 id are before.1 (subst (λ (n : ℕ). was_member vs n id ≡ true) (omega arith) h))))
    (λ h. subst (λ (n : ℕ). was_member vs n id ≡ true) (omega arith) (are.given (suc k) before.0 before.1 id (ltb-true id.0 before.0.next (rw same at h))))

-- ---- the next view
apart : (a b : ℕ) → nat_cmp a b ≡ Less → nat_eq b a ≡ false
apart a b less = at (nat_eq b a) refl
  where
    at : (t : Bool) → nat_eq b a ≡ t → t ≡ false
    at false e = refl
    at true e =
        let same : b ≡ a = eqb-true b a e in
        let tied : nat_cmp a b ≡ Equal = rw same (tied_itself nat_cmp_total a) in
        absurd cc

abbrev pub Rises : List NodeId → Type 0
Rises members = IsStrictlySortedBy nat_cmp (member_numbers members)

pub sorted_cons : (n : ℕ) (ns : List ℕ) → AllByRecursion (λ y. nat_cmp n y ≡ Less) ns → IsStrictlySortedBy nat_cmp ns → IsStrictlySortedBy nat_cmp (n ∷ ns)
unfolding IsStrictlySortedBy
sorted_cons n ns all sorted = (all, sorted)

pub sorted_nil : IsStrictlySortedBy nat_cmp []
unfolding IsStrictlySortedBy
sorted_nil = tt

above_filter : (n : ℕ) (p : NodeId → Bool) (ms : List NodeId) → AllByRecursion (λ y. nat_cmp n y ≡ Less) (member_numbers ms) → AllByRecursion (λ y. nat_cmp n y ≡ Less) (member_numbers (filter p ms))
above_filter n p [] all = tt
above_filter n p (m ∷ ms) all = at (p m) (above_filter n p ms all.1)
  where
    at : (b : Bool) → AllByRecursion (λ y. nat_cmp n y ≡ Less) (member_numbers (filter p ms)) → AllByRecursion (λ y. nat_cmp n y ≡ Less) (member_numbers (cond b (m ∷ filter p ms) (filter p ms)))
    at true ih = (all.0, ih)
    at false ih = ih

rises_filter : (p : NodeId → Bool) (ms : List NodeId) → Rises ms → Rises (filter p ms)
rises_filter p [] rises = rises
rises_filter p (m ∷ ms) rises = at (p m) (rises_filter p ms (sorted_tail nat_cmp m.0 (member_numbers ms) rises))
  where
    at : (b : Bool) → Rises (filter p ms) → Rises (cond b (m ∷ filter p ms) (filter p ms))
    at true ih = sorted_cons m.0 (member_numbers (filter p ms)) (above_filter m.0 p ms (sorted_head nat_cmp m.0 (member_numbers ms) rises)) ih
    at false ih = ih

-- the numbers above n are none of them n
keeps_above : (n : ℕ) (ms : List NodeId) → AllByRecursion (λ y. nat_cmp n y ≡ Less) (member_numbers ms) → filter (λ (m : NodeId). not (m.0 == n)) ms ≡ ms
keeps_above n [] all = refl
keeps_above n (m ∷ ms) all = rw (apart n m.0 all.0) (ap (λ (l : List NodeId). m ∷ l) (keeps_above n ms all.1))

one_leaves : (n : ℕ) (ms : List NodeId) → Rises ms → length ms ≤ length (filter (λ (m : NodeId). not (m.0 == n)) ms) + 1
one_leaves n [] rises = omega arith
one_leaves n (m ∷ ms) rises = at (m.0 == n) refl (one_leaves n ms (sorted_tail nat_cmp m.0 (member_numbers ms) rises))
  where
    at : (b : Bool) → (m.0 == n) ≡ b → length ms ≤ length (filter (λ (k : NodeId). not (k.0 == n)) ms) + 1 →
        length (m ∷ ms) ≤ length (cond (not b) (m ∷ filter (λ (k : NodeId). not (k.0 == n)) ms) (filter (λ (k : NodeId). not (k.0 == n)) ms)) + 1
    at false e ih = omega arith
    at true e ih =
        let same : m.0 ≡ n = eqb-true m.0 n e in
        let kept : filter (λ (k : NodeId). not (k.0 == n)) ms ≡ ms = keeps_above n ms (subst (λ (x : ℕ). AllByRecursion (λ y. nat_cmp x y ≡ Less) (member_numbers ms)) same (sorted_head nat_cmp m.0 (member_numbers ms) rises)) in
        rw kept (omega arith)

filter_short : (p : NodeId → Bool) (ms : List NodeId) → length (filter p ms) ≤ length ms
filter_short p [] = omega arith
filter_short p (m ∷ ms) = at (p m) (filter_short p ms)
  where
    at : (b : Bool) → length (filter p ms) ≤ length ms → length (cond b (m ∷ filter p ms) (filter p ms)) ≤ length (m ∷ ms)
    at true ih = omega arith
    at false ih = omega arith

pub dropped_view : (view : View) (id : NodeId) → IsView view → (length view.members ≡ 1 → ⊥) → IsView (dropped view id)
dropped_view view id is many =
    let rises : Rises view.members = sorted_from_strictly_increasing (member_numbers view.members) is.rising in
    let gone = one_leaves id.0 view.members rises in
    let short = filter_short (λ (m : NodeId). not (m.0 == id.0)) view.members in
    record {
      some = at (length view.members) refl;
      few = omega (arith, is.few);
      rising = IsStrictlyIncreasing-from_sorted _ (rises_filter (λ (m : NodeId). not (m.0 == id.0)) view.members rises);
      below = All-from_recursion _ _ (all_filter (λ (m : NodeId). m.0 < view.next) (λ (m : NodeId). not (m.0 == id.0)) view.members (recursion_from_All _ view.members is.below));
      next = is.next;
    }
  where
    at : (n : ℕ) → length view.members ≡ n → 1 ≤ length (filter (λ (m : NodeId). not (m.0 == id.0)) view.members)
    at n e =
        let some = is.some in
        let gone = one_leaves id.0 view.members (sorted_from_strictly_increasing (member_numbers view.members) is.rising) in
        let apart_from_one : length view.members ≢ 1 = many in
        omega arith

above_push : (n : ℕ) (ms : List NodeId) (last : NodeId) → AllByRecursion (λ y. nat_cmp n y ≡ Less) (member_numbers ms) → nat_cmp n last.0 ≡ Less → AllByRecursion (λ y. nat_cmp n y ≡ Less) (member_numbers (ms ++ last ∷ []))
above_push n [] last all less = (less, tt)
above_push n (m ∷ ms) last all less = (all.0, above_push n ms last all.1 less)

pub less_below : (a b : ℕ) → a < b → nat_cmp a b ≡ Less
less_below a b l = rw (lt-ltb a b l) refl

rises_push : (ms : List NodeId) (last : NodeId) → Rises ms → AllByRecursion (λ (m : NodeId). m.0 < last.0) ms → Rises (ms ++ last ∷ [])
rises_push [] last rises all = sorted_cons last.0 [] tt sorted_nil
rises_push (m ∷ ms) last rises all =
    sorted_cons m.0 (member_numbers (ms ++ last ∷ [])) (above_push m.0 ms last (sorted_head nat_cmp m.0 (member_numbers ms) rises) (less_below m.0 last.0 all.0)) (rises_push ms last (sorted_tail nat_cmp m.0 (member_numbers ms) rises) all.1)

below_more : (ms : List NodeId) (n : ℕ) → AllByRecursion (λ (m : NodeId). m.0 < n) ms → AllByRecursion (λ (m : NodeId). m.0 < n + 1) ms
below_more [] n all = tt
below_more (m ∷ ms) n all = let h = all.0 in (omega arith, below_more ms n all.1)

pub added_view : (view : View) → IsView view → length view.members < 16 → view.next < 65536 → IsView (added view)
added_view view is few numbers =
    let below : AllByRecursion (λ (m : NodeId). m.0 < view.next) view.members = recursion_from_All _ view.members is.below in
    let longer : length (view.members ++ record { 0 = view.next } ∷ []) ≡ length view.members + 1 = length_push view.members (record { 0 = view.next }) in
    record {
      some = rw longer (omega arith);
      few = rw longer (omega arith);
      rising = IsStrictlyIncreasing-from_sorted _ (rises_push view.members (record { 0 = view.next }) (sorted_from_strictly_increasing _ is.rising) below);
      below = All-from_recursion _ _ (all_append (λ (m : NodeId). m.0 < view.next + 1) view.members (record { 0 = view.next } ∷ []) (below_more view.members view.next below) (omega arith, tt));
      next = omega arith;
    }

-- what a next view is, behind the views there are
pub record IsNext (vs : List View) (v : View) : Type 0 where
  pub is_view : IsView v
  pub epoch : v.epoch ≡ length vs + 1
  pub up : (last_view vs).next ≤ v.next
  pub members : (id : NodeId) → id.0 < v.next → (id.0 < (last_view vs).next) ⊎ (is_member id v.members ≡ true)

pub views_next : (vs : List View) (v : View) → AreViews vs → IsNext vs v → AreViews (vs ++ v ∷ [])
views_next vs v are next = record {
  some = rw (length_push vs v) (omega arith);
  each = all_append IsView vs (v ∷ []) are.each (next.is_view, tt);
  epochs = λ e view at. ⊎_elim (λ (h : numbered e vs ≡ Some view). are.epochs e view h) (λ (h : (e ≡ length vs + 1) × (view ≡ v)). rw (h.1, next.epoch) (sym h.0)) (numbered_more e vs v view at);
  rising = λ e f earlier later at to le. ⊎_elim
      (λ (h : numbered f vs ≡ Some later). ⊎_elim (λ (g : numbered e vs ≡ Some earlier). are.rising e f earlier later g h le)
      (λ (g : (e ≡ length vs + 1) × (earlier ≡ v)). absurd (past f later h (g.0) le)) (numbered_more e vs v earlier at))
      (λ (h : (f ≡ length vs + 1) × (later ≡ v)). ⊎_elim (λ (g : numbered e vs ≡ Some earlier).
      let in_range = numbered_within e earlier g in
      let below_last : earlier.next ≤ (last_view vs).next = are.rising e (length vs) earlier (last_view vs) g last in_range in
      let up = next.up in
      rw h.1 (omega arith))
      (λ (g : (e ≡ length vs + 1) × (earlier ≡ v)). rw (g.1, h.1) (omega arith)) (numbered_more e vs v earlier at))
      (numbered_more f vs v later to);
  given = λ e view at id under. ⊎_elim (λ (h : numbered e vs ≡ Some view). was_more vs (v ∷ []) (e + 1) id (are.given e view h id under))
      (λ (h : (e ≡ length vs + 1) × (view ≡ v)). ⊎_elim
      (λ (low : id.0 < (last_view vs).next). was_more vs (v ∷ []) (e + 1) id (was_later vs (length vs + 1) (e + 1) id (let n = h.0 in omega arith) (are.given (length vs) (last_view vs) last id low)))
      (λ (m : is_member id v.members ≡ true). was_last vs v (e + 1) id (let n = h.0 in let k = next.epoch in omega arith) m)
      (next.members id (subst (λ (u : View). id.0 < u.next) h.1 under)))
      (numbered_more e vs v view at);
}
  where
    last : numbered (length vs) vs ≡ Some (last_view vs)
    last = last_numbered vs are.some

    numbered_within : (e : ℕ) (view : View) → numbered e vs ≡ Some view → e ≤ length vs
    numbered_within zero view h = omega arith
    numbered_within (suc k) view h = let g = get_within k vs view h in omega arith

    past : (f : ℕ) (view : View) {e : ℕ} → numbered f vs ≡ Some view → e ≡ length vs + 1 → e ≤ f → ⊥
    past f view h n le = let g = numbered_within f view h in absurd (omega arith)

last_epoch : (vs : List View) → AreViews vs → (last_view vs).epoch ≡ length vs
last_epoch vs are = are.epochs (length vs) (last_view vs) (last_numbered vs are.some)

pub last_is_view : (vs : List View) → AreViews vs → IsView (last_view vs)
last_is_view vs are = numbered_holds IsView (length vs) vs (last_view vs) are.each (last_numbered vs are.some)

pub dropped_next : (vs : List View) (id : NodeId) → AreViews vs → (length (last_view vs).members ≡ 1 → ⊥) → IsNext vs (dropped (last_view vs) id)
dropped_next vs id are many = record {
  is_view = dropped_view (last_view vs) id (last_is_view vs are) many;
  epoch = ap (λ (n : ℕ). n + 1) (last_epoch vs are);
  up = omega arith;
  members = λ m under. inl under;
}

last_member : (ms : List NodeId) (n : ℕ) (id : NodeId) → id.0 ≡ n → is_member id (ms ++ record { 0 = n } ∷ []) ≡ true
last_member [] n id e = or_left _ _ (eq-eqb n id.0 (sym e))
last_member (m ∷ ms) n id e = or_right _ _ (last_member ms n id e)

pub added_next : (vs : List View) → AreViews vs → length (last_view vs).members < 16 → (last_view vs).next < 65536 → IsNext vs (added (last_view vs))
added_next vs are few numbers = record {
  is_view = added_view (last_view vs) (last_is_view vs are) few numbers;
  epoch = ap (λ (n : ℕ). n + 1) (last_epoch vs are);
  up = omega arith;
  members = λ id under. ⊎_elim (λ (low : id.0 < (last_view vs).next). inl low) (λ (high : (last_view vs).next ≤ id.0). inr (last_member (last_view vs).members (last_view vs).next id (omega arith))) (cases_lt id.0 (last_view vs).next);
}
