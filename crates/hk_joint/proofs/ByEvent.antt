-- A stable sort by events gathers the entries event by event.
use Rattle.std.proofs.Common.{◌≡◌, ◌⊎◌, ℕ, suc, Bool, true, false, cond, ◌+◌, ◌&&◌, not, List, [], ◌∷◌, ◌++◌, map, length, get_or, ◌<◌, ◌≤◌, ◌∙◌, sym, refl, ap, ap₂, subst, inl, inr, ⊎_elim, arith, eqb, ltb, None, Less, Equal, Greater}
use Rattle.std.proofs.lemmas.List.{map-append}
use Rattle.std.specs.List.{filter, flat_map, range_with_len}
use Rattle.std.specs.List.Sorted.{IsSortedByKey, IsStableByKey}
use Rattle.std.specs.Ordering.{nat_cmp, is_lt}
use Rattle.std.proofs.lemmas.Bool.{false≢true, eq-eqb, ne_eqb, ltb-true, lt-ltb, cases_order}
use Rattle.std.proofs.lemmas.List.Sorted.{IsNonDecreasingBy-from_sort}
use Rattle.hk_history.specs.declared.event.Entry.{Entry}
use Rattle.hk_register.specs.Machine.{In}
use Rattle.hk_register.specs.Printed.{entry_of}
use Rattle.hk_effects.specs.Laws.{EventIsEffects}
use Rattle.hk_effects.specs.Runs.{RunsKeepParts}
use Rattle.hk_safety.specs.Run.{RunState, named}
use Rattle.hk_safety.proofs.Traces.{run_kept}
use Rattle.hk_safety.specs.declared.placed.Placed.{Placed}
use Rattle.hk_joint.specs.Joint.{Standing, standings, standings_at, moments, joint_order, entries_of}
use Rattle.hk_joint.specs.Placing.{by_event, IsByEvent, placed, placed_in, PlacedAreJoint}
use Rattle.hk_joint.proofs.Chain.{moments_of_run}
use Rattle.hk_joint.proofs.KeyOrder.{standing_within}
use Rattle.hk_joint.proofs.Lists.{in_filter, of_filter, of_flat, of_map, flat_same, filter_flat, Rising, gathered}

place_of : {X : Type 0} (xs : List X) (y d : X) → In xs y → (j : ℕ) × (j < length xs) × (get_or xs j d ≡ y)
place_of [] y d h = absurd h
place_of (x ∷ xs) y d (inl e) = (0, omega arith, sym e)
place_of (x ∷ xs) y d (inr h) = let t = place_of xs y d h in let l = t.1 in (suc t.0, omega (arith, l), t.2)

rising_of : (xs : List Placed) → ((i j : ℕ) (d : Placed) → i ≤ j → j < length xs → (get_or xs i d).event ≤ (get_or xs j d).event) → Rising (λ (p : Placed). p.event) xs
rising_of [] up = tt
rising_of (x ∷ xs) up = (
  λ y h. let t = place_of xs y x h in
      let l = t.1 in
      subst (λ (z : Placed). x.event ≤ z.event) t.2 (up 0 (suc t.0) x (omega arith) (omega (arith, l))),
  rising_of xs (λ i j d low within. up (suc i) (suc j) d (omega (arith, low)) (omega (arith, within))),
)

filter_same : {X : Type 0} (p q : X → Bool) (xs : List X) → ((x : X) → p x ≡ q x) → filter p xs ≡ filter q xs
filter_same p q [] same = refl
filter_same {X} p q (x ∷ xs) same = ap₂ (λ (b : Bool) (l : List X). cond b (x ∷ l) l) (same x) (filter_same p q xs same)

cmp_less : (x y : ℕ) → is_lt (nat_cmp x y) ≡ ltb x y
cmp_less x y = by_tests (ltb x y) (eqb x y)
  where
    by_tests : (a b : Bool) → is_lt (cond a Less (cond b Equal Greater)) ≡ a
    by_tests true b = refl
    by_tests false true = refl
    by_tests false false = refl

-- two events tie where they are one
ties_is : (m e : ℕ) → (not (is_lt (nat_cmp m e)) && not (is_lt (nat_cmp e m))) ≡ eqb e m
ties_is m e = ap₂ (λ (a b : Bool). not a && not b) (cmp_less m e) (cmp_less e m) ∙ by_tests (ltb m e) refl (ltb e m) refl
  where
    by_tests : (a : Bool) → ltb m e ≡ a → (b : Bool) → ltb e m ≡ b → (not a && not b) ≡ eqb e m
    by_tests true x b y = let l = ltb-true m e x in sym (ne_eqb e m (λ is. absurd (omega (arith, l, is))))
    by_tests false x true y = let l = ltb-true e m y in sym (ne_eqb e m (λ is. absurd (omega (arith, l, is))))
    by_tests false x false y = sym (eq-eqb e m (⊎_elim
        (λ (is : e ≡ m). is)
        (λ (h : (e < m) ⊎ (m < e)).
        ⊎_elim
        (λ (l : e < m). absurd (false≢true (sym y ∙ lt-ltb e m l)))
        (λ (l : m < e). absurd (false≢true (sym x ∙ lt-ltb m e l))) h)
        (cases_order e m)))

pub sorted_gathers : (xs ys : List Placed) → IsSortedByKey (λ (p : Placed). p.event) nat_cmp ys → IsStableByKey (λ (p : Placed). p.event) nat_cmp xs ys → IsByEvent xs ys
sorted_gathers xs ys sorted stable n within =
    sym (gathered (λ (p : Placed). p.event) n 0 ys rises (λ p h. omega arith) (λ p h. let l = within p (member p h) in omega (arith, l)))
    ∙ flat_same (λ m. filter (λ p. eqb p.event m) ys) (λ m. filter (λ p. eqb p.event m) xs) (range_with_len 0 n) (λ m h. same m)
  where
    none : Entry
    none = record { call = record { 0 = 0 }; tag = None }

    same : (m : ℕ) → filter (λ (p : Placed). eqb p.event m) ys ≡ filter (λ (p : Placed). eqb p.event m) xs
    same m =
        let x : Placed = record { event = m; entry = none } in
        let tie : Placed → Bool = λ p. not (is_lt (nat_cmp m p.event)) && not (is_lt (nat_cmp p.event m)) in
        sym (filter_same tie (λ (p : Placed). eqb p.event m) ys (λ p. ties_is m p.event))
        ∙ (stable x ∙ filter_same tie (λ (p : Placed). eqb p.event m) xs (λ p. ties_is m p.event))

    member : (p : Placed) → In ys p → In xs p
    member p h =
        (of_filter (λ (q : Placed). eqb q.event p.event) xs p
        (subst (λ (l : List Placed). In l p) (same p.event) (in_filter (λ (q : Placed). eqb q.event p.event) ys p h (eq-eqb p.event p.event refl)))).0

    rises : Rising (λ (p : Placed). p.event) ys
    rises = rising_of ys (IsNonDecreasingBy-from_sort (λ (p : Placed). p.event) ys sorted)

-- ---- a map in and out of filters
filter_map_in : {X Y : Type 0} (f : X → Y) (p : Y → Bool) (xs : List X) → filter p (map f xs) ≡ map f (filter (λ x. p (f x)) xs)
filter_map_in f p [] = refl
filter_map_in {X} {Y} f p (x ∷ xs) = by_test (p (f x)) (filter_map_in f p xs)
  where
    by_test : (b : Bool) → filter p (map f xs) ≡ map f (filter (λ x. p (f x)) xs) → cond b (f x ∷ filter p (map f xs)) (filter p (map f xs)) ≡ map f (cond b (x ∷ filter (λ x. p (f x)) xs) (filter (λ x. p (f x)) xs))
    by_test true more = ap (λ (l : List Y). f x ∷ l) more
    by_test false more = more

flat_map_in : {X Y Z : Type 0} (g : Y → Z) (f : X → List Y) (xs : List X) → flat_map (λ x. map g (f x)) xs ≡ map g (flat_map f xs)
flat_map_in g f [] = refl
flat_map_in {X} {Y} {Z} g f (x ∷ xs) = ap (λ (l : List Z). map g (f x) ++ l) (flat_map_in g f xs) ∙ sym (map-append g (f x) (flat_map f xs))

entries_placed : (js : List Standing) → map (λ (p : Placed). p.entry) (map placed js) ≡ entries_of js
entries_placed [] = refl
entries_placed (j ∷ js) = ap (λ (l : List Entry). entry_of j.slot ∷ l) (entries_placed js)

module _ (run : RunState) where
  one_event : (m : ℕ) → filter (λ (p : Placed). eqb p.event m) (placed_in run) ≡ map placed (flat_map (standings_at run m) (named run))
  one_event m =
      filter_flat (λ (p : Placed). eqb p.event m) (λ key. map placed (standings run key)) (named run)
      ∙ (flat_same (λ key. filter (λ (p : Placed). eqb p.event m) (map placed (standings run key))) (λ key. map placed (standings_at run m key)) (named run)
      (λ key h. filter_map_in placed (λ (p : Placed). eqb p.event m) (standings run key))
      ∙ flat_map_in placed (standings_at run m) (named run))

  all_events : by_event (length run.events + 1) (placed_in run) ≡ map placed (joint_order run)
  all_events =
      flat_same (λ m. filter (λ (p : Placed). eqb p.event m) (placed_in run)) (λ m. map placed (flat_map (standings_at run m) (named run))) (moments run) (λ m h. one_event m)
      ∙ flat_map_in placed (λ m. flat_map (standings_at run m) (named run)) (moments run)

pub placed_joint : RunsKeepParts → EventIsEffects → PlacedAreJoint
placed_joint runs is_effects run ok ordered is =
    let within : (p : Placed) → In (placed_in run) p → p.event < length run.events + 1 = λ p h.
    let k = of_flat (λ key. map placed (standings run key)) (named run) p h in
    let s = of_map placed (standings run k.0) p k.2 in
    let low = standing_within run k.0 (run_kept runs k.0 run ok) (moments_of_run runs is_effects run ok k.0) s.0 s.1 in
    let same : p.event ≡ s.0.event = ap (λ (q : Placed). q.event) s.2 in
    omega (arith, low, same) in
    ap (map (λ (p : Placed). p.entry)) (is (length run.events + 1) within ∙ all_events run) ∙ entries_placed (joint_order run)
