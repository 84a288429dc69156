-- Who is told where a rise is refused for the skew.
use Rattle.std.proofs.Common.{◌≡◌, ◌≤◌, ℕ, List, [], ◌∷◌, Bool, true, false, ◌||◌, cond, nat_lt, Option, Some, None, Err, refl, sym, ap, subst, ◌∙◌, inl, inr}
use Rattle.std.specs.declared.cmp.Ordering.{Ordering}
use Rattle.std.specs.declared.cmp.Ordering.TheVariants.{Less, Greater}
use Rattle.std.specs.Bool.{⊤}
use Rattle.std.specs.Ordering.{ordering_reverse}
use Rattle.std.specs.List.{AllByRecursion, find, list_any}
use Rattle.std.specs.List.Sorted.{IsStrictlySortedBy}
use Rattle.std.specs.Map.{keys_of}
use Rattle.std.proofs.lemmas.Bool.{ltb-false}
use Rattle.std.proofs.lemmas.Map.Keys.{sorted_head, sorted_tail}
use Rattle.hk_base.specs.declared.letter.Actor.{Actor}
use Rattle.hk_base.specs.declared.time.TheConstants.{MAX_TIME}
use Rattle.hk_clocks.specs.declared.pace.Pace.{Pace}
use Rattle.hk_clocks.specs.declared.rise.Rise.{Rise}
use Rattle.hk_clocks.specs.declared.rise.Rise.TheVariants.{One, All}
use Rattle.hk_clocks.specs.declared.fault.ClockFault.TheVariants.{ClockFalls}
use Rattle.hk_clocks.specs.Clocks.{ClockState, Paces, by_actor, pace_of}
use Rattle.hk_clocks.specs.Steps.{ClockEvent, runs_apart, greatest_clock, rises_unless, ticks}
use Rattle.hk_clocks.specs.Runs.{IsEvent, no_clocks, after}
use Rattle.hk_clocks.specs.Laws.{KeepsWith, IsLive, IsRiseAnswer, FirstLeftTold}
use Rattle.hk_clocks.proofs.Entries.{Among, by_actor_total, found, finds, keys_below}
use Rattle.hk_clocks.proofs.Kept.{none_found, none_any}
use Rattle.hk_clocks.proofs.Running.{one_rises, all_rise}
use Rattle.hk_clocks.proofs.Exactly.{sound, same_skew, refused_exactly}

-- the first that is found passes, and none before it does
record IsFirst (test : Actor × Pace → Bool) (es : Paces) (q : Actor × Pace) : Type 0 where
  among : Among es q
  passes : test q ≡ true
  before : (x : Actor × Pace) → Among es x → by_actor x.0 q.0 ≡ Less → test x ≡ false

not_below : (a b : Actor) → by_actor a b ≡ Less → by_actor b a ≡ Less → ⊥
not_below a b p q = absurd (differs (sym (by_actor_total.antisymm b a) ∙ q) (ap ordering_reverse p))
  where
    differs : {o : Ordering} → o ≡ Less → o ≡ Greater → ⊥
    differs e f = absurd cc

first_found : (test : Actor × Pace → Bool) (es : Paces) (q : Actor × Pace) → IsStrictlySortedBy by_actor (keys_of es) → find test es ≡ Some q → IsFirst test es q
first_found test [] q sorted e = absurd cc
first_found test (y ∷ ys) q sorted e = at (test y) refl e (first_found test ys q (sorted_tail by_actor y.0 (keys_of ys) sorted))
  where
    below : (x : Actor × Pace) → Among ys x → by_actor y.0 x.0 ≡ Less
    below = keys_below y.0 ys (sorted_head by_actor y.0 (keys_of ys) sorted)

    none_before : (x : Actor × Pace) → Among (y ∷ ys) x → by_actor x.0 y.0 ≡ Less → test x ≡ false
    none_before x (inl s) l = absurd (not_below y.0 x.0 (subst (λ (z : Actor × Pace). by_actor y.0 z.0 ≡ Less) (sym s) (subst (λ (z : Actor × Pace). by_actor z.0 y.0 ≡ Less) s l)) l)
    none_before x (inr i) l = absurd (not_below y.0 x.0 (below x i) l)

    at : (t : Bool) → test y ≡ t → cond t (Some y) (find test ys) ≡ Some q → (find test ys ≡ Some q → IsFirst test ys q) → IsFirst test (y ∷ ys) q
    at true is e ih =
        let s : y ≡ q = cc in
        subst (λ (z : Actor × Pace). IsFirst test (y ∷ ys) z) s (record { among = inl refl; passes = is; before = none_before })
    at false is e ih =
        let f = ih e in
        record { among = inr f.among; passes = f.passes; before = λ x i l. before f x i l }
      where
        before : IsFirst test ys q → (x : Actor × Pace) → Among (y ∷ ys) x → by_actor x.0 q.0 ≡ Less → test x ≡ false
        before f x (inl s) l = ap test s ∙ is
        before f x (inr i) l = f.before x i l

record Passes (test : Actor × Pace → Bool) (es : Paces) : Type 0 where
  one : Actor × Pace
  among : Among es one
  passes : test one ≡ true

some_passes : (test : Actor × Pace → Bool) (es : Paces) → list_any test es ≡ true → Passes test es
some_passes test [] e = absurd cc
some_passes test (y ∷ ys) e = at (test y) refl e (some_passes test ys)
  where
    at : (t : Bool) → test y ≡ t → (t || list_any test ys) ≡ true → (list_any test ys ≡ true → Passes test ys) → Passes test (y ∷ ys)
    at true is e ih = record { one = y; among = inl refl; passes = is }
    at false is e ih = let p = ih e in record { one = p.one; among = inr p.among; passes = p.passes }

module _ (skew : ℕ) (low : skew ≤ MAX_TIME) (events : List ClockEvent) (all : AllByRecursion IsEvent events) where
  abbrev now : ClockState
  now = after (no_clocks skew) events

  live_in : (p : Actor × Pace) → Among now.paces p → IsLive skew events p.0 p.1
  live_in p i = found now.paces (sound skew low events all).ordered p i

  -- the skew is that of the clocks
  at_skew : (rise : Rise) (p q : Actor × Pace) (t : Bool) → runs_apart now.skew rise p q ≡ t → runs_apart skew rise p q ≡ t
  at_skew rise p q t e = subst (λ (k : ℕ). runs_apart k rise p q ≡ t) (same_skew skew low events all) e

  one_told : (a : Actor) (to : ℕ) (o : Option Pace) → pace_of now.paces a ≡ o → IsRiseAnswer (ticks o now a to) skew events (One a to) (λ b. b ≡ a) to
  one_told a to None e = tt
  one_told a to (Some pace) e = at (nat_lt to pace.clock) refl
    where
      by_find : pace.clock ≤ to → (f : Option (Actor × Pace)) → find (runs_apart now.skew (One a to) (a, pace)) now.paces ≡ f → IsRiseAnswer (rises_unless f now (One a to) to) skew events (One a to) (λ b. b ≡ a) to
      by_find up None none = λ x b p q s is live. subst (λ (y : Actor). KeepsWith skew events (One a to) y b) (sym s)
          ((refused_exactly skew low events all (One a to) (one_rises now a pace to e up) a b pace q e live).kept
          (at_skew (One a to) (a, pace) (b, q) false (none_found (runs_apart now.skew (One a to) (a, pace)) now.paces none (b, q) (finds b q now.paces live))))
      by_find up (Some q) some =
          let f = first_found (runs_apart now.skew (One a to) (a, pace)) now.paces q (sound skew low events all).ordered some in (
            refl,
            record {
              left = q.0;
              pace = q.1;
              live = live_in q f.among;
              reads = refl;
              first = a;
              ahead = refl;
              apart = (refused_exactly skew low events all (One a to) (one_rises now a pace to e up) a q.0 pace q.1 e (live_in q f.among)).apart (at_skew (One a to) (a, pace) q true f.passes);
              earlier = λ x b p r s is live l. subst (λ (y : Actor). KeepsWith skew events (One a to) y b) (sym s)
                  ((refused_exactly skew low events all (One a to) (one_rises now a pace to e up) a b pace r e live).kept
                  (at_skew (One a to) (a, pace) (b, r) false (f.before (b, r) (finds b r now.paces live) l)));
            },
          )

      at : (t : Bool) → nat_lt to pace.clock ≡ t → IsRiseAnswer (cond t (Err (ClockFalls pace.clock)) (rises_unless (find (runs_apart now.skew (One a to) (a, pace)) now.paces) now (One a to) to)) skew events (One a to) (λ b. b ≡ a) to
      at true s = tt
      at false s = by_find (ltb-false to pace.clock s) (find (runs_apart now.skew (One a to) (a, pace)) now.paces) refl

  all_told : (to : ℕ) → greatest_clock 0 now.paces ≤ to → (f : Option (Actor × Pace)) → find (λ q. list_any (λ p. runs_apart now.skew (All to) p q) now.paces) now.paces ≡ f →
      IsRiseAnswer (rises_unless f now (All to) to) skew events (All to) (λ b. ⊤) to
  all_told to up None none = λ a b p q any its live.
      (refused_exactly skew low events all (All to) (all_rise now to up) a b p q its live).kept
      (at_skew (All to) (a, p) (b, q) false
      (none_any (λ p. runs_apart now.skew (All to) p (b, q)) now.paces (none_found (λ q. list_any (λ p. runs_apart now.skew (All to) p q) now.paces) now.paces none (b, q) (finds b q now.paces live)) (a, p) (finds a p now.paces its)))
  all_told to up (Some q) some =
      let f = first_found (λ q. list_any (λ p. runs_apart now.skew (All to) p q) now.paces) now.paces q (sound skew low events all).ordered some in
      let w = some_passes (λ p. runs_apart now.skew (All to) p q) now.paces f.passes in (
        refl,
        record {
          left = q.0;
          pace = q.1;
          live = live_in q f.among;
          reads = refl;
          first = w.one.0;
          ahead = tt;
          apart = (refused_exactly skew low events all (All to) (all_rise now to up) w.one.0 q.0 w.one.1 q.1 (live_in w.one w.among) (live_in q f.among)).apart (at_skew (All to) w.one q true w.passes);
          earlier = λ a b p r any its live l.
              (refused_exactly skew low events all (All to) (all_rise now to up) a b p r its live).kept
              (at_skew (All to) (a, p) (b, r) false
              (none_any (λ p. runs_apart now.skew (All to) p (b, r)) now.paces (f.before (b, r) (finds b r now.paces live) l) (a, p) (finds a p now.paces its)));
        },
      )

  every_told : (to : ℕ) (t : Bool) → nat_lt to (greatest_clock 0 now.paces) ≡ t →
      IsRiseAnswer (cond t (Err (ClockFalls (greatest_clock 0 now.paces))) (rises_unless (find (λ q. list_any (λ p. runs_apart now.skew (All to) p q) now.paces) now.paces) now (All to) to)) skew events (All to) (λ b. ⊤) to
  every_told to true s = tt
  every_told to false s = all_told to (ltb-false to (greatest_clock 0 now.paces) s) (find (λ q. list_any (λ p. runs_apart now.skew (All to) p q) now.paces) now.paces) refl

pub first_left_told : FirstLeftTold
first_left_told skew low events all = record {
  one = λ a to. one_told skew low events all a to (pace_of (after (no_clocks skew) events).paces a) refl;
  every = λ to. every_told skew low events all to (nat_lt to (greatest_clock 0 (after (no_clocks skew) events).paces)) refl;
}
