-- Runs: what holds at each moment, and so the rate is kept.
use Rattle.std.proofs.Common.{◌≡◌, ℕ, zero, suc, ◌*◌, ◌<◌, ◌≤◌, List, [], ◌∷◌, length, max, Bool, true, false, cond, nat_lt, Option, Some, None, Err, refl, sym, ap, subst, ◌∙◌, inl, inr, arith, le_refl, le_trans}
use Rattle.std.specs.List.{AllByRecursion, find, list_any}
use Rattle.std.specs.BTreeMap.{is_at}
use Rattle.std.proofs.lemmas.Bool.{ltb-false}
use Rattle.hk_base.specs.declared.letter.Actor.{Actor}
use Rattle.hk_base.specs.declared.time.TheConstants.{MAX_TIME}
use Rattle.hk_clocks.specs.declared.pace.Pace.{Pace}
use Rattle.hk_clocks.specs.declared.rise.Rise.{Rise}
use Rattle.hk_clocks.specs.declared.rise.Rise.TheVariants.{One, All}
use Rattle.hk_clocks.specs.Clocks.{ClockState, Paces, by_actor, pace_of}
use Rattle.hk_clocks.specs.declared.fault.ClockFault.TheVariants.{ClockFalls}
use Rattle.hk_clocks.specs.Steps.{ClockEvent, runs_apart, greatest_clock, rises_unless, starts, stops, ticks, clock_step}
use Rattle.hk_clocks.specs.Steps.ClockEvent.{Start, Stop, Tick, TickAll}
use Rattle.hk_clocks.specs.Paced.{DoNotFall, AreLeads}
use Rattle.hk_clocks.specs.Runs.{IsEvent, no_clocks, made_or, after, clocks_at, lead_of, leads_in}
use Rattle.hk_clocks.specs.Laws.{AreWithin, Rises, risen, run_at, RunPaced}
use Rattle.hk_clocks.specs.Sound.{AreClocks}
use Rattle.hk_clocks.proofs.Entries.{Among, finds, sorted_nil}
use Rattle.hk_clocks.proofs.Lookups.{same_at}
use Rattle.hk_clocks.proofs.Kept.{tick_kept, tick_all_kept, lead_low}
use Rattle.hk_clocks.proofs.Joins.{start_kept, stop_kept}
use Rattle.hk_clocks.proofs.Deciding.{decide}
use Rattle.hk_clocks.proofs.Following.{Follows, still, start_follows, stop_follows, rise_follows, fall_not, are_leads}

-- what a step keeps and how the clocks go by it
pub record Goes (c new : ClockState) : Type 0 where
  pub kept : AreClocks new
  pub follows : Follows c new

stays : (c : ClockState) → AreClocks c → Goes c c
stays c k = record { kept = k; follows = still c }

greatest_above : (low : ℕ) (paces : Paces) → low ≤ greatest_clock low paces
greatest_above low [] = le_refl low
greatest_above low (p ∷ paces) = let h = greatest_above (max low p.1.clock) paces in omega (arith, h)

pub below_greatest : (low : ℕ) (paces : Paces) (p : Actor × Pace) → Among paces p → p.1.clock ≤ greatest_clock low paces
below_greatest low [] p i = absurd i
below_greatest low (q ∷ paces) p (inl e) = let h = greatest_above (max low q.1.clock) paces in rw e (omega (arith, h))
below_greatest low (q ∷ paces) p (inr i) = below_greatest (max low q.1.clock) paces p i

pub one_rises : (c : ClockState) (a : Actor) (pace : Pace) (to : ℕ) → pace_of c.paces a ≡ Some pace → pace.clock ≤ to → Rises (One a to) c
one_rises c a pace to is up x p e = at (is_at (by_actor a) x) refl
  where
    at : (t : Bool) → is_at (by_actor a) x ≡ t → p.clock ≤ cond t to p.clock
    at true s = let same : Some pace ≡ Some p = sym is ∙ ap (pace_of c.paces) (same_at a x s) ∙ e in clock same
      where
        clock : Some pace ≡ Some p → p.clock ≤ to
        clock f = let g : pace ≡ p = cc in subst (λ (q : Pace). q.clock ≤ to) g up
    at false s = le_refl p.clock

pub all_rise : (c : ClockState) (to : ℕ) → greatest_clock 0 c.paces ≤ to → Rises (All to) c
all_rise c to up x p e = le_trans (below_greatest 0 c.paces (x, p) (finds x p c.paces e)) up

rise_goes : (c : ClockState) (rise : Rise) (to : ℕ) → AreClocks c → Rises rise c → (o : Option (Actor × Pace)) → (o ≡ None → AreClocks (risen rise c)) → Goes c (made_or c (rises_unless o c rise to))
rise_goes c rise to k up None kept = record { kept = kept refl; follows = rise_follows c k rise up }
rise_goes c rise to k up (Some q) kept = stays c k

pub goes : (c : ClockState) (event : ClockEvent) → AreClocks c → IsEvent event → Goes c (made_or c (clock_step c event))
goes c (Start a clock) k low = at (pace_of c.paces a) refl
  where
    at : (o : Option Pace) → pace_of c.paces a ≡ o → Goes c (made_or c (starts o c a clock))
    at None e = record { kept = start_kept c a clock k low; follows = start_follows c k a clock e }
    at (Some pace) e = stays c k
goes c (Stop a) k low = at (pace_of c.paces a)
  where
    at : (o : Option Pace) → Goes c (made_or c (stops o c a))
    at None = stays c k
    at (Some pace) = record { kept = stop_kept c a k; follows = stop_follows c k a }
goes c (Tick a to) k low = at (pace_of c.paces a) refl
  where
    up : (pace : Pace) → pace_of c.paces a ≡ Some pace → (t : Bool) → nat_lt to pace.clock ≡ t → Goes c (made_or c (cond t (Err (ClockFalls pace.clock)) (rises_unless (find (runs_apart c.skew (One a to) (a, pace)) c.paces) c (One a to) to)))
    up pace e true s = stays c k
    up pace e false s = rise_goes c (One a to) to k (one_rises c a pace to e (ltb-false to pace.clock s)) (find (runs_apart c.skew (One a to) (a, pace)) c.paces) (λ n. tick_kept c a pace to k low e n)

    at : (o : Option Pace) → pace_of c.paces a ≡ o → Goes c (made_or c (ticks o c a to))
    at None e = stays c k
    at (Some pace) e = up pace e (nat_lt to pace.clock) refl
goes c (TickAll to) k low = at (nat_lt to (greatest_clock 0 c.paces)) refl
  where
    at : (t : Bool) → nat_lt to (greatest_clock 0 c.paces) ≡ t →
        Goes c (made_or c (cond t (Err (ClockFalls (greatest_clock 0 c.paces))) (rises_unless (find (λ q. list_any (λ p. runs_apart c.skew (All to) p q) c.paces) c.paces) c (All to) to)))
    at true s = stays c k
    at false s = rise_goes c (All to) to k (all_rise c to (ltb-false to (greatest_clock 0 c.paces) s)) (find (λ q. list_any (λ p. runs_apart c.skew (All to) p q) c.paces) c.paces) (λ n. tick_all_kept c to k low n)

-- ---- the moments of a run
pub start_kept_all : (skew : ℕ) → skew ≤ MAX_TIME → AreClocks (no_clocks skew)
start_kept_all skew low = record { skew = low; ordered = sorted_nil; paces = tt }

first : (c : ClockState) (events : List ClockEvent) → clocks_at c events 0 ≡ c
first c [] = refl
first c (event ∷ events) = refl

pub kept_at : (c : ClockState) → AreClocks c → (events : List ClockEvent) → AllByRecursion IsEvent events → (i : ℕ) → AreClocks (clocks_at c events i)
kept_at c k [] all i = k
kept_at c k (event ∷ events) all zero = k
kept_at c k (event ∷ events) all (suc i) = kept_at (made_or c (clock_step c event)) (goes c event k all.0).kept events all.1 i

pub follow_at : (c : ClockState) → AreClocks c → (events : List ClockEvent) → AllByRecursion IsEvent events → (i : ℕ) → i < length events → Follows (clocks_at c events i) (clocks_at c events (suc i))
follow_at c k [] all i below = absurd (omega (arith, below))
follow_at c k (event ∷ events) all zero below = subst (λ (x : ClockState). Follows c x) (sym (first (made_or c (clock_step c event)) events)) (goes c event k all.0).follows
follow_at c k (event ∷ events) all (suc i) below = follow_at (made_or c (clock_step c event)) (goes c event k all.0).kept events all.1 i (omega (arith, below))

pub last_at : (c : ClockState) (events : List ClockEvent) → clocks_at c events (length events) ≡ after c events
last_at c [] = refl
last_at c (event ∷ events) = last_at (made_or c (clock_step c event)) events

pub skew_at : (c : ClockState) (events : List ClockEvent) (i : ℕ) → (clocks_at c events i).skew ≡ c.skew
skew_at c [] i = refl
skew_at c (event ∷ events) zero = refl
skew_at c (event ∷ events) (suc i) = skew_at (made_or c (clock_step c event)) events i ∙ by_event c event
  where
    rising : (c : ClockState) (rise : Rise) (to : ℕ) (o : Option (Actor × Pace)) → (made_or c (rises_unless o c rise to)).skew ≡ c.skew
    rising c rise to None = refl
    rising c rise to (Some q) = refl

    by_event : (c : ClockState) (event : ClockEvent) → (made_or c (clock_step c event)).skew ≡ c.skew
    by_event c (Start a clock) = at (pace_of c.paces a)
      where
        at : (o : Option Pace) → (made_or c (starts o c a clock)).skew ≡ c.skew
        at None = refl
        at (Some pace) = refl
    by_event c (Stop a) = at (pace_of c.paces a)
      where
        at : (o : Option Pace) → (made_or c (stops o c a)).skew ≡ c.skew
        at None = refl
        at (Some pace) = refl
    by_event c (Tick a to) = at (pace_of c.paces a)
      where
        up : (pace : Pace) (t : Bool) → (made_or c (cond t (Err (ClockFalls pace.clock)) (rises_unless (find (runs_apart c.skew (One a to) (a, pace)) c.paces) c (One a to) to))).skew ≡ c.skew
        up pace true = refl
        up pace false = rising c (One a to) to (find (runs_apart c.skew (One a to) (a, pace)) c.paces)

        at : (o : Option Pace) → (made_or c (ticks o c a to)).skew ≡ c.skew
        at None = refl
        at (Some pace) = up pace (nat_lt to pace.clock)
    by_event c (TickAll to) = at (nat_lt to (greatest_clock 0 c.paces))
      where
        at : (t : Bool) → (made_or c (cond t (Err (ClockFalls (greatest_clock 0 c.paces))) (rises_unless (find (λ q. list_any (λ p. runs_apart c.skew (All to) p q) c.paces) c.paces) c (All to) to))).skew ≡ c.skew
        at true = refl
        at false = rising c (All to) to (find (λ q. list_any (λ p. runs_apart c.skew (All to) p q) c.paces) c.paces)

-- leads of sound clocks are within their skew
pub lead_within : (c : ClockState) → AreClocks c → (a b : Actor) → lead_of c a b ≤ 1000 * c.skew
lead_within c k a b = at (pace_of c.paces a) refl
  where
    at : (o : Option Pace) → pace_of c.paces a ≡ o → leads_in o b ≤ 1000 * c.skew
    at None e = omega arith
    at (Some pace) e = lead_low c k (a, pace) (finds a pace c.paces e) b

pub none_first : (skew : ℕ) (events : List ClockEvent) (a b : Actor) → lead_of (clocks_at (no_clocks skew) events 0) a b ≡ 0
none_first skew events a b = ap (λ (c : ClockState). lead_of c a b) (first (no_clocks skew) events)

pub run_paced : RunPaced
run_paced skew low events all = record { rising = rising; rate = λ a b. (decide skew (run_at skew events) leads (length events) rising are a b).0 (within a b) }
  where
    k : AreClocks (no_clocks skew)
    k = start_kept_all skew low

    at : ℕ → ClockState
    at = clocks_at (no_clocks skew) events

    leads : ℕ → Actor → Actor → ℕ
    leads i = lead_of (at i)

    rising : DoNotFall (run_at skew events) (length events)
    rising = fall_not at (length events) (follow_at (no_clocks skew) k events all)

    are : AreLeads (run_at skew events) leads (length events)
    are = are_leads at (length events) (follow_at (no_clocks skew) k events all) (none_first skew events)

    within : (a b : Actor) → AreWithin skew (run_at skew events) leads (length events) a b
    within a b i upto is =
        let w = lead_within (at i) (kept_at (no_clocks skew) k events all i) a b in
        let s = skew_at (no_clocks skew) events i in
        omega (arith, w, s)
