-- What the clocks of live actors read after an event of clocks.
use Rattle.std.proofs.Common.{◌≡◌, ◌≢◌, ◌≤◌, ℕ, [], ◌∷◌, map, nat_lt, max, Bool, true, false, cond, Option, Some, None, Result, Ok, Err, inl, inr, ⊎_elim, refl, sym, ap, subst, ◌∙◌, arith, le_trans}
use Rattle.std.specs.Option.{option_map}
use Rattle.std.specs.List.{find, list_any}
use Rattle.std.specs.BTreeMap.{is_at}
use Rattle.std.specs.Map.{remove_entry}
use Rattle.std.proofs.lemmas.Bool.{ltb-false}
use Rattle.hk_base.specs.declared.letter.Actor.{Actor}
use Rattle.hk_base.specs.declared.time.TheConstants.{MAX_TIME}
use Rattle.hk_clocks.specs.declared.fault.ClockFault.{ClockFault}
use Rattle.hk_clocks.specs.declared.fault.ClockFault.TheVariants.{ClockFalls}
use Rattle.hk_clocks.specs.declared.pace.Pace.{Pace}
use Rattle.hk_clocks.specs.declared.rise.Rise.{Rise}
use Rattle.hk_clocks.specs.declared.rise.Rise.TheVariants.{One, All}
use Rattle.hk_clocks.specs.Clocks.{ClockState, Paces, by_actor, pace_of, clock_of}
use Rattle.hk_clocks.specs.Steps.{ClockEvent, clock_step, clock_after, pace_after, paces_after, runs_apart, rises_unless, ticks, starts, stops, forgets, greatest_clock}
use Rattle.hk_clocks.specs.Steps.ClockEvent.{Start, Stop, Tick, TickAll}
use Rattle.hk_clocks.specs.Runs.{IsEvent, made_or}
use Rattle.hk_clocks.specs.Sound.{IsPace, AreClocks}
use Rattle.hk_clocks.proofs.Entries.{Among, all_of, finds, lookup_map}
use Rattle.hk_clocks.proofs.Lookups.{at_itself, which, put_same, put_other, out_same, out_other}
use Rattle.hk_clocks.proofs.Following.{none_map}
use Rattle.hk_clocks.proofs.Running.{goes, below_greatest, skew_at}

abbrev forgetting : Actor → Actor × Pace → Pace
forgetting a p = record p.1 { leads = remove_entry (is_at (by_actor a)) p.1.leads }

abbrev clock_in : Option Pace → Option ℕ
clock_in o = option_map (λ pace. pace.clock) o

-- ---- clocks that rise
risen_clock : (rise : Rise) (paces : Paces) (a : Actor) → clock_of (paces_after rise paces) a ≡ option_map (clock_after rise a) (clock_of paces a)
risen_clock rise paces a = at (pace_of paces a) refl
  where
    at : (o : Option Pace) → pace_of paces a ≡ o → clock_of (paces_after rise paces) a ≡ option_map (clock_after rise a) (clock_in o)
    at None e = ap clock_in (none_map (pace_after rise paces) a paces e)
    at (Some pace) e = ap clock_in (lookup_map (pace_after rise paces) a paces pace e)

-- a tick of one actor that was made
pub record Ticked (c new : ClockState) (a : Actor) (to : ℕ) : Type 0 where
  pub same_skew : new.skew ≡ c.skew
  pub own : clock_of new.paces a ≡ Some to
  pub others : (b : Actor) → a ≢ b → clock_of new.paces b ≡ clock_of c.paces b
  -- the clock that it had
  pub before : (clock : ℕ) → clock_of c.paces a ≡ Some clock → clock ≤ to

-- the values of clocks are one
same_clock : (x y : ℕ) → ◌≡◌ {A = Option ℕ} (Some x) (Some y) → x ≡ y
same_clock x y e = cc

of_ok : {X : Type 0} (x y : X) → ◌≡◌ {A = Result X ClockFault} (Ok x) (Ok y) → x ≡ y
of_ok x y e = cc

one_other : (a b : Actor) (to : ℕ) (o : Option ℕ) → is_at (by_actor a) b ≡ false → option_map (clock_after (One a to) b) o ≡ o
one_other a b to None ne = refl
one_other a b to (Some clock) ne = ap (λ (t : Bool). Some (cond t to clock)) ne

pub tick_ticked : (c new : ClockState) (a : Actor) (to : ℕ) → clock_step c (Tick a to) ≡ Ok new → Ticked c new a to
tick_ticked c new a to is = at (pace_of c.paces a) refl is
  where
    risen : ClockState
    risen = record c { paces = paces_after (One a to) c.paces }

    made : (pace : Pace) → pace_of c.paces a ≡ Some pace → pace.clock ≤ to → risen ≡ new → Ticked c new a to
    made pace e up same = subst (λ (n : ClockState). Ticked c n a to) same (record {
      same_skew = refl;
      own = risen_clock (One a to) c.paces a ∙ ap (λ (o : Option Pace). option_map (clock_after (One a to) a) (clock_in o)) e ∙ ap (λ (t : Bool). Some (cond t to pace.clock)) (at_itself a);
      others = λ b ne. ⊎_elim (λ (s : a ≡ b). absurd (ne s)) (λ (o : (a ≡ b → ⊥) × (is_at (by_actor a) b ≡ false) × (is_at (by_actor b) a ≡ false)). risen_clock (One a to) c.paces b ∙ one_other a b to (clock_of c.paces b) o.1) (which a b);
      before = λ clock h. let s : pace.clock ≡ clock = same_clock pace.clock clock (sym (ap clock_in e) ∙ h) in subst (λ (n : ℕ). n ≤ to) s up;
    })

    unless : (pace : Pace) → pace_of c.paces a ≡ Some pace → pace.clock ≤ to → (o : Option (Actor × Pace)) → rises_unless o c (One a to) to ≡ Ok new → Ticked c new a to
    unless pace e up None h = made pace e up (of_ok _ _ h)
    unless pace e up (Some q) h = absurd cc

    up : (pace : Pace) → pace_of c.paces a ≡ Some pace → (t : Bool) → nat_lt to pace.clock ≡ t →
        cond t (Err (ClockFalls pace.clock)) (rises_unless (find (runs_apart c.skew (One a to) (a, pace)) c.paces) c (One a to) to) ≡ Ok new → Ticked c new a to
    up pace e true s h = absurd cc
    up pace e false s h = unless pace e (ltb-false to pace.clock s) (find (runs_apart c.skew (One a to) (a, pace)) c.paces) h

    at : (o : Option Pace) → pace_of c.paces a ≡ o → ticks o c a to ≡ Ok new → Ticked c new a to
    at None e h = absurd cc
    at (Some pace) e h = up pace e (nat_lt to pace.clock) refl h

-- a tick of all that was made
pub record AllTicked (c new : ClockState) (to : ℕ) : Type 0 where
  pub same_skew : new.skew ≡ c.skew
  pub each : (a : Actor) → clock_of new.paces a ≡ option_map (λ clock. to) (clock_of c.paces a)
  pub before : (a : Actor) (clock : ℕ) → clock_of c.paces a ≡ Some clock → clock ≤ to

below_all : (paces : Paces) (a : Actor) (clock : ℕ) → clock_of paces a ≡ Some clock → clock ≤ greatest_clock 0 paces
below_all paces a clock is = at (pace_of paces a) refl is
  where
    at : (o : Option Pace) → pace_of paces a ≡ o → clock_in o ≡ Some clock → clock ≤ greatest_clock 0 paces
    at None e h = absurd cc
    at (Some pace) e h = subst (λ (n : ℕ). n ≤ greatest_clock 0 paces) (same_clock pace.clock clock h) (below_greatest 0 paces (a, pace) (finds a pace paces e))

pub all_ticked : (c new : ClockState) (to : ℕ) → clock_step c (TickAll to) ≡ Ok new → AllTicked c new to
all_ticked c new to is = at (nat_lt to (greatest_clock 0 c.paces)) refl is
  where
    risen : ClockState
    risen = record c { paces = paces_after (All to) c.paces }

    made : greatest_clock 0 c.paces ≤ to → risen ≡ new → AllTicked c new to
    made up same = subst (λ (n : ClockState). AllTicked c n to) same (record {
      same_skew = refl;
      each = λ a. risen_clock (All to) c.paces a;
      before = λ a clock h. le_trans (below_all c.paces a clock h) up;
    })

    unless : greatest_clock 0 c.paces ≤ to → (o : Option (Actor × Pace)) → rises_unless o c (All to) to ≡ Ok new → AllTicked c new to
    unless up None h = made up (of_ok _ _ h)
    unless up (Some q) h = absurd cc

    at : (t : Bool) → nat_lt to (greatest_clock 0 c.paces) ≡ t →
        cond t (Err (ClockFalls (greatest_clock 0 c.paces))) (rises_unless (find (λ q. list_any (λ p. runs_apart c.skew (All to) p q) c.paces) c.paces) c (All to) to) ≡ Ok new → AllTicked c new to
    at true s h = absurd cc
    at false s h = unless (ltb-false to (greatest_clock 0 c.paces) s) (find (λ q. list_any (λ p. runs_apart c.skew (All to) p q) c.paces) c.paces) h

-- ---- an actor that starts, or stops
pub start_own : (c : ClockState) (a : Actor) (clock : ℕ) → pace_of c.paces a ≡ None → clock_of (made_or c (clock_step c (Start a clock))).paces a ≡ Some clock
start_own c a clock none = rw none (ap clock_in (put_same a (record { clock = clock; leads = [] }) c.paces))

pub start_other : (c : ClockState) (a b : Actor) (clock : ℕ) → a ≢ b → clock_of (made_or c (clock_step c (Start a clock))).paces b ≡ clock_of c.paces b
start_other c a b clock ne = at (pace_of c.paces a)
  where
    at : (o : Option Pace) → clock_of (made_or c (starts o c a clock)).paces b ≡ clock_of c.paces b
    at (Some pace) = refl
    at None = ⊎_elim (λ (s : b ≡ a). absurd (ne (sym s))) (λ (o : (b ≡ a → ⊥) × (is_at (by_actor b) a ≡ false) × (is_at (by_actor a) b ≡ false)). ap clock_in (put_other b a (record { clock = clock; leads = [] }) c.paces o.1)) (which b a)

pub stop_own : (c : ClockState) (a : Actor) → AreClocks c → clock_of (made_or c (clock_step c (Stop a))).paces a ≡ None
stop_own c a k = at (pace_of c.paces a) refl
  where
    at : (o : Option Pace) → pace_of c.paces a ≡ o → clock_of (made_or c (stops o c a)).paces a ≡ None
    at None e = ap clock_in e
    at (Some pace) e = ap clock_in (none_map (forgetting a) a (remove_entry (is_at (by_actor a)) c.paces) (out_same a c.paces k.ordered))

pub stop_other : (c : ClockState) (a b : Actor) → a ≢ b → clock_of (made_or c (clock_step c (Stop a))).paces b ≡ clock_of c.paces b
stop_other c a b ne = at (pace_of c.paces a)
  where
    -- an other one is as it was, but for its lead over the actor that stops
    kept : is_at (by_actor b) a ≡ false → (o : Option Pace) → pace_of c.paces b ≡ o → clock_of (map (forgets a) (remove_entry (is_at (by_actor a)) c.paces)) b ≡ clock_in o
    kept d None e = ap clock_in (none_map (forgetting a) b (remove_entry (is_at (by_actor a)) c.paces) (out_other b a c.paces d ∙ e))
    kept d (Some pace) e = ap clock_in (lookup_map (forgetting a) b (remove_entry (is_at (by_actor a)) c.paces) pace (out_other b a c.paces d ∙ e))

    at : (o : Option Pace) → clock_of (made_or c (stops o c a)).paces b ≡ clock_of c.paces b
    at None = refl
    at (Some pace) = ⊎_elim (λ (s : b ≡ a). absurd (ne (sym s))) (λ (o : (b ≡ a → ⊥) × (is_at (by_actor b) a ≡ false) × (is_at (by_actor a) b ≡ false)). kept o.1 (pace_of c.paces b) refl) (which b a)

-- ---- what clocks keep
pub goes_on : (c : ClockState) (event : ClockEvent) → AreClocks c → IsEvent event → AreClocks (made_or c (clock_step c event))
goes_on c event k low = (goes c event k low).kept

pub made_on : (c new : ClockState) (event : ClockEvent) → AreClocks c → IsEvent event → clock_step c event ≡ Ok new → AreClocks new
made_on c new event k low is = subst (λ (r : Result ClockState ClockFault). AreClocks (made_or c r)) is (goes_on c event k low)

-- no clock is past the limit
greatest_low : (paces : Paces) (low : ℕ) → low ≤ MAX_TIME → ((p : Actor × Pace) → Among paces p → p.1.clock ≤ MAX_TIME) → greatest_clock low paces ≤ MAX_TIME
greatest_low [] low within each = within
greatest_low (p ∷ paces) low within each = let h = each p (inl refl) in greatest_low paces (max low p.1.clock) (omega (arith, within, h)) (λ q i. each q (inr i))

pub greatest_within : (c : ClockState) (low : ℕ) → AreClocks c → low ≤ MAX_TIME → greatest_clock low c.paces ≤ MAX_TIME
greatest_within c low k within = greatest_low c.paces low within (λ p i. (all_of (IsPace c.skew c.paces) c.paces k.paces p i).clock)

pub greatest_above : (low : ℕ) (paces : Paces) → low ≤ greatest_clock low paces
greatest_above low [] = omega arith
greatest_above low (p ∷ paces) = let h = greatest_above (max low p.1.clock) paces in omega (arith, h)

pub step_skew : (c : ClockState) (event : ClockEvent) → (made_or c (clock_step c event)).skew ≡ c.skew
step_skew c event = skew_at c (event ∷ []) 1

pub step_skew_of : (c new : ClockState) (event : ClockEvent) → clock_step c event ≡ Ok new → new.skew ≡ c.skew
step_skew_of c new event is = subst (λ (r : Result ClockState ClockFault). (made_or c r).skew ≡ c.skew) is (step_skew c event)
