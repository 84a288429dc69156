-- A rise is refused exactly where the run with it would not keep the rate.
use Rattle.std.proofs.Common.{◌≡◌, ◌≢◌, ℕ, suc, ◌+◌, ◌-◌, ◌*◌, ◌<◌, ◌≤◌, List, length, Bool, true, false, cond, if◌then◌else◌, nat_lt, Option, Some, refl, sym, ap, subst, ◌∙◌, ⊎_elim, arith, le_refl}
use Rattle.std.specs.List.{AllByRecursion}
use Rattle.std.specs.BTreeMap.{is_at}
use Rattle.std.proofs.lemmas.Bool.{ltb-true, ltb-false, lt-ltb, le-ltb, cases_lt}
use Rattle.hk_base.specs.declared.letter.Actor.{Actor}
use Rattle.hk_base.specs.declared.time.TheConstants.{MAX_TIME}
use Rattle.hk_clocks.specs.declared.pace.Pace.{Pace}
use Rattle.hk_clocks.specs.declared.rise.Rise.{Rise}
use Rattle.hk_clocks.specs.declared.rise.Rise.TheVariants.{One}
use Rattle.hk_clocks.specs.Clocks.{ClockState, by_actor, pace_of, lead_over}
use Rattle.hk_clocks.specs.Steps.{ClockEvent, elapsed, lead_after, pace_after, runs_apart}
use Rattle.hk_clocks.specs.Paced.{Moment, AreLive, DoNotFall, KeepRate, AreLeads}
use Rattle.hk_clocks.specs.Runs.{IsEvent, no_clocks, after, clocks_at, seen, lead_of, leads_in}
use Rattle.hk_clocks.specs.Laws.{AreWithin, Rises, risen, run_at, with_next, IsExact, RefusedExactly, OthersStay}
use Rattle.hk_clocks.specs.Sound.{AreClocks}
use Rattle.hk_clocks.proofs.Entries.{finds, lookup_map}
use Rattle.hk_clocks.proofs.Lookups.{same_at, above_at}
use Rattle.hk_clocks.proofs.Kept.{lead_low}
use Rattle.hk_clocks.proofs.Deciding.{decide}
use Rattle.hk_clocks.proofs.Following.{Follows, rise_follows, fall_not, are_leads}
use Rattle.hk_clocks.proofs.Running.{start_kept_all, kept_at, follow_at, last_at, skew_at, lead_within, none_first}

module _ (skew : ℕ) (low : skew ≤ MAX_TIME) (events : List ClockEvent) (all : AllByRecursion IsEvent events) where
  k : AreClocks (no_clocks skew)
  k = start_kept_all skew low

  abbrev now : ClockState
  now = after (no_clocks skew) events

  pub sound : AreClocks now
  sound = subst AreClocks (last_at (no_clocks skew) events) (kept_at (no_clocks skew) k events all (length events))

  pub same_skew : now.skew ≡ skew
  same_skew = ap (λ (c : ClockState). c.skew) (sym (last_at (no_clocks skew) events)) ∙ skew_at (no_clocks skew) events (length events)

  module _ (rise : Rise) (up : Rises rise now) where
    -- the clocks at each moment, with the rise as one more
    abbrev states : ℕ → ClockState
    states i = if nat_lt (length events) i then risen rise now else clocks_at (no_clocks skew) events i

    upto : (i : ℕ) → i ≤ length events → states i ≡ clocks_at (no_clocks skew) events i
    upto i l = rw (le-ltb (length events) i l) refl

    beyond : (i : ℕ) → length events < i → states i ≡ risen rise now
    beyond i l = rw (lt-ltb (length events) i l) refl

    at_last : states (length events) ≡ now
    at_last = upto (length events) (le_refl (length events)) ∙ last_at (no_clocks skew) events

    follow : (i : ℕ) → i < suc (length events) → Follows (states i) (states (suc i))
    follow i below = ⊎_elim
        (λ (l : i < length events).
        let x = upto i (omega (arith, l)) in
        let y = upto (suc i) (omega (arith, l)) in
        rw (x, y) (follow_at (no_clocks skew) k events all i l))
        (λ (g : length events ≤ i).
        let e : i ≡ length events = omega (arith, g, below) in
        let x : states i ≡ now = ap states e ∙ at_last in
        let y : states (suc i) ≡ risen rise now = beyond (suc i) (omega (arith, g)) in
        rw (x, y) (rise_follows now sound rise up)) (cases_lt i (length events))

    seen_is : (i : ℕ) (t : Bool) → nat_lt (length events) i ≡ t → seen (states i) ≡ with_next (run_at skew events) (length events) (seen (risen rise now)) i
    seen_is i true e = rw e refl
    seen_is i false e = rw e refl

    abbrev moments : ℕ → Moment
    moments = with_next (run_at skew events) (length events) (seen (risen rise now))

    abbrev leads : ℕ → Actor → Actor → ℕ
    leads i = lead_of (states i)

    rising : DoNotFall moments (suc (length events))
    rising a from to f t live =
        let x = seen_is from (nat_lt (length events) from) refl in
        let y = seen_is to (nat_lt (length events) to) refl in
        rw (sym x, sym y) (fall_not states (suc (length events)) follow a from to f t (λ j g h. rw (seen_is j (nat_lt (length events) j) refl) (live j g h)))

    none : (a b : Actor) → lead_of (states 0) a b ≡ 0
    none a b = ap (λ (c : ClockState). lead_of c a b) (upto 0 (omega arith)) ∙ none_first skew events a b

    are : AreLeads moments leads (suc (length events))
    are = record {
      none = none;
      next = λ i below a b is.
          let x = seen_is i (nat_lt (length events) i) refl in
          let y = seen_is (suc i) (nat_lt (length events) (suc i)) refl in
          rw (sym x, sym y) ((are_leads states (suc (length events)) follow none).next i below a b (rw y is));
    }

    pair : (a b : Actor) (p q : Pace) → pace_of now.paces a ≡ Some p → pace_of now.paces b ≡ Some q → IsExact skew events rise (a, p) (b, q)
    pair a b p q is its = record { apart = apart; kept = kept }
      where
        both : (AreWithin skew moments leads (suc (length events)) a b → KeepRate skew moments (suc (length events)) a b) × (KeepRate skew moments (suc (length events)) a b → AreWithin skew moments leads (suc (length events)) a b)
        both = decide skew moments leads (suc (length events)) rising are a b

        new_a : pace_of (risen rise now).paces a ≡ Some (pace_after rise now.paces (a, p))
        new_a = lookup_map (pace_after rise now.paces) a now.paces p is

        new_b : pace_of (risen rise now).paces b ≡ Some (pace_after rise now.paces (b, q))
        new_b = lookup_map (pace_after rise now.paces) b now.paces q its

        at_end : states (suc (length events)) ≡ risen rise now
        at_end = beyond (suc (length events)) (omega arith)

        end_lead : leads (suc (length events)) a b ≡ lead_after rise (a, p) (b, q)
        end_lead = ap (λ (c : ClockState). lead_of c a b) at_end ∙ ap (λ (o : Option Pace). leads_in o b) new_a ∙ above_at (λ r. lead_after rise (a, p) r) b q now.paces sound.ordered its

        end_live : AreLive (moments (suc (length events))) a b
        end_live = subst (λ (m : Moment). AreLive m a b) (seen_is (suc (length events)) (nat_lt (length events) (suc (length events))) refl)
            (subst (λ (c : ClockState). AreLive (seen c) a b) (sym at_end) (record { first = rw new_a refl; second = rw new_b refl }))

        apart : runs_apart skew rise (a, p) (b, q) ≡ true → KeepRate skew moments (suc (length events)) a b → ⊥
        apart e keep =
            let w = both.1 keep (suc (length events)) (le_refl (suc (length events))) end_live in
            let l = ltb-true (1100 * elapsed rise (b, q) + 1000 * skew) (lead_over p.leads b + 1000 * elapsed rise (a, p)) e in
            absurd (omega (arith, w, l, end_lead))

        kept : runs_apart skew rise (a, p) (b, q) ≡ false → KeepRate skew moments (suc (length events)) a b
        kept e = both.0 (λ i h live. ⊎_elim
            (λ (l : i < suc (length events)).
            let x = ap (λ (c : ClockState). lead_of c a b) (upto i (omega (arith, l))) in
            let w = lead_within (clocks_at (no_clocks skew) events i) (kept_at (no_clocks skew) k events all i) a b in
            let s = skew_at (no_clocks skew) events i in
            omega (arith, x, w, s))
            (λ (g : suc (length events) ≤ i).
            let e2 : i ≡ suc (length events) = omega (arith, g, h) in
            let x : leads i a b ≡ lead_after rise (a, p) (b, q) = ap (λ (j : ℕ). leads j a b) e2 ∙ end_lead in
            let l = ltb-false (1100 * elapsed rise (b, q) + 1000 * skew) (lead_over p.leads b + 1000 * elapsed rise (a, p)) e in
            omega (arith, x, l)) (cases_lt i (suc (length events))))

  others : (a : Actor) (to : ℕ) (b c : Actor) (p q : Pace) → a ≢ b → pace_of now.paces b ≡ Some p → runs_apart skew (One a to) (b, p) (c, q) ≡ false
  others a to b c p q ne is =
      let z : elapsed (One a to) (b, p) ≡ 0 = at (is_at (by_actor a) b) refl in
      let w = lead_low now sound (b, p) (finds b p now.paces is) c in
      let s = same_skew in
      le-ltb (1100 * elapsed (One a to) (c, q) + 1000 * skew) (lead_over p.leads c + 1000 * elapsed (One a to) (b, p)) (omega (arith, z, w, s))
    where
      at : (t : Bool) → is_at (by_actor a) b ≡ t → cond t to p.clock - p.clock ≡ 0
      at true e = absurd (ne (same_at a b e))
      at false e = omega arith

pub refused_exactly : RefusedExactly
refused_exactly skew low events all rise up a b p q is its = pair skew low events all rise up a b p q is its

pub others_stay : OthersStay
others_stay skew low events all a to b c p q ne is = others skew low events all a to b c p q ne is
