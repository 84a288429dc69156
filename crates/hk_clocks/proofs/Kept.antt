-- What a step keeps of all clocks.
use Rattle.std.proofs.Common.{◌≡◌, ◌≤◌, ◌+◌, ◌*◌, ℕ, List, [], ◌∷◌, map, nat_lt, Bool, true, false, ◌||◌, cond, inl, inr, Option, Some, None, is_some, refl, sym, ap, subst, ◌∙◌, arith}
use Rattle.std.specs.declared.cmp.Ordering.{Ordering}
use Rattle.std.specs.declared.cmp.Ordering.TheVariants.{Less, Equal, Greater}
use Rattle.std.specs.Option.{option_map}
use Rattle.std.specs.List.{AllByRecursion, find, list_any}
use Rattle.std.specs.List.Sorted.{IsStrictlySortedBy}
use Rattle.std.specs.BTreeMap.{is_at}
use Rattle.std.specs.Map.{keys_of}
use Rattle.std.proofs.lemmas.Bool.{false≢true, ltb-true, ltb-false}
use Rattle.hk_base.specs.declared.letter.Actor.{Actor}
use Rattle.hk_base.specs.declared.time.TheConstants.{MAX_TIME}
use Rattle.hk_clocks.specs.declared.pace.Pace.{Pace}
use Rattle.hk_clocks.specs.declared.rise.Rise.{Rise}
use Rattle.hk_clocks.specs.declared.rise.Rise.TheVariants.{One, All}
use Rattle.hk_clocks.specs.Clocks.{ClockState, Paces, by_actor, pace_of, lead_over}
use Rattle.hk_clocks.specs.Steps.{clock_after, elapsed, lead_after, leads_after, pace_after, paces_after, runs_apart}
use Rattle.hk_clocks.specs.Sound.{AreBounded, IsRise, IsLead, IsPace, AreClocks}
use Rattle.hk_clocks.proofs.Entries.{Among, all_of, all_from, found, finds, keys_map, lookup_map, among_map, among_filter, same_actor}
use Rattle.hk_clocks.proofs.Ahead.{lead_bound, leads_sorted}

-- leads of clocks are within what bounds them all
pub bounded : (c : ClockState) → AreClocks c → AllByRecursion AreBounded c.paces
bounded c k = all_from AreBounded c.paces (λ p i. one p (all_of (IsPace c.skew c.paces) c.paces k.paces p i))
  where
    one : (p : Actor × Pace) → IsPace c.skew c.paces p → AreBounded p
    one p is = all_from (λ lead. lead.1 ≤ 1000 * MAX_TIME) p.1.leads (λ lead i. let l = all_of (IsLead c.skew c.paces) p.1.leads is.leads lead i in let w = l.within in let s = k.skew in omega (arith, w, s))

pub bounded_at : (c : ClockState) → AreClocks c → (a : Actor) (pace : Pace) → pace_of c.paces a ≡ Some pace → AreBounded (a, pace)
bounded_at c k a pace is = all_of AreBounded c.paces (bounded c k) (a, pace) (finds a pace c.paces is)

-- a live actor is one of those that are kept
live_one : (paces : Paces) → IsStrictlySortedBy by_actor (keys_of paces) → (q : Actor × Pace) → Among paces q → is_some (pace_of paces q.0) ≡ true
live_one paces sorted q i = ap is_some (found paces sorted q i)

still_live : (rise : Rise) (all paces : Paces) (a : Actor) → is_some (pace_of paces a) ≡ true → is_some (pace_of (map (λ p. (p.0, pace_after rise all p)) paces) a) ≡ true
still_live rise all paces a is = at (pace_of paces a) refl is
  where
    at : (o : Option Pace) → pace_of paces a ≡ o → is_some o ≡ true → is_some (pace_of (map (λ p. (p.0, pace_after rise all p)) paces) a) ≡ true
    at None e h = absurd (false≢true h)
    at (Some pace) e h = ap is_some (lookup_map (pace_after rise all) a paces pace e)

risen_clock : (rise : Rise) → IsRise rise → (a : Actor) (clock : ℕ) → clock ≤ MAX_TIME → clock_after rise a clock ≤ MAX_TIME
risen_clock (One b to) is a clock low = at (is_at (by_actor b) a)
  where
    at : (t : Bool) → cond t to clock ≤ MAX_TIME
    at true = is
    at false = low
risen_clock (All to) is a clock low = is

-- Clocks that rise stay sound where each lead stays within the skew.
pub rise_kept : (c : ClockState) (rise : Rise) → AreClocks c → IsRise rise → ((p q : Actor × Pace) → Among c.paces p → Among c.paces q → lead_after rise p q ≤ 1000 * c.skew) →
    AreClocks (record { skew = c.skew; paces = paces_after rise c.paces })
rise_kept c rise k is within = record {
  skew = k.skew;
  ordered = subst (IsStrictlySortedBy by_actor) (sym (keys_map (pace_after rise c.paces) c.paces)) k.ordered;
  paces = all_from (IsPace c.skew (paces_after rise c.paces)) (paces_after rise c.paces) (λ e i. let r = among_map (λ p. (p.0, pace_after rise c.paces p)) c.paces e i in rw r.2 (pace r.0 r.1));
}
  where
    lead : (p q : Actor × Pace) → Among c.paces p → Among c.paces q → nat_lt 0 (lead_after rise p q) ≡ true → IsLead c.skew (paces_after rise c.paces) (q.0, lead_after rise p q)
    lead p q i j above = record { above = let l = ltb-true 0 (lead_after rise p q) above in omega (arith, l); within = within p q i j; live = still_live rise c.paces c.paces q.0 (live_one c.paces k.ordered q j) }

    leads : (p : Actor × Pace) → Among c.paces p → (l : Actor × ℕ) → Among (leads_after rise c.paces p) l → IsLead c.skew (paces_after rise c.paces) l
    leads p i l j =
        let f = among_filter (λ lead. nat_lt 0 lead.1) (map (λ q. (q.0, lead_after rise p q)) c.paces) l j in
        let m = among_map (λ q. (q.0, lead_after rise p q)) c.paces l f.0 in
        rw m.2 (lead p m.0 i m.1 (ap (λ (x : Actor × ℕ). nat_lt 0 x.1) (sym m.2) ∙ f.1))

    pace : (p : Actor × Pace) → Among c.paces p → IsPace c.skew (paces_after rise c.paces) (p.0, pace_after rise c.paces p)
    pace p i = record {
      clock = risen_clock rise is p.0 p.1.clock (all_of (IsPace c.skew c.paces) c.paces k.paces p i).clock;
      ordered = leads_sorted rise p c.paces k.ordered;
      leads = all_from (IsLead c.skew (paces_after rise c.paces)) (leads_after rise c.paces p) (leads p i);
    }

-- where none is found, none passes
pub none_found : {X : Type 0} (test : X → Bool) (xs : List X) → find test xs ≡ None → (x : X) → Among xs x → test x ≡ false
none_found test [] e x i = absurd i
none_found {X} test (y ∷ ys) e x i = at (test y) refl e i (none_found test ys)
  where
    at : (t : Bool) → test y ≡ t → cond t (Some y) (find test ys) ≡ None → Among (y ∷ ys) x → (find test ys ≡ None → (x : X) → Among ys x → test x ≡ false) → test x ≡ false
    at true is e i ih = absurd cc
    at false is e (inl s) ih = ap test s ∙ is
    at false is e (inr i) ih = ih e x i

pub none_any : {X : Type 0} (test : X → Bool) (xs : List X) → list_any test xs ≡ false → (x : X) → Among xs x → test x ≡ false
none_any test [] e x i = absurd i
none_any {X} test (y ∷ ys) e x i = at (test y) refl e i (none_any test ys)
  where
    at : (t : Bool) → test y ≡ t → (t || list_any test ys) ≡ false → Among (y ∷ ys) x → (list_any test ys ≡ false → (x : X) → Among ys x → test x ≡ false) → test x ≡ false
    at true is e i ih = absurd cc
    at false is e (inl s) ih = ap test s ∙ is
    at false is e (inr i) ih = ih e x i

-- what does not run apart stays within the skew
pub stays : (skew : ℕ) (rise : Rise) (p q : Actor × Pace) → runs_apart skew rise p q ≡ false → lead_after rise p q ≤ 1000 * skew
stays skew rise p q e = let h = ltb-false (1100 * elapsed rise q + 1000 * skew) (lead_over p.1.leads q.0 + 1000 * elapsed rise p) e in omega (arith, h)

pub lead_low : (c : ClockState) → AreClocks c → (p : Actor × Pace) → Among c.paces p → (b : Actor) → lead_over p.1.leads b ≤ 1000 * c.skew
lead_low c k p i b = lead_bound (1000 * c.skew) p.1.leads b (all_from (λ lead. lead.1 ≤ 1000 * c.skew) p.1.leads (λ lead j. (all_of (IsLead c.skew c.paces) p.1.leads (all_of (IsPace c.skew c.paces) c.paces k.paces p i).leads lead j).within))

-- a tick of one actor
pub tick_kept : (c : ClockState) (a : Actor) (pace : Pace) (to : ℕ) → AreClocks c → to ≤ MAX_TIME → pace_of c.paces a ≡ Some pace → find (runs_apart c.skew (One a to) (a, pace)) c.paces ≡ None →
    AreClocks (record { skew = c.skew; paces = paces_after (One a to) c.paces })
tick_kept c a pace to k low is none = rise_kept c (One a to) k low within
  where
    at : (p q : Actor × Pace) → Among c.paces p → Among c.paces q → (o : Ordering) → by_actor a p.0 ≡ o → lead_after (One a to) p q ≤ 1000 * c.skew
    at p q i j Less e = let z : elapsed (One a to) p ≡ 0 = rw e (omega arith) in let l = lead_low c k p i q.0 in omega (arith, z, l)
    at p q i j Greater e = let z : elapsed (One a to) p ≡ 0 = rw e (omega arith) in let l = lead_low c k p i q.0 in omega (arith, z, l)
    at p q i j Equal e =
        let same : a ≡ p.0 = same_actor a p.0 e in
        let its : Some pace ≡ Some p.1 = sym is ∙ ap (pace_of c.paces) same ∙ found c.paces k.ordered p i in
        let here : p ≡ (a, pace) = one p same its in
        rw here (stays c.skew (One a to) (a, pace) q (none_found (runs_apart c.skew (One a to) (a, pace)) c.paces none q j))
      where
        one : (p : Actor × Pace) → a ≡ p.0 → Some pace ≡ Some p.1 → p ≡ (a, pace)
        one p e f = let x : pace ≡ p.1 = cc in rw (e, x) refl

    within : (p q : Actor × Pace) → Among c.paces p → Among c.paces q → lead_after (One a to) p q ≤ 1000 * c.skew
    within p q i j = at p q i j (by_actor a p.0) refl

pub tick_all_kept : (c : ClockState) (to : ℕ) → AreClocks c → to ≤ MAX_TIME → find (λ q. list_any (λ p. runs_apart c.skew (All to) p q) c.paces) c.paces ≡ None →
    AreClocks (record { skew = c.skew; paces = paces_after (All to) c.paces })
tick_all_kept c to k low none = rise_kept c (All to) k low within
  where
    within : (p q : Actor × Pace) → Among c.paces p → Among c.paces q → lead_after (All to) p q ≤ 1000 * c.skew
    within p q i j = stays c.skew (All to) p q (none_any (λ p. runs_apart c.skew (All to) p q) c.paces (none_found (λ q. list_any (λ p. runs_apart c.skew (All to) p q) c.paces) c.paces none q j) p i)

pub not_some : {X Y : Type 0} (f : X → Y) (o : Option X) → ((y : Y) → option_map f o ≡ Some y → ⊥) → o ≡ None
not_some f None none = refl
not_some f (Some x) none = absurd (none (f x) refl)

pub with_paces : (skew : ℕ) (new is : Paces) → new ≡ is → AreClocks (record { skew = skew; paces = is }) → AreClocks (record { skew = skew; paces = new })
with_paces skew new is e k = rw e k
