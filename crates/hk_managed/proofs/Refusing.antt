-- A world refuses a rise of clocks exactly where the run with it would not keep the rate.
use Rattle.std.proofs.Common.{◌≡◌, ℕ, suc, ◌*◌, ◌+◌, ◌<◌, ◌≤◌, List, [], ◌∷◌, length, Bool, true, false, ◌||◌, cond, if◌then◌else◌, nat_lt, Option, Some, None, Result, Ok, Err, is_some, unwrap_or, refl, sym, ap, subst, ◌∙◌, inl, inr, ⊎_elim, arith, le_refl}
use Rattle.std.specs.declared.cmp.Ordering.{Ordering}
use Rattle.std.specs.declared.cmp.Ordering.TheVariants.{Less, Greater}
use Rattle.std.specs.Bool.{⊤}
use Rattle.std.specs.Ordering.{ordering_reverse}
use Rattle.std.specs.Option.{option_map}
use Rattle.std.specs.List.{AllByRecursion, find, list_any}
use Rattle.std.specs.List.Sorted.{IsStrictlySortedBy}
use Rattle.std.specs.Map.{keys_of}
use Rattle.std.proofs.lemmas.Bool.{ltb-true, ltb-false, lt-ltb, le-ltb, cases_lt, false≢true}
use Rattle.std.proofs.lemmas.Map.Keys.{sorted_head, sorted_tail}
use Rattle.hk_base.specs.declared.letter.Actor.{Actor}
use Rattle.hk_base.specs.declared.letter.Actor.TheVariants.{Node, Manager}
use Rattle.hk_base.specs.declared.stamp.NodeId.{NodeId}
use Rattle.hk_clocks.specs.declared.pace.Pace.{Pace}
use Rattle.hk_clocks.specs.declared.rise.Rise.{Rise}
use Rattle.hk_clocks.specs.declared.rise.Rise.TheVariants.{One, All}
use Rattle.hk_clocks.specs.declared.fault.ClockFault.{ClockFault}
use Rattle.hk_clocks.specs.declared.fault.ClockFault.TheVariants as fault
use Rattle.hk_clocks.specs.Clocks.{ClockState, Paces, by_actor, pace_of, lead_over}
use Rattle.hk_clocks.specs.Steps.{ClockEvent, elapsed, lead_after, pace_after, clock_after, runs_apart, greatest_clock, rises_unless, ticks, clock_step}
use Rattle.hk_clocks.specs.Paced.{Moment, AreLive, AreLiveFrom, DoNotFall, KeepRate, AreLeads}
use Rattle.hk_clocks.specs.Runs.{seen, lead_of, leads_in}
use Rattle.hk_clocks.specs.Laws.{AreWithin, Rises, risen as risen_clocks, with_next}
use Rattle.hk_clocks.specs.Sound.{AreClocks}
use Rattle.hk_clocks.proofs.Entries.{Among, by_actor_total, found, finds, keys_below, lookup_map}
use Rattle.hk_clocks.proofs.Lookups.{above_at}
use Rattle.hk_clocks.proofs.Kept.{none_found, none_any}
use Rattle.hk_clocks.proofs.Deciding.{decide}
use Rattle.hk_clocks.proofs.Following.{Follows, none_map, rise_follows, fall_not, are_leads}
use Rattle.hk_clocks.proofs.Running.{one_rises, all_rise, lead_within}
use Rattle.hk_manager.specs.Manager.{ManagerState}
use Rattle.hk_node.specs.Node.{NodeState}
use Rattle.hk_event.specs.declared.event.Header.{Header}
use Rattle.hk_event.specs.declared.event.Event.{Event}
use Rattle.hk_event.specs.declared.event.Event.TheVariants.{Tick, TickAll}
use Rattle.hk_world.specs.declared.process.Process.{Process}
use Rattle.hk_world.specs.declared.process.ManagerProcess.{ManagerProcess}
use Rattle.hk_world.specs.World.{WorldState, process_at, manager_at, clocks_of}
use Rattle.hk_world.specs.Start.{founding_actors, start}
use Rattle.hk_world.specs.Steps.{running_at, live_at, managing_at, live_manager_at, ticked_by, ticks_at, manager_ticked_by, manager_ticks_at, all_ticked_by, world_step}
use Rattle.hk_world.specs.Sound.{IsHeader, IsEvent, IsWorld}
use Rattle.hk_world.specs.Laws.{StartIsSound, StepKeepsSound}
use Rattle.hk_managed.specs.Rate.{moment_of, world_at}
use Rattle.hk_managed.specs.Refusing.{last_world, last_moment, IsLive, risen, KeepsWith, IsFirstLeft, IsRiseAnswer, WorldsRefuseExactly}
use Rattle.hk_managed.proofs.Pacing.{first_at, sound_at, follow_at, skew_at, no_leads}

-- ---- the first of entries in rising order
record IsFirst (test : Actor × Pace → Bool) (es : Paces) (q : Actor × Pace) : Type 0 where
  among : Among es q
  passes : test q ≡ true
  before : (x : Actor × Pace) → Among es x → by_actor x.0 q.0 ≡ Less → test x ≡ false

not_below : (a b : Actor) → by_actor a b ≡ Less → by_actor b a ≡ Less → ⊥
not_below a b p q = absurd (differs (sym (by_actor_total.antisymm b a) ∙ q) (ap ordering_reverse p))
  where
    differs : {o : Ordering} → o ≡ Less → o ≡ Greater → ⊥
    differs e f = absurd cc

first_found : (test : Actor × Pace → Bool) (es : Paces) (q : Actor × Pace) → IsStrictlySortedBy by_actor (keys_of es) → find test es ≡ Some q → IsFirst test es q
first_found test [] q sorted e = absurd cc
first_found test (y ∷ ys) q sorted e = at (test y) refl e (first_found test ys q (sorted_tail by_actor y.0 (keys_of ys) sorted))
  where
    below : (x : Actor × Pace) → Among ys x → by_actor y.0 x.0 ≡ Less
    below = keys_below y.0 ys (sorted_head by_actor y.0 (keys_of ys) sorted)

    none_before : (x : Actor × Pace) → Among (y ∷ ys) x → by_actor x.0 y.0 ≡ Less → test x ≡ false
    none_before x (inl s) l = absurd (not_below y.0 x.0 (subst (λ (z : Actor × Pace). by_actor y.0 z.0 ≡ Less) (sym s) (subst (λ (z : Actor × Pace). by_actor z.0 y.0 ≡ Less) s l)) l)
    none_before x (inr i) l = absurd (not_below y.0 x.0 (below x i) l)

    at : (t : Bool) → test y ≡ t → cond t (Some y) (find test ys) ≡ Some q → (find test ys ≡ Some q → IsFirst test ys q) → IsFirst test (y ∷ ys) q
    at true is e ih =
        let s : y ≡ q = cc in
        subst (λ (z : Actor × Pace). IsFirst test (y ∷ ys) z) s (record { among = inl refl; passes = is; before = none_before })
    at false is e ih =
        let f = ih e in
        record { among = inr f.among; passes = f.passes; before = λ x i l. before f x i l }
      where
        before : IsFirst test ys q → (x : Actor × Pace) → Among (y ∷ ys) x → by_actor x.0 q.0 ≡ Less → test x ≡ false
        before f x (inl s) l = ap test s ∙ is
        before f x (inr i) l = f.before x i l

record Passes (test : Actor × Pace → Bool) (es : Paces) : Type 0 where
  one : Actor × Pace
  among : Among es one
  passes : test one ≡ true

some_passes : (test : Actor × Pace → Bool) (es : Paces) → list_any test es ≡ true → Passes test es
some_passes test [] e = absurd cc
some_passes test (y ∷ ys) e = at (test y) refl e (some_passes test ys)
  where
    at : (t : Bool) → test y ≡ t → (t || list_any test ys) ≡ true → (list_any test ys ≡ true → Passes test ys) → Passes test (y ∷ ys)
    at true is e ih = record { one = y; among = inl refl; passes = is }
    at false is e ih = let p = ih e in record { one = p.one; among = inr p.among; passes = p.passes }

-- ---- moments that look the same, at least of whoever is live
module _ (at same : ℕ → Moment) (live : (i : ℕ) (a : Actor) → (same i).live a ≡ (at i).live a) (clock : (i : ℕ) (a : Actor) → (at i).live a ≡ true → (same i).clock a ≡ (at i).clock a) where
  keep_as : (skew last : ℕ) (a b : Actor) → KeepRate skew at last a b → KeepRate skew same last a b
  keep_as skew last a b keep from to up upto is =
      let h = keep from to up upto was in
      let f = was from (le_refl from) up in
      let t = was to up (le_refl to) in
      let x = clock from a f.first in let y = clock to a t.first in let u = clock from b f.second in let v = clock to b t.second in
      omega (arith, h, x, y, u, v)
    where
      was : AreLiveFrom at from to a b
      was j low high = let l = is j low high in record { first = sym (live j a) ∙ l.first; second = sym (live j b) ∙ l.second }

-- ---- clocks, one moment after the other, and a rise as one more
module _ (skew n : ℕ) (c : ℕ → ClockState) (sound : (i : ℕ) → AreClocks (c i)) (skews : (i : ℕ) → (c i).skew ≡ skew)
    (goes : (i : ℕ) → i < n → Follows (c i) (c (suc i))) (none : (a b : Actor) → lead_of (c 0) a b ≡ 0) where
  module _ (rise : Rise) (up : Rises rise (c n)) where
    abbrev states : ℕ → ClockState
    states i = if nat_lt n i then risen_clocks rise (c n) else c i

    upto : (i : ℕ) → i ≤ n → states i ≡ c i
    upto i l = rw (le-ltb n i l) refl

    beyond : (i : ℕ) → n < i → states i ≡ risen_clocks rise (c n)
    beyond i l = rw (lt-ltb n i l) refl

    follow : (i : ℕ) → i < suc n → Follows (states i) (states (suc i))
    follow i below = ⊎_elim
        (λ (l : i < n).
        let x = upto i (omega (arith, l)) in
        let y = upto (suc i) (omega (arith, l)) in
        rw (x, y) (goes i l))
        (λ (g : n ≤ i).
        let e : i ≡ n = omega (arith, g, below) in
        let x : states i ≡ c n = ap states e ∙ upto n (le_refl n) in
        let y : states (suc i) ≡ risen_clocks rise (c n) = beyond (suc i) (omega (arith, g)) in
        rw (x, y) (rise_follows (c n) (sound n) rise up)) (cases_lt i n)

    abbrev moments : ℕ → Moment
    moments i = seen (states i)

    abbrev leads : ℕ → Actor → Actor → ℕ
    leads i = lead_of (states i)

    rising : DoNotFall (λ i. seen (states i)) (suc n)
    rising = fall_not states (suc n) follow

    none_first : (a b : Actor) → lead_of (states 0) a b ≡ 0
    none_first a b = ap (λ (k : ClockState). lead_of k a b) (upto 0 (omega arith)) ∙ none a b

    are : AreLeads (λ i. seen (states i)) (λ i. lead_of (states i)) (suc n)
    are = are_leads states (suc n) follow none_first

    -- the pair would run apart exactly where it would not keep the rate
    record Decides (p q : Actor × Pace) : Type 0 where
      apart : runs_apart skew rise p q ≡ true → KeepRate skew (λ i. seen (states i)) (suc n) p.0 q.0 → ⊥
      kept : runs_apart skew rise p q ≡ false → KeepRate skew (λ i. seen (states i)) (suc n) p.0 q.0

    pair : (a b : Actor) (p q : Pace) → pace_of (c n).paces a ≡ Some p → pace_of (c n).paces b ≡ Some q → Decides (a, p) (b, q)
    pair a b p q is its = record { apart = apart; kept = kept }
      where
        both : (AreWithin skew (λ i. seen (states i)) leads (suc n) a b → KeepRate skew (λ i. seen (states i)) (suc n) a b) × (KeepRate skew (λ i. seen (states i)) (suc n) a b → AreWithin skew (λ i. seen (states i)) leads (suc n) a b)
        both = decide skew (λ i. seen (states i)) leads (suc n) rising are a b

        new_a : pace_of (risen_clocks rise (c n)).paces a ≡ Some (pace_after rise (c n).paces (a, p))
        new_a = lookup_map (pace_after rise (c n).paces) a (c n).paces p is

        new_b : pace_of (risen_clocks rise (c n)).paces b ≡ Some (pace_after rise (c n).paces (b, q))
        new_b = lookup_map (pace_after rise (c n).paces) b (c n).paces q its

        at_end : states (suc n) ≡ risen_clocks rise (c n)
        at_end = beyond (suc n) (omega arith)

        end_lead : leads (suc n) a b ≡ lead_after rise (a, p) (b, q)
        end_lead = ap (λ (k : ClockState). lead_of k a b) at_end ∙ ap (λ (o : Option Pace). leads_in o b) new_a ∙ above_at (λ r. lead_after rise (a, p) r) b q (c n).paces (sound n).ordered its

        end_live : AreLive (seen (states (suc n))) a b
        end_live = subst (λ (k : ClockState). AreLive (seen k) a b) (sym at_end) (record { first = rw new_a refl; second = rw new_b refl })

        apart : runs_apart skew rise (a, p) (b, q) ≡ true → KeepRate skew (λ i. seen (states i)) (suc n) a b → ⊥
        apart e keep =
            let w = both.1 keep (suc n) (le_refl (suc n)) end_live in
            let l = ltb-true (1100 * elapsed rise (b, q) + 1000 * skew) (lead_over p.leads b + 1000 * elapsed rise (a, p)) e in
            absurd (omega (arith, w, l, end_lead))

        kept : runs_apart skew rise (a, p) (b, q) ≡ false → KeepRate skew (λ i. seen (states i)) (suc n) a b
        kept e = both.0 (λ i h live. ⊎_elim
            (λ (l : i < suc n).
            let x = ap (λ (k : ClockState). lead_of k a b) (upto i (omega (arith, l))) in
            let w = lead_within (c i) (sound i) a b in
            let s = skews i in
            omega (arith, x, w, s))
            (λ (g : suc n ≤ i).
            let e2 : i ≡ suc n = omega (arith, g, h) in
            let x : leads i a b ≡ lead_after rise (a, p) (b, q) = ap (λ (j : ℕ). leads j a b) e2 ∙ end_lead in
            let l = ltb-false (1100 * elapsed rise (b, q) + 1000 * skew) (lead_over p.leads b + 1000 * elapsed rise (a, p)) e in
            omega (arith, x, l)) (cases_lt i (suc n)))

-- ---- a group
module _ (starts : StartIsSound) (steps : StepKeepsSound) (h : Header) (is : IsHeader h) (events : List Event) (all : AllByRecursion IsEvent events) where
  abbrev n : ℕ
  n = length events

  abbrev c : ℕ → ClockState
  c i = clocks_of (world_at (start h) events i)

  abbrev now : ClockState
  now = clocks_of (last_world h events)

  sound : (i : ℕ) → IsWorld (world_at (start h) events i)
  sound = sound_at steps (start h) (starts h is) events all

  same_skew : now.skew ≡ h.skew
  same_skew = skew_at steps (start h) (starts h is) events all (length events)

  none : (a b : Actor) → lead_of (c 0) a b ≡ 0
  none a b = ap (λ (w : WorldState). lead_of (clocks_of w) a b) (first_at (start h) events) ∙ no_leads (founding_actors h) a b

  -- ---- what a world shows of its clocks
  live_is : (i : ℕ) (a : Actor) → (moment_of (world_at (start h) events i)).live a ≡ (seen (c i)).live a
  live_is i a = ap is_some (sym ((sound i).paced a))

  clock_is : (i : ℕ) (a : Actor) → (moment_of (world_at (start h) events i)).clock a ≡ (seen (c i)).clock a
  clock_is i a = ap (λ (o : Option ℕ). unwrap_or o 0) (sym ((sound i).paced a))

  record HasPace (a : Actor) : Type 0 where
    pace : Pace
    at : pace_of now.paces a ≡ Some pace

  has_pace : (a : Actor) → IsLive h events a → HasPace a
  has_pace a live = by (pace_of now.paces a) refl
    where
      by : (o : Option Pace) → pace_of now.paces a ≡ o → HasPace a
      by None e = absurd (false≢true (ap (λ (o : Option Pace). is_some (option_map (λ pace. pace.clock) o)) (sym e) ∙ sym (live_is n a) ∙ live))
      by (Some pace) e = record { pace = pace; at = e }

  is_live : (a : Actor) (pace : Pace) → pace_of now.paces a ≡ Some pace → IsLive h events a
  is_live a pace e = live_is n a ∙ ap (λ (o : Option Pace). is_some (option_map (λ pace. pace.clock) o)) e

  reading : (a : Actor) (pace : Pace) → pace_of now.paces a ≡ Some pace → pace.clock ≡ (last_moment h events).clock a
  reading a pace e = sym (clock_is n a ∙ ap (λ (o : Option Pace). unwrap_or (option_map (λ pace. pace.clock) o) 0) e)

  clocks_sound : (i : ℕ) → AreClocks (c i)
  clocks_sound i = (sound i).clocks

  skews : (i : ℕ) → (c i).skew ≡ h.skew
  skews = skew_at steps (start h) (starts h is) events all

  goes : (i : ℕ) → i < n → Follows (c i) (c (suc i))
  goes = follow_at steps (start h) (starts h is) events all

  -- ---- a rise
  module _ (rise : Rise) (up : Rises rise now) where
    abbrev theirs : ℕ → Moment
    theirs i = seen (states h.skew n c clocks_sound skews goes none rise up i)

    abbrev ours : ℕ → Moment
    ours = with_next (λ i. moment_of (world_at (start h) events i)) n (risen rise (last_moment h events))

    -- behind a rise the same actors are live, and those read what it says
    rise_live : (a : Actor) → (last_moment h events).live a ≡ (seen (risen_clocks rise now)).live a
    rise_live a = live_is n a ∙ by (pace_of now.paces a) refl
      where
        by : (o : Option Pace) → pace_of now.paces a ≡ o → (seen now).live a ≡ (seen (risen_clocks rise now)).live a
        by None e = rw (e, none_map (pace_after rise now.paces) a now.paces e) refl
        by (Some pace) e = rw (e, lookup_map (pace_after rise now.paces) a now.paces pace e) refl

    rise_clock : (a : Actor) → (seen (risen_clocks rise now)).live a ≡ true → clock_after rise a ((last_moment h events).clock a) ≡ (seen (risen_clocks rise now)).clock a
    rise_clock a live = at (has_pace a (rise_live a ∙ live))
      where
        at : HasPace a → clock_after rise a ((last_moment h events).clock a) ≡ (seen (risen_clocks rise now)).clock a
        at p = ap (clock_after rise a) (sym (reading a p.pace p.at)) ∙ sym (ap (λ (o : Option Pace). unwrap_or (option_map (λ pace. pace.clock) o) 0) (lookup_map (pace_after rise now.paces) a now.paces p.pace p.at))

    same_live : (i : ℕ) (a : Actor) → (ours i).live a ≡ (theirs i).live a
    same_live i a = at (nat_lt n i)
      where
        at : (t : Bool) → (if t then risen rise (last_moment h events) else moment_of (world_at (start h) events i)).live a ≡ (seen (if t then risen_clocks rise now else c i)).live a
        at true = rise_live a
        at false = live_is i a

    same_clock : (i : ℕ) (a : Actor) → (theirs i).live a ≡ true → (ours i).clock a ≡ (theirs i).clock a
    same_clock i a = at (nat_lt n i)
      where
        at : (t : Bool) → (seen (if t then risen_clocks rise now else c i)).live a ≡ true →
            (if t then risen rise (last_moment h events) else moment_of (world_at (start h) events i)).clock a ≡ (seen (if t then risen_clocks rise now else c i)).clock a
        at true live = rise_clock a live
        at false live = clock_is i a

    abbrev at_skew : (p q : Actor × Pace) (t : Bool) → runs_apart now.skew rise p q ≡ t → runs_apart h.skew rise p q ≡ t
    at_skew p q t e = subst (λ (k : ℕ). runs_apart k rise p q ≡ t) same_skew e

    kept : (a b : Actor) (p q : Pace) → pace_of now.paces a ≡ Some p → pace_of now.paces b ≡ Some q → runs_apart now.skew rise (a, p) (b, q) ≡ false → KeepsWith h events rise a b
    kept a b p q at its e = keep_as theirs ours same_live same_clock h.skew (suc n) a b
        ((pair h.skew n c clocks_sound skews goes none rise up a b p q at its).kept (at_skew (a, p) (b, q) false e))

    apart : (a b : Actor) (p q : Pace) → pace_of now.paces a ≡ Some p → pace_of now.paces b ≡ Some q → runs_apart now.skew rise (a, p) (b, q) ≡ true → KeepsWith h events rise a b → ⊥
    apart a b p q at its e keep = (pair h.skew n c clocks_sound skews goes none rise up a b p q at its).apart (at_skew (a, p) (b, q) true e)
        (keep_as ours theirs (λ i x. sym (same_live i x)) (λ i x l. sym (same_clock i x (sym (same_live i x) ∙ l))) h.skew (suc n) a b keep)

  -- ---- who is told
  abbrev Answers : Rise → (Actor → Type 0) → ℕ → Result ClockState ClockFault → Type 0
  Answers rise Ahead to (Ok next) = (a b : Actor) → Ahead a → IsLive h events a → IsLive h events b → KeepsWith h events rise a b
  Answers rise Ahead to (Err (fault.Skew told other)) = (told ≡ to) × IsFirstLeft h events rise Ahead other
  Answers rise Ahead to (Err other) = ⊤

  its_pace : (q : Actor × Pace) → Among now.paces q → pace_of now.paces q.0 ≡ Some q.1
  its_pace q i = found now.paces (sound n).clocks.ordered q i

  one_told : (a : Actor) (to : ℕ) (o : Option Pace) → pace_of now.paces a ≡ o → Answers (One a to) (λ b. b ≡ a) to (ticks o now a to)
  one_told a to None e = tt
  one_told a to (Some pace) e = at (nat_lt to pace.clock) refl
    where
      by_find : pace.clock ≤ to → (f : Option (Actor × Pace)) → find (runs_apart now.skew (One a to) (a, pace)) now.paces ≡ f → Answers (One a to) (λ b. b ≡ a) to (rises_unless f now (One a to) to)
      by_find up None nobody = λ x b s its live. subst (λ (y : Actor). KeepsWith h events (One a to) y b) (sym s) (by (has_pace b live))
        where
          by : {b : Actor} → HasPace b → KeepsWith h events (One a to) a b
          by {b} q = kept (One a to) (one_rises now a pace to e up) a b pace q.pace e q.at
              (none_found (runs_apart now.skew (One a to) (a, pace)) now.paces nobody (b, q.pace) (finds b q.pace now.paces q.at))
      by_find up (Some q) some =
          let f = first_found (runs_apart now.skew (One a to) (a, pace)) now.paces q (sound n).clocks.ordered some in (
            refl,
            record {
              left = q.0;
              live = is_live q.0 q.1 (its_pace q f.among);
              reads = reading q.0 q.1 (its_pace q f.among);
              first = a;
              runs = is_live a pace e;
              ahead = refl;
              apart = apart (One a to) (one_rises now a pace to e up) a q.0 pace q.1 e (its_pace q f.among) f.passes;
              earlier = λ x b s its live l. subst (λ (y : Actor). KeepsWith h events (One a to) y b) (sym s) (earlier f b (has_pace b live) l);
            },
          )
        where
          earlier : IsFirst (runs_apart now.skew (One a to) (a, pace)) now.paces q → (b : Actor) → HasPace b → by_actor b q.0 ≡ Less → KeepsWith h events (One a to) a b
          earlier f b r l = kept (One a to) (one_rises now a pace to e up) a b pace r.pace e r.at (f.before (b, r.pace) (finds b r.pace now.paces r.at) l)

      at : (t : Bool) → nat_lt to pace.clock ≡ t → Answers (One a to) (λ b. b ≡ a) to (cond t (Err (fault.ClockFalls pace.clock)) (rises_unless (find (runs_apart now.skew (One a to) (a, pace)) now.paces) now (One a to) to))
      at true s = tt
      at false s = by_find (ltb-false to pace.clock s) (find (runs_apart now.skew (One a to) (a, pace)) now.paces) refl

  abbrev left_by : ℕ → Actor × Pace → Bool
  left_by to q = list_any (λ p. runs_apart now.skew (All to) p q) now.paces

  all_told : (to : ℕ) → greatest_clock 0 now.paces ≤ to → (f : Option (Actor × Pace)) → find (λ q. list_any (λ p. runs_apart now.skew (All to) p q) now.paces) now.paces ≡ f → Answers (All to) (λ b. ⊤) to (rises_unless f now (All to) to)
  all_told to up None nobody = λ a b any its live. by a b (has_pace a its) (has_pace b live)
    where
      by : (a b : Actor) → HasPace a → HasPace b → KeepsWith h events (All to) a b
      by a b p q = kept (All to) (all_rise now to up) a b p.pace q.pace p.at q.at
          (none_any (λ p. runs_apart now.skew (All to) p (b, q.pace)) now.paces (none_found (left_by to) now.paces nobody (b, q.pace) (finds b q.pace now.paces q.at)) (a, p.pace) (finds a p.pace now.paces p.at))
  all_told to up (Some q) some =
      let f = first_found (left_by to) now.paces q (sound n).clocks.ordered some in
      let w = some_passes (λ p. runs_apart now.skew (All to) p q) now.paces f.passes in (
        refl,
        record {
          left = q.0;
          live = is_live q.0 q.1 (its_pace q f.among);
          reads = reading q.0 q.1 (its_pace q f.among);
          first = w.one.0;
          runs = is_live w.one.0 w.one.1 (its_pace w.one w.among);
          ahead = tt;
          apart = apart (All to) (all_rise now to up) w.one.0 q.0 w.one.1 q.1 (its_pace w.one w.among) (its_pace q f.among) w.passes;
          earlier = λ a b any its live l. earlier f a b (has_pace a its) (has_pace b live) l;
        },
      )
    where
      earlier : IsFirst (left_by to) now.paces q → (a b : Actor) → HasPace a → HasPace b → by_actor b q.0 ≡ Less → KeepsWith h events (All to) a b
      earlier f a b p r l = kept (All to) (all_rise now to up) a b p.pace r.pace p.at r.at
          (none_any (λ p. runs_apart now.skew (All to) p (b, r.pace)) now.paces (f.before (b, r.pace) (finds b r.pace now.paces r.at) l) (a, p.pace) (finds a p.pace now.paces p.at))

  every_told : (to : ℕ) (t : Bool) → nat_lt to (greatest_clock 0 now.paces) ≡ t →
      Answers (All to) (λ b. ⊤) to (cond t (Err (fault.ClockFalls (greatest_clock 0 now.paces))) (rises_unless (find (left_by to) now.paces) now (All to) to))
  every_told to true s = tt
  every_told to false s = all_told to (ltb-false to (greatest_clock 0 now.paces) s) (find (left_by to) now.paces) refl

  -- ---- what a world makes of it
  abbrev world : WorldState
  world = last_world h events

  node_told : (rise : Rise) (Ahead : Actor → Type 0) (id : NodeId) (x : NodeState) (to : ℕ) (r : Result ClockState ClockFault) → Answers rise Ahead to r → IsRiseAnswer (ticked_by r world id to x) h events rise Ahead to
  node_told rise Ahead id x to (Ok clocks) told = told
  node_told rise Ahead id x to (Err (fault.Skew at other)) told = told
  node_told rise Ahead id x to (Err (fault.ClockFalls clock)) told = tt
  node_told rise Ahead id x to (Err fault.NotLive) told = tt
  node_told rise Ahead id x to (Err fault.Live) told = tt
  node_told rise Ahead id x to (Err fault.Memory) told = tt

  manager_told : (rise : Rise) (Ahead : Actor → Type 0) (m : ℕ) (g : ManagerState) (to : ℕ) (r : Result ClockState ClockFault) → Answers rise Ahead to r → IsRiseAnswer (manager_ticked_by r world m to g) h events rise Ahead to
  manager_told rise Ahead m g to (Ok clocks) told = told
  manager_told rise Ahead m g to (Err (fault.Skew at other)) told = told
  manager_told rise Ahead m g to (Err (fault.ClockFalls clock)) told = tt
  manager_told rise Ahead m g to (Err fault.NotLive) told = tt
  manager_told rise Ahead m g to (Err fault.Live) told = tt
  manager_told rise Ahead m g to (Err fault.Memory) told = tt

  all_are_told : (rise : Rise) (Ahead : Actor → Type 0) (to : ℕ) (r : Result ClockState ClockFault) → Answers rise Ahead to r → IsRiseAnswer (all_ticked_by r world to) h events rise Ahead to
  all_are_told rise Ahead to (Ok clocks) told = told
  all_are_told rise Ahead to (Err (fault.Skew at other)) told = told
  all_are_told rise Ahead to (Err (fault.ClockFalls clock)) told = tt
  all_are_told rise Ahead to (Err fault.NotLive) told = tt
  all_are_told rise Ahead to (Err fault.Live) told = tt
  all_are_told rise Ahead to (Err fault.Memory) told = tt

  one : (a : Actor) (to : ℕ) → IsRiseAnswer (world_step world (Tick a to)) h events (One a to) (λ b. b ≡ a) to
  one (Node id) to = by (process_at id world.processes)
    where
      at : (x : NodeState) (t : Bool) → IsRiseAnswer (running_at t x (ticks_at world to id)) h events (One (Node id) to) (λ b. b ≡ Node id) to
      at x true = tt
      at x false = node_told (One (Node id) to) (λ b. b ≡ Node id) id x to (clock_step now (ClockEvent.Tick (Node id) to)) (one_told (Node id) to (pace_of now.paces (Node id)) refl)

      by : (o : Option Process) → IsRiseAnswer (live_at o (ticks_at world to id)) h events (One (Node id) to) (λ b. b ≡ Node id) to
      by None = tt
      by (Some p) = at p.node p.crashed
  one (Manager m) to = by (manager_at m world.managers)
    where
      at : (g : ManagerState) (t : Bool) → IsRiseAnswer (managing_at t g (manager_ticks_at world to m)) h events (One (Manager m) to) (λ b. b ≡ Manager m) to
      at g true = tt
      at g false = manager_told (One (Manager m) to) (λ b. b ≡ Manager m) m g to (clock_step now (ClockEvent.Tick (Manager m) to)) (one_told (Manager m) to (pace_of now.paces (Manager m)) refl)

      by : (o : Option ManagerProcess) → IsRiseAnswer (live_manager_at o (manager_ticks_at world to m)) h events (One (Manager m) to) (λ b. b ≡ Manager m) to
      by None = tt
      by (Some p) = at p.manager p.crashed

  every : (to : ℕ) → IsRiseAnswer (world_step world (TickAll to)) h events (All to) (λ b. ⊤) to
  every to = all_are_told (All to) (λ b. ⊤) to (clock_step now (ClockEvent.TickAll to)) (every_told to (nat_lt to (greatest_clock 0 now.paces)) refl)

pub refuse_exactly : StartIsSound → StepKeepsSound → WorldsRefuseExactly
refuse_exactly starts steps h is events all = record { one = one starts steps h is events all; every = every starts steps h is events all }
