-- What an event of clocks changes.
use Rattle.std.proofs.Common.{◌≡◌, ◌⊎◌, ℕ, [], ◌∷◌, Bool, true, false, cond, nat_lt, nat_eq, Option, Some, None, Err, is_some, refl, sym, ap, subst, ◌∙◌, inl, inr, ⊎_elim}
use Rattle.std.specs.Option.{option_map}
use Rattle.std.specs.List.{find, list_any}
use Rattle.std.specs.BTreeMap.{is_at}
use Rattle.std.specs.Map.{remove_entry}
use Rattle.hk_base.specs.declared.stamp.NodeId.{NodeId}
use Rattle.hk_base.specs.declared.letter.Actor.{Actor}
use Rattle.hk_base.specs.declared.letter.Actor.TheVariants.{Node, Manager}
use Rattle.hk_clocks.specs.declared.pace.Pace.{Pace}
use Rattle.hk_clocks.specs.declared.rise.Rise.{Rise}
use Rattle.hk_clocks.specs.declared.rise.Rise.TheVariants.{One, All}
use Rattle.hk_clocks.specs.declared.fault.ClockFault.TheVariants.{ClockFalls}
use Rattle.hk_clocks.specs.Clocks.{ClockState, by_actor, pace_of}
use Rattle.hk_clocks.specs.Steps.{ClockEvent, clock_step, starts, stops, ticks, rises_unless, greatest_clock, runs_apart, pace_after}
use Rattle.hk_clocks.specs.Steps.ClockEvent.{Start, Stop, Tick, TickAll}
use Rattle.hk_clocks.specs.Runs.{made_or, seen}
use Rattle.hk_clocks.specs.Sound.{AreClocks}
use Rattle.hk_clocks.proofs.Lookups.{which, put_same, put_other, out_same, out_other}
use Rattle.hk_clocks.proofs.Following.{none_map}
use Rattle.hk_clocks.proofs.Running.{skew_at}
use Rattle.hk_earned.specs.Machine.{started_after}

-- an actor that starts, with its clock
pub record IsNew (c : ClockState) (event : ClockEvent) (a : Actor) : Type 0 where
  pub clock : ℕ
  pub is : event ≡ Start a clock
  pub reads : (seen (made_or c (clock_step c event))).clock a ≡ clock

by_rise : (c : ClockState) (rise : Rise) (to : ℕ) (a : Actor) (o : Option (Actor × Pace)) → (seen (made_or c (rises_unless o c rise to))).live a ≡ true → (seen c).live a ≡ true
by_rise c rise to a (Some q) live = live
by_rise c rise to a None live = was (pace_of c.paces a) refl
  where
    was : (o : Option Pace) → pace_of c.paces a ≡ o → is_some (option_map (λ pace. pace.clock) o) ≡ true
    was (Some pace) e = refl
    was None e = ap (λ (o : Option Pace). is_some (option_map (λ pace. pace.clock) o)) (sym (none_map (pace_after rise c.paces) a c.paces e)) ∙ live

-- whoever is live was it before, or starts
pub lives : (c : ClockState) (event : ClockEvent) → AreClocks c → (a : Actor) → (seen (made_or c (clock_step c event))).live a ≡ true → ((seen c).live a ≡ true) ⊎ IsNew c event a
lives c (Start b clock) k a live = at (pace_of c.paces b) refl live
  where
    at : (o : Option Pace) → pace_of c.paces b ≡ o → (seen (made_or c (starts o c b clock))).live a ≡ true → ((seen c).live a ≡ true) ⊎ IsNew c (Start b clock) a
    at (Some pace) e live = inl live
    at None e live = ⊎_elim
        (λ (s : a ≡ b). inr (record { clock = clock; is = ap (λ (x : Actor). Start x clock) (sym s); reads = reads s }))
        (λ (d : (a ≡ b → ⊥) × (is_at (by_actor a) b ≡ false) × (is_at (by_actor b) a ≡ false)).
        inl (ap (λ (o : Option Pace). is_some (option_map (λ pace. pace.clock) o)) (sym (put_other a b (record { clock = clock; leads = [] }) c.paces d.1)) ∙ live)) (which a b)
      where
        reads : a ≡ b → (seen (made_or c (clock_step c (Start b clock)))).clock a ≡ clock
        reads s = rw (s, e, put_same b (record { clock = clock; leads = [] }) c.paces) refl
lives c (Stop b) k a live = at (pace_of c.paces b) live
  where
    at : (o : Option Pace) → (seen (made_or c (stops o c b))).live a ≡ true → ((seen c).live a ≡ true) ⊎ IsNew c (Stop b) a
    at None live = inl live
    at (Some pace) live = inl (was (pace_of c.paces a) refl)
      where
        was : (o : Option Pace) → pace_of c.paces a ≡ o → is_some (option_map (λ pace. pace.clock) o) ≡ true
        was (Some pace) e = refl
        was None e = ⊎_elim
            (λ (s : a ≡ b). none (subst (λ (x : Actor). pace_of (remove_entry (is_at (by_actor b)) c.paces) x ≡ None) (sym s) (out_same b c.paces k.ordered)))
            (λ (d : (a ≡ b → ⊥) × (is_at (by_actor a) b ≡ false) × (is_at (by_actor b) a ≡ false)). none (out_other a b c.paces d.1 ∙ e)) (which a b)
          where
            none : pace_of (remove_entry (is_at (by_actor b)) c.paces) a ≡ None → false ≡ true
            none n = ap (λ (o : Option Pace). is_some (option_map (λ pace. pace.clock) o)) (sym (none_map (λ (p : Actor × Pace). record p.1 { leads = remove_entry (is_at (by_actor b)) p.1.leads }) a (remove_entry (is_at (by_actor b)) c.paces) n)) ∙ live
lives c (Tick b to) k a live = inl (at (pace_of c.paces b) live)
  where
    risen : (pace : Pace) (t : Bool) → (seen (made_or c (cond t (Err (ClockFalls pace.clock)) (rises_unless (find (runs_apart c.skew (One b to) (b, pace)) c.paces) c (One b to) to)))).live a ≡ true → (seen c).live a ≡ true
    risen pace true live = live
    risen pace false live = by_rise c (One b to) to a (find (runs_apart c.skew (One b to) (b, pace)) c.paces) live

    at : (o : Option Pace) → (seen (made_or c (ticks o c b to))).live a ≡ true → (seen c).live a ≡ true
    at None live = live
    at (Some pace) live = risen pace (nat_lt to pace.clock) live
lives c (TickAll to) k a live = inl (at (nat_lt to (greatest_clock 0 c.paces)) live)
  where
    at : (t : Bool) → (seen (made_or c (cond t (Err (ClockFalls (greatest_clock 0 c.paces))) (rises_unless (find (λ q. list_any (λ p. runs_apart c.skew (All to) p q) c.paces) c.paces) c (All to) to)))).live a ≡ true → (seen c).live a ≡ true
    at true live = live
    at false live = by_rise c (All to) to a (find (λ q. list_any (λ p. runs_apart c.skew (All to) p q) c.paces) c.paces) live

pub skew_kept : (c : ClockState) (event : ClockEvent) → (made_or c (clock_step c event)).skew ≡ c.skew
skew_kept c event = skew_at c (event ∷ []) 1

pub started_kept : (event : ClockEvent) (started : NodeId → Bool) (n : NodeId) → started n ≡ true → started_after event started n ≡ true
started_kept (Start (Node k) now) started n is = at (nat_eq n.0 k.0)
  where
    at : (t : Bool) → cond t true (started n) ≡ true
    at true = refl
    at false = is
started_kept (Start (Manager k) now) started n is = is
started_kept (Stop a) started n is = is
started_kept (Tick a to) started n is = is
started_kept (TickAll to) started n is = is
