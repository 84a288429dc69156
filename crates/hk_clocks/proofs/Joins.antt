-- Actors that start or stop, and what all clocks keep.
use Rattle.std.proofs.Common.{◌≡◌, ◌≤◌, ℕ, List, [], map, true, false, Option, Some, None, is_some, refl, sym, ap, subst, ◌∙◌, ⊎_elim}
use Rattle.std.specs.List.Sorted.{IsStrictlySortedBy}
use Rattle.std.specs.BTreeMap.{insert_entry, is_at}
use Rattle.std.specs.Map.{lookup, keys_of, remove_entry}
use Rattle.std.proofs.lemmas.Bool.{false≢true}
use Rattle.hk_base.specs.declared.letter.Actor.{Actor}
use Rattle.hk_base.specs.declared.time.TheConstants.{MAX_TIME}
use Rattle.hk_clocks.specs.declared.pace.Pace.{Pace}
use Rattle.hk_clocks.specs.Clocks.{ClockState, Paces, by_actor, pace_of}
use Rattle.hk_clocks.specs.Steps.{forgets}
use Rattle.hk_clocks.specs.Sound.{IsLead, IsPace, AreClocks}
use Rattle.hk_clocks.proofs.Entries.{Among, all_of, all_from, found, keys_map, lookup_map, among_map, sorted_nil}
use Rattle.hk_clocks.proofs.Lookups.{which, put_same, put_other, among_put, sorted_put, out_same, out_other, among_out, sorted_out}

-- with more live actors a lead is one
lead_among : (skew : ℕ) (old new : Paces) (lead : Actor × ℕ) → (is_some (pace_of old lead.0) ≡ true → is_some (pace_of new lead.0) ≡ true) → IsLead skew old lead → IsLead skew new lead
lead_among skew old new lead more is = record { above = is.above; within = is.within; live = more is.live }

live_put : (a : Actor) (pace : Pace) (paces : Paces) (b : Actor) → is_some (pace_of paces b) ≡ true → is_some (pace_of (insert_entry by_actor paces a pace) b) ≡ true
live_put a pace paces b is = ⊎_elim
    (λ (e : b ≡ a). subst (λ (x : Actor). is_some (pace_of (insert_entry by_actor paces a pace) x) ≡ true) (sym e) (ap is_some (put_same a pace paces)))
    (λ (o : (b ≡ a → ⊥) × (is_at (by_actor b) a ≡ false) × (is_at (by_actor a) b ≡ false)). ap is_some (put_other b a pace paces o.1) ∙ is) (which b a)

pub start_kept : (c : ClockState) (a : Actor) (clock : ℕ) → AreClocks c → clock ≤ MAX_TIME → AreClocks (record { skew = c.skew; paces = insert_entry by_actor c.paces a (record { clock = clock; leads = [] }) })
start_kept c a clock k low = record {
  skew = k.skew;
  ordered = sorted_put a (record { clock = clock; leads = [] }) c.paces k.ordered;
  paces = all_from (IsPace c.skew new) new (λ e i. ⊎_elim
      (λ (s : e ≡ (a, record { clock = clock; leads = [] })). rw s (record { clock = low; ordered = sorted_nil; leads = tt }))
      (λ (j : Among c.paces e). old e (all_of (IsPace c.skew c.paces) c.paces k.paces e j)) (among_put a (record { clock = clock; leads = [] }) c.paces e i));
}
  where
    new : Paces
    new = insert_entry by_actor c.paces a (record { clock = clock; leads = [] })

    old : (e : Actor × Pace) → IsPace c.skew c.paces e → IsPace c.skew new e
    old e is = record {
      clock = is.clock;
      ordered = is.ordered;
      leads = all_from (IsLead c.skew new) e.1.leads (λ l i. lead_among c.skew c.paces new l (live_put a (record { clock = clock; leads = [] }) c.paces l.0) (all_of (IsLead c.skew c.paces) e.1.leads is.leads l i));
    }

still_live : (a : Actor) (paces : Paces) (b : Actor) → is_at (by_actor b) a ≡ false → is_some (pace_of paces b) ≡ true → is_some (pace_of (map (forgets a) (remove_entry (is_at (by_actor a)) paces)) b) ≡ true
still_live a paces b other is = at (pace_of paces b) refl is
  where
    at : (o : Option Pace) → pace_of paces b ≡ o → is_some o ≡ true → is_some (pace_of (map (forgets a) (remove_entry (is_at (by_actor a)) paces)) b) ≡ true
    at None e h = absurd (false≢true h)
    at (Some pace) e h = ap is_some (lookup_map (λ (p : Actor × Pace). record p.1 { leads = remove_entry (is_at (by_actor a)) p.1.leads }) b (remove_entry (is_at (by_actor a)) paces) pace (out_other b a paces other ∙ e))

pub stop_kept : (c : ClockState) (a : Actor) → AreClocks c → AreClocks (record { skew = c.skew; paces = map (forgets a) (remove_entry (is_at (by_actor a)) c.paces) })
stop_kept c a k = record {
  skew = k.skew;
  ordered = subst (IsStrictlySortedBy by_actor) (sym (keys_map (λ (p : Actor × Pace). record p.1 { leads = remove_entry (is_at (by_actor a)) p.1.leads }) (remove_entry (is_at (by_actor a)) c.paces))) (sorted_out (is_at (by_actor a)) c.paces k.ordered);
  paces = all_from (IsPace c.skew new) new (λ e i.
      let m = among_map (forgets a) (remove_entry (is_at (by_actor a)) c.paces) e i in
      rw m.2 (left m.0 (all_of (IsPace c.skew c.paces) c.paces k.paces m.0 (among_out (is_at (by_actor a)) c.paces m.0 m.1))));
}
  where
    new : Paces
    new = map (forgets a) (remove_entry (is_at (by_actor a)) c.paces)

    gone : (leads : List (Actor × ℕ)) → IsStrictlySortedBy by_actor (keys_of leads) → (l : Actor × ℕ) → Among (remove_entry (is_at (by_actor a)) leads) l → is_at (by_actor l.0) a ≡ false
    gone leads sorted l i = ⊎_elim
        (λ (e : l.0 ≡ a).
        let some : lookup (is_at (by_actor l.0)) (remove_entry (is_at (by_actor a)) leads) ≡ Some l.1 = found (remove_entry (is_at (by_actor a)) leads) (sorted_out (is_at (by_actor a)) leads sorted) l i in
        let none : lookup (is_at (by_actor l.0)) (remove_entry (is_at (by_actor a)) leads) ≡ None = rw e (out_same a leads sorted) in
        absurd (false≢true (ap is_some (sym none ∙ some))))
        (λ (o : (l.0 ≡ a → ⊥) × (is_at (by_actor l.0) a ≡ false) × (is_at (by_actor a) l.0 ≡ false)). o.1) (which l.0 a)

    left : (p : Actor × Pace) → IsPace c.skew c.paces p → IsPace c.skew new (forgets a p)
    left p is = record {
      clock = is.clock;
      ordered = sorted_out (is_at (by_actor a)) p.1.leads is.ordered;
      leads = all_from (IsLead c.skew new) (remove_entry (is_at (by_actor a)) p.1.leads) (λ l i.
          lead_among c.skew c.paces new l (still_live a c.paces l.0 (gone p.1.leads is.ordered l i))
          (all_of (IsLead c.skew c.paces) p.1.leads is.leads l (among_out (is_at (by_actor a)) p.1.leads l i)));
    }
