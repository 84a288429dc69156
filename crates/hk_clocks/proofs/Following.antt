-- From clocks to the next ones: none falls, and the leads go as they should.
use Rattle.std.proofs.Common.{◌≡◌, ℕ, zero, suc, ◌-◌, ◌<◌, ◌≤◌, List, [], ◌∷◌, map, Bool, true, false, ◌&&◌, cond, Option, Some, None, unwrap_or, is_some, refl, sym, ap, subst, ◌∙◌, ⊎_elim, arith, le_refl, le_trans}
use Rattle.std.specs.Option.{option_map}
use Rattle.std.specs.BTreeMap.{insert_entry, is_at}
use Rattle.std.specs.Map.{lookup, remove_entry}
use Rattle.std.proofs.lemmas.Bool.{false≢true, cases_lt}
use Rattle.hk_base.specs.declared.letter.Actor.{Actor}
use Rattle.hk_clocks.specs.declared.pace.Pace.{Pace}
use Rattle.hk_clocks.specs.declared.rise.Rise.{Rise}
use Rattle.hk_clocks.specs.Clocks.{ClockState, Paces, by_actor, pace_of, lead_over}
use Rattle.hk_clocks.specs.Steps.{lead_by, lead_after, pace_after, paces_after, forgets}
use Rattle.hk_clocks.specs.Paced.{DoNotFall, AreLeads}
use Rattle.hk_clocks.specs.Runs.{seen, leads_in, lead_of}
use Rattle.hk_clocks.specs.Laws.{Rises, risen}
use Rattle.hk_clocks.specs.Sound.{IsLead, IsPace, AreClocks}
use Rattle.hk_clocks.proofs.Entries.{all_of, finds, lookup_map}
use Rattle.hk_clocks.proofs.Lookups.{which, put_same, put_other, out_same, out_other, above_at}

abbrev live_at : Option Pace → Bool
live_at o = is_some (option_map (λ pace. pace.clock) o)

abbrev clock_at : Option Pace → ℕ
clock_at o = unwrap_or (option_map (λ pace. pace.clock) o) 0

abbrev lead_next : (oa ob na nb : Option Pace) → Actor → ℕ
lead_next oa ob na nb b = cond (live_at oa && live_at ob) (lead_by (leads_in oa b) (clock_at na - clock_at oa) (clock_at nb - clock_at ob)) 0

pub record Follows (old new : ClockState) : Type 0 where
  pub clocks : (a : Actor) → live_at (pace_of old.paces a) ≡ true → live_at (pace_of new.paces a) ≡ true → clock_at (pace_of old.paces a) ≤ clock_at (pace_of new.paces a)
  pub leads : (a b : Actor) → live_at (pace_of new.paces a) ≡ true → live_at (pace_of new.paces b) ≡ true →
      leads_in (pace_of new.paces a) b ≡ lead_next (pace_of old.paces a) (pace_of old.paces b) (pace_of new.paces a) (pace_of new.paces b) b

same_lead : (oa ob : Option Pace) (b : Actor) → live_at oa ≡ true → live_at ob ≡ true → leads_in oa b ≡ lead_next oa ob oa ob b
same_lead oa ob b p q = rw (p, q) (omega arith)

pub still : (c : ClockState) → Follows c c
still c = record { clocks = λ a p q. le_refl (clock_at (pace_of c.paces a)); leads = λ a b p q. same_lead (pace_of c.paces a) (pace_of c.paces b) b p q }

-- no lead is over an actor that is not live
no_lead : (c : ClockState) → AreClocks c → (a b : Actor) → pace_of c.paces b ≡ None → leads_in (pace_of c.paces a) b ≡ 0
no_lead c k a b none = at (pace_of c.paces a) refl
  where
    over : (pace : Pace) → pace_of c.paces a ≡ Some pace → (o : Option ℕ) → lookup (is_at (by_actor b)) pace.leads ≡ o → unwrap_or o 0 ≡ 0
    over pace is None e = refl
    over pace is (Some l) e =
        let i = (all_of (IsPace c.skew c.paces) c.paces k.paces (a, pace) (finds a pace c.paces is)).leads in
        let live = (all_of (IsLead c.skew c.paces) pace.leads i (b, l) (finds b l pace.leads e)).live in
        absurd (false≢true (ap is_some (sym none) ∙ live))

    at : (o : Option Pace) → pace_of c.paces a ≡ o → leads_in o b ≡ 0
    at None e = refl
    at (Some pace) e = over pace e (lookup (is_at (by_actor b)) pace.leads) refl

no_next : (oa na nb : Option Pace) (b : Actor) → lead_next oa None na nb b ≡ 0
no_next None na nb b = refl
no_next (Some pace) na nb b = refl

pub start_follows : (c : ClockState) → AreClocks c → (a : Actor) (clock : ℕ) → pace_of c.paces a ≡ None → Follows c (record { skew = c.skew; paces = insert_entry by_actor c.paces a (record { clock = clock; leads = [] }) })
start_follows c k a clock none = record { clocks = clocks; leads = leads }
  where
    fresh : Pace
    fresh = record { clock = clock; leads = [] }

    new : Paces
    new = insert_entry by_actor c.paces a fresh

    here : (x : Actor) → x ≡ a → pace_of new x ≡ Some fresh
    here x e = subst (λ (y : Actor). pace_of new y ≡ Some fresh) (sym e) (put_same a fresh c.paces)

    was : (x : Actor) → x ≡ a → pace_of c.paces x ≡ None
    was x e = subst (λ (y : Actor). pace_of c.paces y ≡ None) (sym e) none

    clocks : (x : Actor) → live_at (pace_of c.paces x) ≡ true → live_at (pace_of new x) ≡ true → clock_at (pace_of c.paces x) ≤ clock_at (pace_of new x)
    clocks x p q = ⊎_elim
        (λ (e : x ≡ a). absurd (false≢true (ap live_at (sym (was x e)) ∙ p)))
        (λ (o : (x ≡ a → ⊥) × (is_at (by_actor x) a ≡ false) × (is_at (by_actor a) x ≡ false)). rw (put_other x a fresh c.paces o.1) (le_refl (clock_at (pace_of c.paces x)))) (which x a)

    leads : (x y : Actor) → live_at (pace_of new x) ≡ true → live_at (pace_of new y) ≡ true → leads_in (pace_of new x) y ≡ lead_next (pace_of c.paces x) (pace_of c.paces y) (pace_of new x) (pace_of new y) y
    leads x y p q = ⊎_elim
        (λ (e : x ≡ a). rw (here x e, was x e) refl)
        (λ (o : (x ≡ a → ⊥) × (is_at (by_actor x) a ≡ false) × (is_at (by_actor a) x ≡ false)). ⊎_elim
        (λ (f : y ≡ a).
        let n : leads_in (pace_of c.paces x) y ≡ 0 = no_lead c k x y (was y f) in
        rw (was y f, put_other x a fresh c.paces o.1) (n ∙ sym (no_next (pace_of c.paces x) (pace_of c.paces x) (pace_of new y) y)))
        (λ (u : (y ≡ a → ⊥) × (is_at (by_actor y) a ≡ false) × (is_at (by_actor a) y ≡ false)).
        let s = put_other x a fresh c.paces o.1 in
        let t = put_other y a fresh c.paces u.1 in
        rw (s, t) (same_lead (pace_of c.paces x) (pace_of c.paces y) y (ap live_at (sym s) ∙ p) (ap live_at (sym t) ∙ q))) (which y a)) (which x a)

pub none_map : {X Y : Type 0} (f : Actor × X → Y) (a : Actor) (es : List (Actor × X)) → lookup (is_at (by_actor a)) es ≡ None → lookup (is_at (by_actor a)) (map (λ e. (e.0, f e)) es) ≡ None
none_map f a [] e = refl
none_map {X} {Y} f a (y ∷ es) e = at (is_at (by_actor a) y.0) e (none_map f a es)
  where
    at : (t : Bool) → cond t (Some y.1) (lookup (is_at (by_actor a)) es) ≡ None → (lookup (is_at (by_actor a)) es ≡ None → lookup (is_at (by_actor a)) (map (λ e. (e.0, f e)) es) ≡ None) →
        cond t (Some (f y)) (lookup (is_at (by_actor a)) (map (λ e. (e.0, f e)) es)) ≡ None
    at true there ih = absurd cc
    at false there ih = ih there

abbrev forgetting : Actor → Actor × Pace → Pace
forgetting a p = record p.1 { leads = remove_entry (is_at (by_actor a)) p.1.leads }

pub stop_follows : (c : ClockState) → AreClocks c → (a : Actor) → Follows c (record { skew = c.skew; paces = map (forgets a) (remove_entry (is_at (by_actor a)) c.paces) })
stop_follows c k a = record { clocks = clocks; leads = leads }
  where
    new : Paces
    new = map (forgets a) (remove_entry (is_at (by_actor a)) c.paces)

    here : (x : Actor) → x ≡ a → pace_of new x ≡ None
    here x e = subst (λ (y : Actor). pace_of new y ≡ None) (sym e) (none_map (forgetting a) a (remove_entry (is_at (by_actor a)) c.paces) (out_same a c.paces k.ordered))

    -- an other one is as it was, but for its lead over the actor that stops
    other : (x : Actor) → is_at (by_actor x) a ≡ false → (o : Option Pace) → pace_of c.paces x ≡ o → pace_of new x ≡ option_map (λ pace. forgetting a (x, pace)) o
    other x d None e = none_map (forgetting a) x (remove_entry (is_at (by_actor a)) c.paces) (out_other x a c.paces d ∙ e)
    other x d (Some pace) e = lookup_map (forgetting a) x (remove_entry (is_at (by_actor a)) c.paces) pace (out_other x a c.paces d ∙ e)

    clocks : (x : Actor) → live_at (pace_of c.paces x) ≡ true → live_at (pace_of new x) ≡ true → clock_at (pace_of c.paces x) ≤ clock_at (pace_of new x)
    clocks x p q = ⊎_elim
        (λ (e : x ≡ a). absurd (false≢true (ap live_at (sym (here x e)) ∙ q)))
        (λ (d : (x ≡ a → ⊥) × (is_at (by_actor x) a ≡ false) × (is_at (by_actor a) x ≡ false)). at (pace_of c.paces x) (other x d.1 (pace_of c.paces x) refl)) (which x a)
      where
        at : (o : Option Pace) → pace_of new x ≡ option_map (λ pace. forgetting a (x, pace)) o → clock_at o ≤ clock_at (pace_of new x)
        at None e = omega arith
        at (Some pace) e = rw e (le_refl pace.clock)

    leads : (x y : Actor) → live_at (pace_of new x) ≡ true → live_at (pace_of new y) ≡ true → leads_in (pace_of new x) y ≡ lead_next (pace_of c.paces x) (pace_of c.paces y) (pace_of new x) (pace_of new y) y
    leads x y p q = ⊎_elim
        (λ (e : x ≡ a). absurd (false≢true (ap live_at (sym (here x e)) ∙ p)))
        (λ (d : (x ≡ a → ⊥) × (is_at (by_actor x) a ≡ false) × (is_at (by_actor a) x ≡ false)). ⊎_elim
        (λ (f : y ≡ a). absurd (false≢true (ap live_at (sym (here y f)) ∙ q)))
        (λ (u : (y ≡ a → ⊥) × (is_at (by_actor y) a ≡ false) × (is_at (by_actor a) y ≡ false)).
        at u.1 (pace_of c.paces x) (pace_of c.paces y) (pace_of new x) (pace_of new y) (other x d.1 (pace_of c.paces x) refl) (other y u.1 (pace_of c.paces y) refl) p q) (which y a)) (which x a)
      where
        at : is_at (by_actor y) a ≡ false → (o v nx ny : Option Pace) → nx ≡ option_map (λ pace. forgetting a (x, pace)) o → ny ≡ option_map (λ pace. forgetting a (y, pace)) v → live_at nx ≡ true → live_at ny ≡ true →
            leads_in nx y ≡ lead_next o v nx ny y
        at ne None v nx ny e f p q = absurd (false≢true (ap live_at (sym e) ∙ p))
        at ne (Some o) None nx ny e f p q = absurd (false≢true (ap live_at (sym f) ∙ q))
        at ne (Some o) (Some v) nx ny e f p q =
            let l : lead_over (remove_entry (is_at (by_actor a)) o.leads) y ≡ lead_over o.leads y = ap (λ (w : Option ℕ). unwrap_or w 0) (out_other y a o.leads ne) in
            rw (e, f) (omega (arith, l))

pub rise_follows : (c : ClockState) → AreClocks c → (rise : Rise) → Rises rise c → Follows c (risen rise c)
rise_follows c k rise up = record { clocks = clocks; leads = leads }
  where
    new : Paces
    new = paces_after rise c.paces

    other : (x : Actor) (o : Option Pace) → pace_of c.paces x ≡ o → pace_of new x ≡ option_map (λ pace. pace_after rise c.paces (x, pace)) o
    other x None e = none_map (pace_after rise c.paces) x c.paces e
    other x (Some pace) e = lookup_map (pace_after rise c.paces) x c.paces pace e

    clocks : (x : Actor) → live_at (pace_of c.paces x) ≡ true → live_at (pace_of new x) ≡ true → clock_at (pace_of c.paces x) ≤ clock_at (pace_of new x)
    clocks x p q = at (pace_of c.paces x) refl
      where
        at : (o : Option Pace) → pace_of c.paces x ≡ o → clock_at o ≤ clock_at (pace_of new x)
        at None e = omega arith
        at (Some pace) e = rw (other x (Some pace) e) (up x pace e)

    leads : (x y : Actor) → live_at (pace_of new x) ≡ true → live_at (pace_of new y) ≡ true → leads_in (pace_of new x) y ≡ lead_next (pace_of c.paces x) (pace_of c.paces y) (pace_of new x) (pace_of new y) y
    leads x y p q = at (pace_of c.paces x) (pace_of c.paces y) refl refl (pace_of new x) (pace_of new y) (other x (pace_of c.paces x) refl) (other y (pace_of c.paces y) refl) p q
      where
        at : (o v : Option Pace) → pace_of c.paces x ≡ o → pace_of c.paces y ≡ v → (nx ny : Option Pace) → nx ≡ option_map (λ pace. pace_after rise c.paces (x, pace)) o → ny ≡ option_map (λ pace. pace_after rise c.paces (y, pace)) v →
            live_at nx ≡ true → live_at ny ≡ true → leads_in nx y ≡ lead_next o v nx ny y
        at None v s t nx ny e f p q = absurd (false≢true (ap live_at (sym e) ∙ p))
        at (Some o) None s t nx ny e f p q = absurd (false≢true (ap live_at (sym f) ∙ q))
        at (Some o) (Some v) s t nx ny e f p q = rw (e, f) (above_at (λ q. lead_after rise (x, o) q) y v c.paces k.ordered t)

-- ---- over moments
module _ (at : ℕ → ClockState) (last : ℕ) (follow : (i : ℕ) → i < last → Follows (at i) (at (suc i))) where
  pub fall_not : DoNotFall (λ i. seen (at i)) last
  fall_not a from zero up upto live = let e : from ≡ zero = omega (arith, up) in rw e (le_refl (clock_at (pace_of (at zero).paces a)))
  fall_not a from (suc to) up upto live = later (λ (l : from ≤ to). fall_not a from to l (omega (arith, upto)) (λ j low high. live j low (omega (arith, high))))
    where
      later : (from ≤ to → clock_at (pace_of (at from).paces a) ≤ clock_at (pace_of (at to).paces a)) → clock_at (pace_of (at from).paces a) ≤ clock_at (pace_of (at (suc to)).paces a)
      later ih = ⊎_elim
          (λ (l : from < suc to). le_trans (ih (omega (arith, l))) ((follow to (omega (arith, upto))).clocks a (live to (omega (arith, l)) (omega arith)).first (live (suc to) up (le_refl (suc to))).first))
          (λ (g : suc to ≤ from). let e : from ≡ suc to = omega (arith, g, up) in rw e (le_refl (clock_at (pace_of (at (suc to)).paces a)))) (cases_lt from (suc to))

  pub are_leads : ((a b : Actor) → lead_of (at 0) a b ≡ 0) → AreLeads (λ i. seen (at i)) (λ i. lead_of (at i)) last
  are_leads none = record { none = none; next = λ i below a b is. (follow i below).leads a b is.first is.second }
