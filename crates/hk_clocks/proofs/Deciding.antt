-- The leads decide whether a pair keeps the rate.
use Rattle.std.proofs.Common.{◌≡◌, ℕ, zero, suc, ◌+◌, ◌-◌, ◌*◌, ◌<◌, ◌≤◌, Bool, true, false, ◌&&◌, cond, refl, sym, subst, ◌∙◌, ⊎_elim, arith, le_refl}
use Rattle.std.proofs.lemmas.Bool.{cases_lt}
use Rattle.hk_base.specs.declared.letter.Actor.{Actor}
use Rattle.hk_clocks.specs.Steps.{lead_by}
use Rattle.hk_clocks.specs.Paced.{Moment, AreLive, AreLiveFrom, KeepRate, DoNotFall, AreLeads}
use Rattle.hk_clocks.specs.Laws.{AreWithin, LeadsDecide}

module _ (at : ℕ → Moment) (lead : ℕ → Actor → Actor → ℕ) (last : ℕ) (rising : DoNotFall at last) (ls : AreLeads at lead last) (a b : Actor) where
  -- from one moment to the next
  fall_not : (x : Actor) (t : ℕ) → t < last → (at t).live x ≡ true → (at (suc t)).live x ≡ true → (at t).clock x ≤ (at (suc t)).clock x
  fall_not x t below was is = rising x t (suc t) (omega arith) (omega (arith, below)) live
    where
      live : AreLiveFrom at t (suc t) x x
      live j from to = ⊎_elim
          (λ (l : j < suc t). let e : t ≡ j = omega (arith, l, from) in subst (λ (i : ℕ). AreLive (at i) x x) e (record { first = was; second = was }))
          (λ (g : suc t ≤ j). let e : suc t ≡ j = omega (arith, g, to) in subst (λ (i : ℕ). AreLive (at i) x x) e (record { first = is; second = is })) (cases_lt j (suc t))

  next_lead : (t : ℕ) → t < last → AreLive (at t) a b → AreLive (at (suc t)) a b →
      lead (suc t) a b ≡ lead_by (lead t a b) ((at (suc t)).clock a - (at t).clock a) ((at (suc t)).clock b - (at t).clock b)
  next_lead t below was is = ls.next t below a b is ∙ both
    where
      both : cond ((at t).live a && (at t).live b) (lead_by (lead t a b) ((at (suc t)).clock a - (at t).clock a) ((at (suc t)).clock b - (at t).clock b)) 0 ≡ lead_by (lead t a b) ((at (suc t)).clock a - (at t).clock a) ((at (suc t)).clock b - (at t).clock b)
      both = rw (was.first, was.second) refl

  -- what rose from one moment to another, by the lead at the later one
  record Gap (i t : ℕ) : Type 0 where
    first : (at i).clock a ≤ (at t).clock a
    second : (at i).clock b ≤ (at t).clock b
    rate : 1000 * (at t).clock a + 1100 * (at i).clock b ≤ 1100 * (at t).clock b + 1000 * (at i).clock a + lead t a b

  gap_here : (t : ℕ) → Gap t t
  gap_here t = record { first = le_refl ((at t).clock a); second = le_refl ((at t).clock b); rate = omega arith }

  gap_same : (i t : ℕ) → i ≡ t → Gap i t
  gap_same i t e = subst (λ (j : ℕ). Gap j t) (sym e) (gap_here t)

  gap_step : (i t : ℕ) → t < last → AreLive (at t) a b → AreLive (at (suc t)) a b → Gap i t → Gap i (suc t)
  gap_step i t below was is g =
      let e = next_lead t below was is in
      let x = fall_not a t below was.first is.first in
      let y = fall_not b t below was.second is.second in
      record { first = omega (arith, g.first, x); second = omega (arith, g.second, y); rate = omega (arith, g.rate, e, x, y) }

  gap : (i t : ℕ) → i ≤ t → t ≤ last → AreLiveFrom at i t a b → Gap i t
  gap i zero from upto live = gap_same i zero (omega arith)
  gap i (suc t) from upto live = by_place (λ (l : i ≤ t). gap i t l (omega arith) (λ j above below. live j above (omega arith)))
    where
      by_place : (i ≤ t → Gap i t) → Gap i (suc t)
      by_place ih = ⊎_elim
          (λ (l : i < suc t). gap_step i t (omega arith) (live t (omega arith) (omega arith)) (live (suc t) from (le_refl (suc t))) (ih (omega arith)))
          (λ (g : suc t ≤ i). gap_same i (suc t) (omega arith)) (cases_lt i (suc t))

  -- a moment since which both were live, and from which the lead is what they ran apart
  record Held (t : ℕ) : Type 0 where
    since : ℕ
    upto : since ≤ t
    live : AreLiveFrom at since t a b
    first : (at since).clock a ≤ (at t).clock a
    second : (at since).clock b ≤ (at t).clock b
    rate : lead t a b + 1100 * (at t).clock b + 1000 * (at since).clock a ≤ 1000 * (at t).clock a + 1100 * (at since).clock b

  held_here : (t : ℕ) → AreLive (at t) a b → lead t a b ≡ 0 → Held t
  held_here t is e = record {
    since = t;
    upto = le_refl t;
    live = λ j above below. let s : t ≡ j = omega arith in subst (λ (i : ℕ). AreLive (at i) a b) s is;
    first = le_refl ((at t).clock a);
    second = le_refl ((at t).clock b);
    rate = omega (arith, e);
  }

  held_step : (t : ℕ) → t < last → AreLive (at t) a b → AreLive (at (suc t)) a b → Held t → Held (suc t)
  held_step t below was is h =
      let e = next_lead t below was is in
      let x = fall_not a t below was.first is.first in
      let y = fall_not b t below was.second is.second in
      ⊎_elim
      (λ (small : lead t a b + 1000 * ((at (suc t)).clock a - (at t).clock a) < 1100 * ((at (suc t)).clock b - (at t).clock b)). held_here (suc t) is (omega (arith, e, small)))
      (λ (great : 1100 * ((at (suc t)).clock b - (at t).clock b) ≤ lead t a b + 1000 * ((at (suc t)).clock a - (at t).clock a)). record {
        since = h.since;
        upto = omega (arith, h.upto);
        live = λ j above upto. ⊎_elim (λ (l : j < suc t). h.live j above (omega arith)) (λ (g : suc t ≤ j). let s : suc t ≡ j = omega arith in subst (λ (i : ℕ). AreLive (at i) a b) s is) (cases_lt j (suc t));
        first = omega (arith, h.first, x);
        second = omega (arith, h.second, y);
        rate = omega (arith, h.rate, e, x, y, great);
      }) (cases_lt (lead t a b + 1000 * ((at (suc t)).clock a - (at t).clock a)) (1100 * ((at (suc t)).clock b - (at t).clock b)))

  held : (t : ℕ) → t ≤ last → AreLive (at t) a b → Held t
  held zero upto is = held_here zero is (ls.none a b)
  held (suc t) upto is = by_live ((at t).live a) ((at t).live b) refl refl (λ (was : AreLive (at t) a b). held t (omega arith) was)
    where
      new : lead (suc t) a b ≡ cond ((at t).live a && (at t).live b) (lead_by (lead t a b) ((at (suc t)).clock a - (at t).clock a) ((at (suc t)).clock b - (at t).clock b)) 0
      new = ls.next t (omega arith) a b is

      by_live : (u v : Bool) → (at t).live a ≡ u → (at t).live b ≡ v → (AreLive (at t) a b → Held t) → Held (suc t)
      by_live true true p q ih = let was : AreLive (at t) a b = record { first = p; second = q } in held_step t (omega arith) was is (ih was)
      by_live true false p q ih =
          let z : cond ((at t).live a && (at t).live b) (lead_by (lead t a b) ((at (suc t)).clock a - (at t).clock a) ((at (suc t)).clock b - (at t).clock b)) 0 ≡ 0 = rw (p, q) refl in
          held_here (suc t) is (new ∙ z)
      by_live false v p q ih =
          let z : cond ((at t).live a && (at t).live b) (lead_by (lead t a b) ((at (suc t)).clock a - (at t).clock a) ((at (suc t)).clock b - (at t).clock b)) 0 ≡ 0 = rw p refl in
          held_here (suc t) is (new ∙ z)

pub decide : LeadsDecide
decide skew at lead last rising ls a b = (keep, within)
  where
    keep : AreWithin skew at lead last a b → KeepRate skew at last a b
    keep w i k from upto live =
        let g = gap at lead last rising ls a b i k from upto live in
        let l = w k upto (live k from (le_refl k)) in
        omega (arith, g.rate, g.first, g.second, l)

    within : KeepRate skew at last a b → AreWithin skew at lead last a b
    within p i upto is =
        let h = held at lead last rising ls a b i upto is in
        let r = p h.since i h.upto upto h.live in
        omega (arith, h.rate, h.first, h.second, r)
