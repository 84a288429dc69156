-- One clock that rises, written in place: its own leads are made anew, and each lead over it falls.
use Rattle.std.proofs.Common.{◌≡◌, ◌⊎◌, ℕ, ◌-◌, ◌*◌, ◌≤◌, List, [], ◌∷◌, map, Bool, true, false, cond, nat_lt, Option, Some, None, Ok, unwrap_or, is_some, refl, sym, ap, subst, ◌∙◌, inl, inr, ⊎_elim, arith}
use Rattle.std.specs.declared.cmp.Ordering.{Ordering}
use Rattle.std.specs.declared.cmp.Ordering.TheVariants.{Less, Equal, Greater}
use Rattle.std.specs.Ordering.{is_eq, ordering_reverse}
use Rattle.std.specs.List.{AllByRecursion, filter, find}
use Rattle.std.specs.List.Sorted.{IsStrictlySortedBy}
use Rattle.std.specs.BTreeMap.{is_at}
use Rattle.std.specs.Map.{lookup, keys_of, remove_entry, set_value}
use Rattle.std.proofs.lemmas.Bool.{false≢true, ltb-true, ltb-false, le-ltb}
use Rattle.std.proofs.lemmas.Map.{keys-set_value}
use Rattle.std.proofs.lemmas.Map.Keys.{sorted_head, sorted_tail}
use Rattle.hk_base.specs.declared.letter.Actor.{Actor}
use Rattle.hk_clocks.specs.declared.pace.Pace.{Pace}
use Rattle.hk_clocks.specs.declared.rise.Rise.TheVariants.{One}
use Rattle.hk_clocks.specs.Clocks.{ClockState, Paces, by_actor, pace_of, lead_over}
use Rattle.hk_clocks.specs.Steps.{elapsed, lead_after, leads_after, pace_after, paces_after, runs_apart, ticks}
use Rattle.hk_clocks.specs.Sound.{IsLead, IsPace, AreClocks}
use Rattle.hk_clocks.specs.InPlace.{fallen, falls, written}
use Rattle.hk_clocks.proofs.Entries.{Among, all_of, all_from, by_actor_total, itself, same_actor, found, finds, keys_below, among_filter}
use Rattle.hk_clocks.proofs.Lookups.{at_itself, same_at, which, none_above, out_same, out_other, above_at, among_out, sorted_out}
use Rattle.hk_clocks.proofs.Ahead.{leads_sorted}

-- Two such lists in order are one, where they have the same at each actor.
same_entries : (es fs : List (Actor × ℕ)) → IsStrictlySortedBy by_actor (keys_of es) → IsStrictlySortedBy by_actor (keys_of fs) →
    ((e : Actor × ℕ) → Among es e → 1 ≤ e.1) → ((e : Actor × ℕ) → Among fs e → 1 ≤ e.1) → ((a : Actor) → lead_over es a ≡ lead_over fs a) → es ≡ fs
same_entries [] [] s t p q same = refl
same_entries [] (f ∷ fs) s t p q same =
    let h : lead_over (f ∷ fs) f.0 ≡ f.1 = rw (itself f.0) refl in
    let z = same f.0 in
    let o = q f (inl refl) in
    absurd (omega (arith, h, z, o))
same_entries (e ∷ es) [] s t p q same =
    let h : lead_over (e ∷ es) e.0 ≡ e.1 = rw (itself e.0) refl in
    let z = same e.0 in
    let o = p e (inl refl) in
    absurd (omega (arith, h, z, o))
same_entries (e ∷ es) (f ∷ fs) s t p q same = at (by_actor e.0 f.0) refl (same_entries es fs (sorted_tail by_actor e.0 (keys_of es) s) (sorted_tail by_actor f.0 (keys_of fs) t) (λ x i. p x (inr i)) (λ x i. q x (inr i)))
  where
    below_es : AllByRecursion (λ y. by_actor e.0 y ≡ Less) (keys_of es)
    below_es = sorted_head by_actor e.0 (keys_of es) s

    below_fs : AllByRecursion (λ y. by_actor f.0 y ≡ Less) (keys_of fs)
    below_fs = sorted_head by_actor f.0 (keys_of fs) t

    here_e : lead_over (e ∷ es) e.0 ≡ e.1
    here_e = rw (itself e.0) refl

    here_f : lead_over (f ∷ fs) f.0 ≡ f.1
    here_f = rw (itself f.0) refl

    under : (a b : Actor) (ks : List Actor) → by_actor a b ≡ Less → AllByRecursion (λ y. by_actor b y ≡ Less) ks → AllByRecursion (λ y. by_actor a y ≡ Less) ks
    under a b ks l all = all_from (λ y. by_actor a y ≡ Less) ks (λ y i. by_actor_total.trans a b y l (all_of (λ y. by_actor b y ≡ Less) ks all y i))

    at : (o : Ordering) → by_actor e.0 f.0 ≡ o → (((a : Actor) → lead_over es a ≡ lead_over fs a) → es ≡ fs) → e ∷ es ≡ f ∷ fs
    at Less is ih =
        let z : lead_over (f ∷ fs) e.0 ≡ 0 = rw is (ap (λ (o : Option ℕ). unwrap_or o 0) (none_above e.0 fs (under e.0 f.0 (keys_of fs) is below_fs))) in
        let o = p e (inl refl) in
        let m = same e.0 in
        absurd (omega (arith, here_e, z, o, m))
    at Greater is ih =
        let back : by_actor f.0 e.0 ≡ Less = by_actor_total.antisymm f.0 e.0 ∙ ap ordering_reverse is in
        let z : lead_over (e ∷ es) f.0 ≡ 0 = rw back (ap (λ (o : Option ℕ). unwrap_or o 0) (none_above f.0 es (under f.0 e.0 (keys_of es) back below_es))) in
        let o = q f (inl refl) in
        let m = same f.0 in
        absurd (omega (arith, here_f, z, o, m))
    at Equal is ih = join (same_actor e.0 f.0 is)
      where
        join : e.0 ≡ f.0 → e ∷ es ≡ f ∷ fs
        join k =
            let v : e.1 ≡ f.1 = sym here_e ∙ same e.0 ∙ ap (lead_over (f ∷ fs)) k ∙ here_f in
            rw (k, v, ih tails) refl
          where
            tails : (a : Actor) → lead_over es a ≡ lead_over fs a
            tails a = ⊎_elim
                (λ (m : a ≡ e.0).
                let x : lead_over es e.0 ≡ 0 = ap (λ (o : Option ℕ). unwrap_or o 0) (none_above e.0 es below_es) in
                let y : lead_over fs f.0 ≡ 0 = ap (λ (o : Option ℕ). unwrap_or o 0) (none_above f.0 fs below_fs) in
                ap (lead_over es) m ∙ x ∙ sym y ∙ ap (lead_over fs) (sym (m ∙ k)))
                (λ (d : (a ≡ e.0 → ⊥) × (is_at (by_actor a) e.0 ≡ false) × (is_at (by_actor e.0) a ≡ false)).
                let x : lead_over (e ∷ es) a ≡ lead_over es a = rw d.1 refl in
                let w : is_at (by_actor a) f.0 ≡ false = subst (λ (y : Actor). is_at (by_actor a) y ≡ false) k d.1 in
                let y : lead_over (f ∷ fs) a ≡ lead_over fs a = rw w refl in
                sym x ∙ same a ∙ y) (which a e.0)

-- ---- a lead that falls
module _ (a : Actor) (w : ℕ) where
  set_same : (es : List (Actor × ℕ)) (v : ℕ) → lookup (is_at (by_actor a)) es ≡ Some v → lookup (is_at (by_actor a)) (set_value (is_at (by_actor a)) es w) ≡ Some w
  set_same [] v e = absurd cc
  set_same (y ∷ es) v e = at (is_at (by_actor a) y.0) refl e (set_same es v)
    where
      at : (t : Bool) → is_at (by_actor a) y.0 ≡ t → cond t (Some y.1) (lookup (is_at (by_actor a)) es) ≡ Some v → (lookup (is_at (by_actor a)) es ≡ Some v → lookup (is_at (by_actor a)) (set_value (is_at (by_actor a)) es w) ≡ Some w) →
          lookup (is_at (by_actor a)) (cond t ((y.0, w) ∷ es) (y ∷ set_value (is_at (by_actor a)) es w)) ≡ Some w
      at true is there ih = rw is refl
      at false is there ih = rw is (ih there)

  set_other : (q : Actor) (es : List (Actor × ℕ)) → is_at (by_actor q) a ≡ false → lookup (is_at (by_actor q)) (set_value (is_at (by_actor a)) es w) ≡ lookup (is_at (by_actor q)) es
  set_other q [] ne = refl
  set_other q (y ∷ es) ne = at (is_at (by_actor a) y.0) refl (set_other q es ne)
    where
      at : (t : Bool) → is_at (by_actor a) y.0 ≡ t → lookup (is_at (by_actor q)) (set_value (is_at (by_actor a)) es w) ≡ lookup (is_at (by_actor q)) es →
          lookup (is_at (by_actor q)) (cond t ((y.0, w) ∷ es) (y ∷ set_value (is_at (by_actor a)) es w)) ≡ lookup (is_at (by_actor q)) (y ∷ es)
      at true is ih =
          let other : is_at (by_actor q) y.0 ≡ false = subst (λ (x : Actor). is_at (by_actor q) x ≡ false) (same_at a y.0 is) ne in
          rw other refl
      at false is ih = ap (λ (o : Option ℕ). cond (is_at (by_actor q) y.0) (Some y.1) o) ih

  among_set : (es : List (Actor × ℕ)) (x : Actor × ℕ) → Among (set_value (is_at (by_actor a)) es w) x → (x.1 ≡ w) ⊎ Among es x
  among_set [] x i = absurd i
  among_set (y ∷ es) x i = at (is_at (by_actor a) y.0) i (among_set es x)
    where
      at : (t : Bool) → Among (cond t ((y.0, w) ∷ es) (y ∷ set_value (is_at (by_actor a)) es w)) x → (Among (set_value (is_at (by_actor a)) es w) x → (x.1 ≡ w) ⊎ Among es x) → (x.1 ≡ w) ⊎ Among (y ∷ es) x
      at true (inl e) ih = inl (ap (λ (z : Actor × ℕ). z.1) e)
      at true (inr i) ih = inr (inr i)
      at false (inl e) ih = inr (inl e)
      at false (inr i) ih = later (ih i)
        where
          later : (x.1 ≡ w) ⊎ Among es x → (x.1 ≡ w) ⊎ Among (y ∷ es) x
          later (inl e) = inl e
          later (inr i) = inr (inr i)

module _ (a : Actor) (by : ℕ) (leads : List (Actor × ℕ)) (sorted : IsStrictlySortedBy by_actor (keys_of leads)) (positive : (e : Actor × ℕ) → Among leads e → 1 ≤ e.1) where
  fallen_sorted : IsStrictlySortedBy by_actor (keys_of (fallen a by leads))
  fallen_sorted = at (nat_lt by (lead_over leads a))
    where
      at : (t : Bool) → IsStrictlySortedBy by_actor (keys_of (cond t (set_value (is_at (by_actor a)) leads (lead_over leads a - by)) (remove_entry (is_at (by_actor a)) leads)))
      at true = subst (IsStrictlySortedBy by_actor) (sym (keys-set_value (is_at (by_actor a)) leads (lead_over leads a - by))) sorted
      at false = sorted_out (is_at (by_actor a)) leads sorted

  fallen_positive : (e : Actor × ℕ) → Among (fallen a by leads) e → 1 ≤ e.1
  fallen_positive e = at (nat_lt by (lead_over leads a)) refl
    where
      at : (t : Bool) → nat_lt by (lead_over leads a) ≡ t → Among (cond t (set_value (is_at (by_actor a)) leads (lead_over leads a - by)) (remove_entry (is_at (by_actor a)) leads)) e → 1 ≤ e.1
      at true is i = ⊎_elim
          (λ (s : e.1 ≡ lead_over leads a - by). let l = ltb-true by (lead_over leads a) is in omega (arith, s, l))
          (λ (j : Among leads e). positive e j) (among_set a (lead_over leads a - by) leads e i)
      at false is i = positive e (among_out (is_at (by_actor a)) leads e i)

  fallen_same : lead_over (fallen a by leads) a ≡ lead_over leads a - by
  fallen_same = at (nat_lt by (lead_over leads a)) refl (lookup (is_at (by_actor a)) leads) refl
    where
      at : (t : Bool) → nat_lt by (lead_over leads a) ≡ t → (o : Option ℕ) → lookup (is_at (by_actor a)) leads ≡ o →
          lead_over (cond t (set_value (is_at (by_actor a)) leads (lead_over leads a - by)) (remove_entry (is_at (by_actor a)) leads)) a ≡ lead_over leads a - by
      at true is (Some v) e = ap (λ (o : Option ℕ). unwrap_or o 0) (set_same a (lead_over leads a - by) leads v e)
      at true is None e =
          let z : lead_over leads a ≡ 0 = rw e refl in
          let l = ltb-true by (lead_over leads a) is in
          absurd (omega (arith, z, l))
      at false is o e =
          let l = ltb-false by (lead_over leads a) is in
          ap (λ (o : Option ℕ). unwrap_or o 0) (out_same a leads sorted) ∙ (let z : 0 ≡ lead_over leads a - by = omega (arith, l) in z)

  fallen_other : (q : Actor) → is_at (by_actor q) a ≡ false → lead_over (fallen a by leads) q ≡ lead_over leads q
  fallen_other q ne = at (nat_lt by (lead_over leads a))
    where
      at : (t : Bool) → lead_over (cond t (set_value (is_at (by_actor a)) leads (lead_over leads a - by)) (remove_entry (is_at (by_actor a)) leads)) q ≡ lead_over leads q
      at true = ap (λ (o : Option ℕ). unwrap_or o 0) (set_other a (lead_over leads a - by) q leads ne)
      at false = ap (λ (o : Option ℕ). unwrap_or o 0) (out_other q a leads ne)

-- no one is kept under a name that is not live
above_dead : (f : Actor × Pace → ℕ) (a : Actor) (es : Paces) → lookup (is_at (by_actor a)) es ≡ None → lookup (is_at (by_actor a)) (filter (λ l. nat_lt 0 l.1) (map (λ e. (e.0, f e)) es)) ≡ None
above_dead f a [] e = refl
above_dead f a (y ∷ es) e = at (is_at (by_actor a) y.0) (nat_lt 0 (f y)) refl e (above_dead f a es)
  where
    left : List (Actor × ℕ)
    left = filter (λ l. nat_lt 0 l.1) (map (λ e. (e.0, f e)) es)

    at : (t u : Bool) → is_at (by_actor a) y.0 ≡ t → cond t (Some y.1) (lookup (is_at (by_actor a)) es) ≡ None →
        (lookup (is_at (by_actor a)) es ≡ None → lookup (is_at (by_actor a)) left ≡ None) → lookup (is_at (by_actor a)) (cond u ((y.0, f y) ∷ left) left) ≡ None
    at true u is there ih = absurd cc
    at false true is there ih = rw is (ih there)
    at false false is there ih = ih there

module _ (c : ClockState) (k : AreClocks c) (a : Actor) (pace : Pace) (to : ℕ) (its : pace_of c.paces a ≡ Some pace) where
  -- the leads of another one: that over the ticked one falls
  other_leads : (p : Actor × Pace) → Among c.paces p → is_at (by_actor a) p.0 ≡ false → leads_after (One a to) c.paces p ≡ fallen a (1100 * (to - pace.clock)) p.1.leads
  other_leads p i ne = same_entries (leads_after (One a to) c.paces p) (fallen a (1100 * (to - pace.clock)) p.1.leads)
      (leads_sorted (One a to) p c.paces k.ordered) (fallen_sorted a (1100 * (to - pace.clock)) p.1.leads is.ordered positive)
      (λ e j. let f = among_filter (λ lead. nat_lt 0 lead.1) (map (λ q. (q.0, lead_after (One a to) p q)) c.paces) e j in let l = ltb-true 0 e.1 f.1 in omega (arith, l))
      (fallen_positive a (1100 * (to - pace.clock)) p.1.leads is.ordered positive)
      (λ x. at x (pace_of c.paces x) refl (which x a))
    where
      is : IsPace c.skew c.paces p
      is = all_of (IsPace c.skew c.paces) c.paces k.paces p i

      positive : (e : Actor × ℕ) → Among p.1.leads e → 1 ≤ e.1
      positive e j = (all_of (IsLead c.skew c.paces) p.1.leads is.leads e j).above

      stands : elapsed (One a to) p ≡ 0
      stands = rw ne (omega arith)

      dead : (x : Actor) → pace_of c.paces x ≡ None → (o : Option ℕ) → lookup (is_at (by_actor x)) p.1.leads ≡ o → unwrap_or o 0 ≡ 0
      dead x none None e = refl
      dead x none (Some l) e = absurd (false≢true (ap is_some (sym none) ∙ (all_of (IsLead c.skew c.paces) p.1.leads is.leads (x, l) (finds x l p.1.leads e)).live))

      at : (x : Actor) (o : Option Pace) → pace_of c.paces x ≡ o → (x ≡ a) ⊎ ((x ≡ a → ⊥) × (is_at (by_actor x) a ≡ false) × (is_at (by_actor a) x ≡ false)) →
          lead_over (leads_after (One a to) c.paces p) x ≡ lead_over (fallen a (1100 * (to - pace.clock)) p.1.leads) x
      at x None e (inl s) = absurd (false≢true (ap is_some (sym e ∙ ap (pace_of c.paces) s ∙ its)))
      at x None e (inr d) =
          ap (λ (o : Option ℕ). unwrap_or o 0) (above_dead (lead_after (One a to) p) x c.paces e)
          ∙ sym (fallen_other a (1100 * (to - pace.clock)) p.1.leads is.ordered positive x d.1 ∙ dead x e (lookup (is_at (by_actor x)) p.1.leads) refl)
      at x (Some v) e (inl s) =
          let same : Some v ≡ Some pace = sym e ∙ ap (pace_of c.paces) s ∙ its in
          let v_is : v ≡ pace = cc in
          let l : lead_over (leads_after (One a to) c.paces p) x ≡ lead_after (One a to) p (x, v) = above_at (lead_after (One a to) p) x v c.paces k.ordered e in
          let r = fallen_same a (1100 * (to - pace.clock)) p.1.leads is.ordered positive in
          let m : lead_over (fallen a (1100 * (to - pace.clock)) p.1.leads) x ≡ lead_over p.1.leads a - 1100 * (to - pace.clock) = ap (lead_over (fallen a (1100 * (to - pace.clock)) p.1.leads)) s ∙ r in
          let h : elapsed (One a to) (x, v) ≡ to - pace.clock = rw (s, v_is, at_itself a) refl in
          let o : lead_over p.1.leads x ≡ lead_over p.1.leads a = ap (lead_over p.1.leads) s in
          omega (arith, l, m, h, o, stands)
      at x (Some v) e (inr d) =
          let l : lead_over (leads_after (One a to) c.paces p) x ≡ lead_after (One a to) p (x, v) = above_at (lead_after (One a to) p) x v c.paces k.ordered e in
          let m = fallen_other a (1100 * (to - pace.clock)) p.1.leads is.ordered positive x d.1 in
          let h : elapsed (One a to) (x, v) ≡ 0 = rw d.2 (omega arith) in
          omega (arith, l, m, h, stands)

  -- one value written, the others as another function has it
  set_map : (f g : Actor × Pace → Pace) (w : Pace) (es : Paces) → IsStrictlySortedBy by_actor (keys_of es) → ((e : Actor × Pace) → Among es e → a ≡ e.0 → f e ≡ w) →
      ((e : Actor × Pace) → Among es e → is_at (by_actor a) e.0 ≡ false → f e ≡ g e) → map {B = Actor × Pace} (λ e. (e.0, f e)) es ≡ set_value (is_at (by_actor a)) (map {B = Actor × Pace} (λ e. (e.0, g e)) es) w
  set_map f g w [] sorted here there = refl
  set_map f g w (y ∷ es) sorted here there = at (is_at (by_actor a) y.0) refl (set_map f g w es (sorted_tail by_actor y.0 (keys_of es) sorted) (λ e i. here e (inr i)) (λ e i. there e (inr i)))
    where
      above : (e : Actor × Pace) → Among es e → by_actor y.0 e.0 ≡ Less
      above e i = keys_below y.0 es (sorted_head by_actor y.0 (keys_of es) sorted) e i

      rest : a ≡ y.0 → (fs : Paces) → ((e : Actor × Pace) → Among fs e → Among es e) → map {B = Actor × Pace} (λ e. (e.0, f e)) fs ≡ map {B = Actor × Pace} (λ e. (e.0, g e)) fs
      rest s [] sub = refl
      rest s (e ∷ fs) sub =
          let n : is_at (by_actor a) e.0 ≡ false = rw s (ap is_eq (above e (sub e (inl refl)))) in
          let h : f e ≡ g e = there e (inr (sub e (inl refl))) n in
          rw (h, rest s fs (λ x i. sub x (inr i))) refl

      at : (t : Bool) → is_at (by_actor a) y.0 ≡ t → map {B = Actor × Pace} (λ e. (e.0, f e)) es ≡ set_value (is_at (by_actor a)) (map {B = Actor × Pace} (λ e. (e.0, g e)) es) w →
          (y.0, f y) ∷ map {B = Actor × Pace} (λ e. (e.0, f e)) es ≡ cond t ((y.0, w) ∷ map {B = Actor × Pace} (λ e. (e.0, g e)) es) ((y.0, g y) ∷ set_value (is_at (by_actor a)) (map {B = Actor × Pace} (λ e. (e.0, g e)) es) w)
      at true is ih = rw (here y (inl refl) (same_at a y.0 is), rest (same_at a y.0 is) es (λ e i. i)) refl
      at false is ih = rw (there y (inl refl) is, ih) refl

  pub written_is : paces_after (One a to) c.paces ≡ written a (to - pace.clock) (record { clock = to; leads = leads_after (One a to) c.paces (a, pace) }) c.paces
  written_is = set_map (pace_after (One a to) c.paces) (λ p. falls a (to - pace.clock) p.1) (record { clock = to; leads = leads_after (One a to) c.paces (a, pace) }) c.paces k.ordered here there
    where
      here : (e : Actor × Pace) → Among c.paces e → a ≡ e.0 → pace_after (One a to) c.paces e ≡ record { clock = to; leads = leads_after (One a to) c.paces (a, pace) }
      here e i s = rw (sym same, at_itself a) refl
        where
          same : (a, pace) ≡ e
          same =
              let f : Some pace ≡ Some e.1 = sym its ∙ ap (pace_of c.paces) s ∙ found c.paces k.ordered e i in
              let v : pace ≡ e.1 = cc in
              rw (s, v) refl

      there : (e : Actor × Pace) → Among c.paces e → is_at (by_actor a) e.0 ≡ false → pace_after (One a to) c.paces e ≡ falls a (to - pace.clock) e.1
      there e i n = rw (other_leads e i n, n) refl

pub set_absent : {X : Type 0} (test : Actor → Bool) (w : X) (es : List (Actor × X)) → lookup test es ≡ None → set_value test es w ≡ es
set_absent test w [] e = refl
set_absent {X} test w (y ∷ es) e = at (test y.0) e (set_absent test w es)
  where
    at : (t : Bool) → cond t (Some y.1) (lookup test es) ≡ None → (lookup test es ≡ None → set_value test es w ≡ es) → cond t ((y.0, w) ∷ es) (y ∷ set_value test es w) ≡ y ∷ es
    at true there ih = absurd cc
    at false there ih = ap (λ (l : List (Actor × X)). y ∷ l) (ih there)

-- what is written is the rise
pub made_paces : (c : ClockState) → AreClocks c → (a : Actor) (pace : Pace) (to : ℕ) (leads : List (Actor × ℕ)) (new : Paces) → pace_of c.paces a ≡ Some pace → leads ≡ leads_after (One a to) c.paces (a, pace) →
    new ≡ written a (to - pace.clock) (record { clock = to; leads = leads }) c.paces → new ≡ paces_after (One a to) c.paces
made_paces c k a pace to leads new its are is = is ∙ ap (λ (l : List (Actor × ℕ)). written a (to - pace.clock) (record { clock = to; leads = l }) c.paces) are ∙ sym (written_is c k a pace to its)

pub tick_made : (c : ClockState) (a : Actor) (pace : Pace) (to : ℕ) (new : Paces) → pace_of c.paces a ≡ Some pace → pace.clock ≤ to → find (runs_apart c.skew (One a to) (a, pace)) c.paces ≡ None →
    new ≡ paces_after (One a to) c.paces → ticks (pace_of c.paces a) c a to ≡ Ok (record { skew = c.skew; paces = new })
tick_made c a pace to new its up none is = rw its (rw (le-ltb to pace.clock up) (rw none (rw is refl)))
