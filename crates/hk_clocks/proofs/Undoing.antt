-- A stop takes back a start.
use Rattle.std.proofs.Common.{◌≡◌, ℕ, List, [], ◌∷◌, inl, inr, map, Bool, true, false, cond, Option, Some, None, is_some, refl, sym, ap, ◌∙◌}
use Rattle.std.specs.declared.cmp.Ordering.{Ordering}
use Rattle.std.specs.declared.cmp.Ordering.TheVariants.{Less, Equal, Greater}
use Rattle.std.specs.Ordering.{match_ordering, is_eq}
use Rattle.std.specs.BTreeMap.{insert_entry, is_at}
use Rattle.std.specs.Map.{lookup, remove_entry}
use Rattle.std.proofs.lemmas.Bool.{false≢true}
use Rattle.hk_base.specs.declared.letter.Actor.{Actor}
use Rattle.hk_clocks.specs.declared.pace.Pace.{Pace}
use Rattle.hk_clocks.specs.Clocks.{ClockState, by_actor, pace_of}
use Rattle.hk_clocks.specs.Steps.{forgets}
use Rattle.hk_clocks.specs.Laws.{StopUndoesStart}
use Rattle.hk_clocks.specs.Sound.{IsLead, IsPace, AreClocks}
use Rattle.hk_clocks.proofs.Entries.{Among, all_of, finds}
use Rattle.hk_clocks.proofs.Lookups.{at_itself, put_same}

module _ {X : Type 0} where
  absent_out : (a : Actor) (es : List (Actor × X)) → lookup (is_at (by_actor a)) es ≡ None → remove_entry (is_at (by_actor a)) es ≡ es
  absent_out a [] e = refl
  absent_out a (y ∷ es) e = at (is_at (by_actor a) y.0) e (absent_out a es)
    where
      at : (t : Bool) → cond t (Some y.1) (lookup (is_at (by_actor a)) es) ≡ None → (lookup (is_at (by_actor a)) es ≡ None → remove_entry (is_at (by_actor a)) es ≡ es) → cond t es (y ∷ remove_entry (is_at (by_actor a)) es) ≡ y ∷ es
      at true there ih = absurd cc
      at false there ih = ap (λ (l : List (Actor × X)). y ∷ l) (ih there)

  put_out : (a : Actor) (v : X) (es : List (Actor × X)) → lookup (is_at (by_actor a)) es ≡ None → remove_entry (is_at (by_actor a)) (insert_entry by_actor es a v) ≡ es
  put_out a v [] e = rw (at_itself a) refl
  put_out a v (y ∷ es) e = at (by_actor a y.0) refl e (put_out a v es)
    where
      at : (o : Ordering) → by_actor a y.0 ≡ o → cond (is_eq o) (Some y.1) (lookup (is_at (by_actor a)) es) ≡ None →
          (lookup (is_at (by_actor a)) es ≡ None → remove_entry (is_at (by_actor a)) (insert_entry by_actor es a v) ≡ es) →
          remove_entry (is_at (by_actor a)) (match_ordering o ((a, v) ∷ y ∷ es) ((y.0, v) ∷ es) (y ∷ insert_entry by_actor es a v)) ≡ y ∷ es
      at Less is there ih = rw (at_itself a) refl
      at Equal is there ih = absurd cc
      at Greater is there ih = rw is (ap (λ (l : List (Actor × X)). y ∷ l) (ih there))

  map_same : (f : Actor × X → Actor × X) (es : List (Actor × X)) → ((e : Actor × X) → Among es e → f e ≡ e) → map f es ≡ es
  map_same f [] same = refl
  map_same f (y ∷ es) same = rw (same y (inl refl), map_same f es (λ e i. same e (inr i))) refl

module _ (c : ClockState) (k : AreClocks c) (a : Actor) (none : pace_of c.paces a ≡ None) where
  no_lead : (p : Actor × Pace) → Among c.paces p → (o : Option ℕ) → lookup (is_at (by_actor a)) p.1.leads ≡ o → o ≡ None
  no_lead p i None e = refl
  no_lead p i (Some l) e =
      let is = all_of (IsPace c.skew c.paces) c.paces k.paces p i in
      let live = (all_of (IsLead c.skew c.paces) p.1.leads is.leads (a, l) (finds a l p.1.leads e)).live in
      absurd (false≢true (ap is_some (sym none) ∙ live))

  forgets_none : (p : Actor × Pace) → Among c.paces p → forgets a p ≡ p
  forgets_none p i = rw (absent_out a p.1.leads (no_lead p i (lookup (is_at (by_actor a)) p.1.leads) refl)) refl

  taken_back : (pace : Pace) → map (forgets a) (remove_entry (is_at (by_actor a)) (insert_entry by_actor c.paces a pace)) ≡ c.paces
  taken_back pace = rw (put_out a pace c.paces none) (map_same (forgets a) c.paces forgets_none)

pub stop_undoes_start : StopUndoesStart
stop_undoes_start c k a clock none =
    rw (put_same a (record { clock = clock; leads = [] }) c.paces) (rw (taken_back c k a none (record { clock = clock; leads = [] })) refl)
