-- What is known of a stamp, and what is kept of a key, goes on with the trace.
use Rattle.std.proofs.Common.{◌≡◌, ℕ, true, cond, List, [], ◌∷◌, ◌++◌, ◌≤◌, ◌∙◌, sym, refl, ap, subst, Option, Some, None, Ok, eqb, append-nil}
use Rattle.std.specs.List.{find, list_all}
use Rattle.std.specs.Option.{option_map, option_or}
use Rattle.std.proofs.lemmas.List.Folds.{find-append}
use Rattle.hk_base.specs.declared.call.CallNo.{CallNo}
use Rattle.hk_history.specs.declared.event.Event.{Event as HistoryEvent}
use Rattle.hk_register.specs.Machine.{In, Mark, Update, Item, RegisterState}
use Rattle.hk_register.specs.Machine.Item.{Called, Answered, Dropped, ReadOnly, Rejected}
use Rattle.hk_register.specs.Facts.{Complete}
use Rattle.hk_register.specs.Parts.{Parts}
use Rattle.hk_register.specs.Printed.{is_mark, events_of, item_events}
use Rattle.hk_register.proofs.Tests.{any_in, all_in}
use Rattle.hk_event.specs.declared.event.Event.{Event}
use Rattle.hk_world.specs.Steps.{Accepted, world_step}
use Rattle.hk_effects.specs.Projection.{Trace, project}
use Rattle.hk_effects.specs.Own.{IsOwn, Agrees}
use Rattle.hk_effects.specs.Orders.{family}
use Rattle.hk_effects.specs.Runs.{IsKept}
use Rattle.hk_effects.proofs.Frames.{itself}
use Rattle.hk_effects.proofs.Legality.{own_agrees}
use Rattle.hk_effects.proofs.TwoEffects.{append_three}
use Rattle.hk_effects.proofs.WorldKept.{next_kept}
use Rattle.hk_safety.specs.declared.evidence.Evidence.{Evidence}
use Rattle.hk_safety.specs.declared.evidence.Evidence.TheVariants.{Covers}
use Rattle.hk_safety.specs.declared.evidence.Evidence.TheVariants as Evidence
use Rattle.hk_safety.specs.Kept.{covers_in, is_ready_mark, call_of, update_at, looks_at, IsKnown}
use Rattle.hk_safety.specs.Grown.{CompleteBy, IsKnownBy}
use Rattle.hk_safety.proofs.Noting.{begun_at}
use Rattle.hk_safety.proofs.Touched.{named_by, ready_by, complete_by}

-- ---- what stands newest first
pub events_append : (xs ys : List Item) → events_of (xs ++ ys) ≡ events_of ys ++ events_of xs
events_append [] ys = sym (append-nil (events_of ys))
events_append (i ∷ xs) ys = ap (λ (l : List HistoryEvent). l ++ item_events i) (events_append xs ys) ∙ append_three (events_of ys) (events_of xs) (item_events i)

pub looks_append : (s : ℕ) (xs ys : List Item) → looks_at s (xs ++ ys) ≡ looks_at s ys ++ looks_at s xs
looks_append s [] ys = sym (append-nil (looks_at s ys))
looks_append s (ReadOnly c t op held a ∷ xs) ys =
    let last : List CallNo = cond (eqb t s) (record { 0 = c } ∷ []) [] in
    ap (λ (l : List CallNo). l ++ last) (looks_append s xs ys) ∙ append_three (looks_at s ys) (looks_at s xs) last
looks_append s (Called c t op ∷ xs) ys = looks_append s xs ys
looks_append s (Answered c t a ∷ xs) ys = looks_append s xs ys
looks_append s (Dropped c t a ∷ xs) ys = looks_append s xs ys
looks_append s (Rejected c op a ∷ xs) ys = looks_append s xs ys

pub update_append : (s : ℕ) (us begun : List Update) → update_at s (us ++ begun) ≡ begun_at s us (update_at s begun)
update_append s us begun = ap (option_map call_of) (find-append (λ u. eqb u.stamp s) us begun) ∙ by_found (find (λ u. eqb u.stamp s) us)
  where
    by_found : (o : Option Update) → option_map call_of (option_or o (find (λ u. eqb u.stamp s) begun)) ≡
        elim (option_map call_of o) [ None ↦ option_map call_of (find (λ u. eqb u.stamp s) begun) | Some call ↦ Some call ]
    by_found None = refl
    by_found (Some u) = refl

-- ---- complete by the marks, and complete
module _ (V : ℕ → List ℕ) (st : RegisterState) (parts : Parts V st) (s : ℕ) where
  complete_in : CompleteBy V st.marks s → Complete V st s
  complete_in (e, ready, all) =
      let f = any_in (is_ready_mark e s) st.marks ready in
      let m : Mark = f.0 in
      let is = ready_by e s m f.2 in
      let ok = parts.marks m (m, itself m, f.1) in (
        e,
        record {
          some_epoch = subst (λ (k : ℕ). 1 ≤ k) is.1 ok.some_epoch;
          all = λ n h.
              let g = any_in (is_mark n e s) st.marks (all_in (λ n. covers_in st.marks s n e) (V e) all n h) in
              let named = named_by n e s g.0 g.2 in
              record { mark = g.0; marked = (g.0, itself g.0, g.1); who = named.who; epoch = named.epoch; stamp = named.stamp };
          one = m.who;
          one_member = subst (λ (k : ℕ). In (V k) m.who) is.1 ok.member;
          one_ready = record { mark = m; marked = (m, itself m, f.1); who = refl; epoch = is.1; stamp = is.2; ready = is.0 };
        },
      )

  pub known_by : (ev : Evidence) → IsKnown V st s ev → IsKnownBy V st.marks s ev
  known_by (Evidence.Complete event) k = complete_by V st s k
  known_by (Covers groups) k = (λ c. k.0 (complete_in c), k.1)

  pub known_of : (ev : Evidence) → IsKnownBy V st.marks s ev → IsKnown V st s ev
  known_of (Evidence.Complete event) k = complete_in k
  known_of (Covers groups) k = (λ c. k.0 (complete_by V st s c), k.1)

-- ---- more agreed views tell nothing of the epochs in which nodes were before
module _ (U V : ℕ → List ℕ) (marks : List Mark) (same : (m : Mark) → In marks m → U m.epoch ≡ V m.epoch) (s : ℕ) where
  pub complete_also : CompleteBy U marks s → CompleteBy V marks s
  complete_also (e, ready, all) =
      let f = any_in (is_ready_mark e s) marks ready in
      let is = ready_by e s f.0 f.2 in
      let equal : U e ≡ V e = subst (λ (k : ℕ). U k ≡ V k) is.1 (same f.0 f.1) in
      (e, ready, subst (λ (ns : List ℕ). list_all (λ n. covers_in marks s n e) ns ≡ true) equal all)

pub known_also : (U V : ℕ → List ℕ) (marks : List Mark) (same : (m : Mark) → In marks m → U m.epoch ≡ V m.epoch) (s : ℕ) (ev : Evidence) →
    IsKnownBy U marks s ev → IsKnownBy V marks s ev
known_also U V marks same s (Evidence.Complete event) k = complete_also U V marks same s k
known_also U V marks same s (Covers groups) k = (λ c. k.0 (complete_also V U marks (λ m h. sym (same m h)) s c), k.1)

abbrev pub Before : Trace → ℕ → List ℕ
Before t = family t.world.views

abbrev pub After : Accepted → ℕ → List ℕ
After a = family a.world.views

module _ (key : List ℕ) (t : Trace) (event : Event) (a : Accepted) (e : world_step t.world event ≡ Ok a) (kept : IsKept key t) (own : IsOwn a.world) where
  pub agrees_before : Agrees t.world (After a)
  agrees_before v h = own_agrees a.world own v ((next_kept t.world event a e kept.own).grows v h)

  same_views : (m : Mark) → In t.marks m → Before t m.epoch ≡ After a m.epoch
  same_views m h =
      let parts : Parts (Before t) (project key t) = kept.parts (Before t) (own_agrees t.world kept.own) in
      let some : 1 ≤ m.epoch = (parts.marks m (m, itself m, h)).some_epoch in
      let v = kept.own.views.each m.epoch some (kept.trace.guarded m h).upto in
      subst (λ (k : ℕ). Before t k ≡ After a k) v.2 (sym (own_agrees t.world kept.own v.0 v.1) ∙ agrees_before v.0 v.1)

  -- what is known before the event, by the views after it
  pub known_before : (s : ℕ) (ev : Evidence) → IsKnown (Before t) (project key t) s ev → IsKnownBy (After a) t.marks s ev
  known_before s ev k = known_also (Before t) (After a) t.marks same_views s ev
      (known_by (Before t) (project key t) (kept.parts (Before t) (own_agrees t.world kept.own)) s ev k)
