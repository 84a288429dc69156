-- The joint order has the printed order of each key.
use Rattle.std.proofs.Common.{◌≡◌, ℕ, Bool, cond, ◌+◌, List, [], ◌∷◌, map, length, ◌<◌, ◌≤◌, ◌∙◌, sym, refl, ap, subst, inl, inr, ⊎_elim, arith, eqb, eq-zero-or-pos}
use Rattle.std.specs.List.{filter, flat_map, list_any}
use Rattle.std.proofs.lemmas.Bool.{ne_eqb}
use Rattle.hk_history.specs.declared.event.Entry.{Entry}
use Rattle.hk_history.specs.History.{is_reply}
use Rattle.hk_register.specs.Machine.{In}
use Rattle.hk_register.specs.Parts.{Parts}
use Rattle.hk_register.specs.Printed.{Slot, Below, Sorted, IsPrinted, entry_of, entries}
use Rattle.hk_register.proofs.Folding.{stands_in}
use Rattle.hk_register.proofs.Orders.{above_base}
use Rattle.hk_register.proofs.Printing.{printed_is}
use Rattle.hk_effects.specs.Projection.{Trace, project, is_same_key}
use Rattle.hk_effects.specs.Laws.{EventIsEffects}
use Rattle.hk_effects.specs.Orders.{history_of}
use Rattle.hk_effects.specs.Runs.{IsKept, RunsKeepParts}
use Rattle.hk_effects.proofs.Order.{same_of, same_not, cases_key}
use Rattle.hk_safety.specs.Run.{RunState, IsRun, trace_of, printed, named}
use Rattle.hk_safety.proofs.Traces.{run_kept}
use Rattle.hk_safety.specs.Moment.{traces, is_reached, moment, replied_at}
use Rattle.hk_joint.specs.Joint.{Standing, slots, event_of, standing, standings, standings_at, moments, joint_order, entries_of, entries_at, KeysKeepTheirOrder}
use Rattle.hk_safety.proofs.Places.{no_later}
use Rattle.hk_joint.proofs.Lists.{of_map, of_filter, flat_same, filter_flat, filter_all, filter_none, Rising, gathered}
use Rattle.hk_joint.proofs.Earlier.{look_of, look_replies, reached_with, change_change, change_look, look_change, look_look}
use Rattle.hk_joint.proofs.Chain.{Views, kept_parts, IsMomentOf, moments_of_run}
use Rattle.hk_safety.proofs.Firsts.{first_within}
use Rattle.hk_joint.proofs.Keys.{only, only_none, only_once, named_in_order, in_or_not, unnamed_nothing}

below_stamp : (a b : Slot) → Below a b → a.stamp ≤ b.stamp
below_stamp a b (inl l) = omega (arith, l)
below_stamp a b (inr l) = omega (arith, l.0)

below_change : (a b : Slot) → Below a b → b.place ≡ 0 → a.stamp < b.stamp
below_change a b (inl l) e = l
below_change a b (inr l) e = absurd (omega (arith, l.1, e))

module _ (run : RunState) (key : List ℕ) (kept : IsKept key (trace_of key run)) (each : (x : Trace) → In (traces run key) x → IsMomentOf key (trace_of key run) x) where
  abbrev last : Trace
  last = trace_of key run

  parts : Parts (Views last) (project key last)
  parts = kept_parts key last kept

  is_printed : IsPrinted (Views last) (project key last) (slots run key)
  is_printed = printed_is (Views last) (project key last) parts

  pub is_change : (a : Slot) → a.place ≡ 0 → event_of run key a ≡ moment run key a.stamp
  is_change a e = ap (λ (k : ℕ). cond (eqb k 0) (moment run key a.stamp) (replied_at run key a.call)) e

  pub is_other : (a : Slot) → 0 < a.place → event_of run key a ≡ replied_at run key a.call
  is_other a l = ap (λ (b : Bool). cond b (moment run key a.stamp) (replied_at run key a.call)) (ne_eqb a.place 0 (λ e. absurd (omega (arith, e, l))))

  pub change_stamp : (a : Slot) → In (slots run key) a → a.place ≡ 0 → 1 ≤ a.stamp
  change_stamp a h e =
      let f = is_printed.update a h e in
      let up = above_base (Views last) (project key last) parts f.0 f.1 in
      let stamp : a.stamp ≡ f.0.stamp = ap (λ (s : Slot). s.stamp) f.3 in
      omega (arith, up, stamp)

  look_in : (a : Slot) → In (slots run key) a → 0 < a.place → In last.history (look_of a)
  look_in a h l = stands_in last.history a.place (look_of a) (is_printed.look a h l)

  abbrev replies : ℕ → Trace → Bool
  replies call t = list_any (is_reply call) (history_of t)

  -- what stands first in the printed order stands at no later event
  pub event_rises : (a b : Slot) → In (slots run key) a → In (slots run key) b → Below a b → event_of run key a ≤ event_of run key b
  event_rises a b ha hb below = ⊎_elim
      (λ (a_zero : a.place ≡ 0).
      ⊎_elim
      (λ (b_zero : b.place ≡ 0).
      let upto : moment run key a.stamp ≤ moment run key b.stamp =
      no_later (is_reached key a.stamp) (is_reached key b.stamp) (traces run key) (λ x h e.
      change_change (Views x) (project key x) (project key last) kept.calls (each x h).earlier a.stamp b.stamp (below_stamp a b below) e) in
      omega (arith, upto, is_change a a_zero, is_change b b_zero))
      (λ (b_pos : 0 < b.place).
      let upto : moment run key a.stamp ≤ replied_at run key b.call =
      no_later (is_reached key a.stamp) (replies b.call) (traces run key) (λ x h e.
      change_look (Views x) (project key x) (project key last) kept.calls (each x h).earlier a.stamp b (change_stamp a ha a_zero) (below_stamp a b below) (look_in b hb b_pos) e) in
      omega (arith, upto, is_change a a_zero, is_other b b_pos))
      (eq-zero-or-pos b.place))
      (λ (a_pos : 0 < a.place).
      ⊎_elim
      (λ (b_zero : b.place ≡ 0).
      let upto : replied_at run key a.call ≤ moment run key b.stamp =
      no_later (replies a.call) (is_reached key b.stamp) (traces run key) (λ x h e.
      look_change (Views x) (project key x) (project key last) kept.calls (each x h).earlier a b.stamp (below_change a b below b_zero) (look_in a ha a_pos) e) in
      omega (arith, upto, is_other a a_pos, is_change b b_zero))
      (λ (b_pos : 0 < b.place).
      let upto : replied_at run key a.call ≤ replied_at run key b.call =
      no_later (replies a.call) (replies b.call) (traces run key) (λ x h e.
      look_look (Views x) (project key x) (project key last) kept.calls (each x h).earlier a b below (is_printed.look a ha a_pos) (is_printed.look b hb b_pos) e) in
      omega (arith, upto, is_other a a_pos, is_other b b_pos))
      (eq-zero-or-pos b.place))
      (eq-zero-or-pos a.place)

  rising_from : (xs : List Slot) → Sorted xs → ((a : Slot) → In xs a → In (slots run key) a) → Rising (λ (s : Standing). s.event) (map (standing run key) xs)
  rising_from [] sorted all = tt
  rising_from (x ∷ xs) sorted all = (
    λ y h. let t = of_map (standing run key) xs y h in
        subst (λ (z : Standing). event_of run key x ≤ z.event) (sym t.2) (event_rises x t.0 (all x (inl refl)) (all t.0 (inr t.1)) (sorted.0 t.0 t.1)),
    rising_from xs sorted.1 (λ a h. all a (inr h)),
  )

  pub standings_rise : Rising (λ (s : Standing). s.event) (standings run key)
  standings_rise = rising_from (slots run key) is_printed.sorted (λ a h. h)

  -- each entry stands at an event of the run
  pub slot_within : (a : Slot) → In (slots run key) a → event_of run key a < length run.events + 1
  slot_within a h = ⊎_elim
      (λ (zero_is : a.place ≡ 0).
      let f = is_printed.update a h zero_is in
      let stamp : a.stamp ≡ f.0.stamp = ap (λ (s : Slot). s.stamp) f.3 in
      let low = first_within (is_reached key a.stamp) run key (reached_with (Views last) (project key last) a.stamp f.0 f.1 (omega (arith, stamp)) f.2) in
      omega (arith, low, is_change a zero_is))
      (λ (pos : 0 < a.place).
      let low = first_within (replies a.call) run key (look_replies last.history a (look_in a h pos)) in
      omega (arith, low, is_other a pos))
      (eq-zero-or-pos a.place)

  pub standing_within : (s : Standing) → In (standings run key) s → s.event < 0 + (length run.events + 1)
  standing_within s h =
      let t = of_map (standing run key) (slots run key) s h in
      let low = slot_within t.0 t.1 in
      let same : s.event ≡ event_of run key t.0 = ap (λ (z : Standing). z.event) t.2 in
      omega (arith, low, same)

  -- gathered event by event
  pub key_gathered : flat_map (λ n. standings_at run n key) (moments run) ≡ standings run key
  key_gathered = gathered (λ (s : Standing). s.event) (length run.events + 1) 0 (standings run key) standings_rise (λ s h. omega arith) standing_within

-- the entries of the standings of a key are those printed
standing_entries : (run : RunState) (key : List ℕ) (xs : List Slot) → entries_of (map (standing run key) xs) ≡ entries xs
standing_entries run key [] = refl
standing_entries run key (x ∷ xs) = ap (λ (l : List Entry). entry_of x ∷ l) (standing_entries run key xs)

module _ (runs : RunsKeepParts) (is_effects : EventIsEffects) (run : RunState) (ok : IsRun run) (key : List ℕ) where
  abbrev mine : Standing → Bool
  mine s = is_same_key key s.key

  key_of_standing : (n : ℕ) (k : List ℕ) (s : Standing) → In (standings_at run n k) s → s.key ≡ k
  key_of_standing n k s h =
      let t = of_map (standing run k) (slots run k) s (of_filter (λ (z : Standing). eqb z.event n) (standings run k) s h).0 in
      ap (λ (z : Standing). z.key) t.2

  of_one : (n : ℕ) (k : List ℕ) → filter mine (standings_at run n k) ≡ only key (standings_at run n key) k
  of_one n k = ⊎_elim
      (λ (e : key ≡ k).
      filter_all mine (standings_at run n k) (λ s h. same_of key s.key (e ∙ sym (key_of_standing n k s h)))
      ∙ (ap (standings_at run n) (sym e) ∙ sym (ap (λ (b : Bool). cond b (standings_at run n key) []) (same_of key k e))))
      (λ (off : key ≡ k → ⊥).
      filter_none mine (standings_at run n k) (λ s h. same_not key s.key (λ e. off (e ∙ key_of_standing n k s h)))
      ∙ sym (ap (λ (b : Bool). cond b (standings_at run n key) []) (same_not key k off)))
      (cases_key key k)

  at_event : (n : ℕ) → filter mine (flat_map (standings_at run n) (named run)) ≡ standings_at run n key
  at_event n =
      filter_flat mine (standings_at run n) (named run)
      ∙ (flat_same (λ k. filter mine (standings_at run n k)) (only key (standings_at run n key)) (named run) (λ k h. of_one n k)
      ∙ ⊎_elim
      (λ (h : In (named run) key). only_once key (standings_at run n key) (named run) (named_in_order run) h)
      (λ (off : In (named run) key → ⊥).
      let none : slots run key ≡ [] = unnamed_nothing runs run ok key off in
      only_none key (standings_at run n key) (named run) off
      ∙ sym (ap (λ (l : List Slot). filter (λ (z : Standing). eqb z.event n) (map (standing run key) l)) none))
      (in_or_not key (named run)))

  kept_run : IsKept key (trace_of key run)
  kept_run = run_kept runs key run ok

  pub key_order : entries_at key (joint_order run) ≡ printed run key
  key_order =
      let all : filter mine (joint_order run) ≡ standings run key =
      filter_flat mine (λ n. flat_map (standings_at run n) (named run)) (moments run)
      ∙ (flat_same (λ n. filter mine (flat_map (standings_at run n) (named run))) (λ n. standings_at run n key) (moments run) (λ n h. at_event n)
      ∙ key_gathered run key kept_run (moments_of_run runs is_effects run ok key)) in
      ap entries_of all ∙ standing_entries run key (slots run key)

pub keys_keep : RunsKeepParts → EventIsEffects → KeysKeepTheirOrder
keys_keep runs is_effects run ok key = key_order runs is_effects run ok key
