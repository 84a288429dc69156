-- What is kept of a key gives the events at which the entries of its printed order stand.
use Rattle.std.proofs.Common.{◌≡◌, ◌⊎◌, ℕ, zero, suc, Bool, true, false, cond, ◌+◌, ◌≤◌, ◌<◌, ◌&&◌, List, [], ◌∷◌, ◌++◌, append_assoc, map, length, flat_map, ◌∙◌, sym, refl, ap, ap₂, subst, inl, inr, ⊎_elim, arith, eqb, Option, Some, None, is_some, unwrap_or, ◌-◌}
use Rattle.std.specs.Prelude.{nat_le, min}
use Rattle.std.specs.List.{find, position_or_len}
use Rattle.std.specs.Option.{option_map}
use Rattle.std.proofs.lemmas.Bool.{false≢true, eq-eqb, leb-true, leb-false, le-leb, and_parts, and_from, false_from_ne_true}
use Rattle.std.proofs.lemmas.List.{map-append}
use Rattle.hk_base.specs.declared.call.CallNo.{CallNo}
use Rattle.hk_history.specs.declared.event.Entry.{Entry}
use Rattle.hk_register.specs.Machine.{In, Update}
use Rattle.hk_register.specs.Parts.{Parts}
use Rattle.hk_register.specs.Printed.{is_complete}
use Rattle.hk_register.proofs.Orders.{the_update}
use Rattle.hk_register.proofs.Tests.{any_in, in_any}
use Rattle.hk_effects.specs.Projection.{Trace, project}
use Rattle.hk_effects.specs.Orders.{family}
use Rattle.hk_effects.specs.Runs.{IsKept}
use Rattle.hk_effects.proofs.Legality.{own_agrees}
use Rattle.hk_safety.specs.declared.evidence.Evidence.{Evidence}
use Rattle.hk_safety.specs.declared.evidence.Evidence.TheVariants.{Covers}
use Rattle.hk_safety.specs.declared.evidence.Evidence.TheVariants as Evidence
use Rattle.hk_safety.specs.declared.key_run.AtStamp.{AtStamp}
use Rattle.hk_safety.specs.declared.key_run.ReadOnlyCall.{ReadOnlyCall}
use Rattle.hk_safety.specs.declared.placed.Placed.{Placed}
use Rattle.hk_safety.specs.Run.{RunState, trace_of}
use Rattle.hk_safety.specs.Moment.{traces, is_reached, moment, is_completed, completed_at, replied_at}
use Rattle.hk_safety.specs.Kept.{KeyState, IsKnown, IsKeyOf, HasEvents, IsSince, no_stamp, at_stamp, call_of, update_at, update_entry, look_entry, entries_at, kept_order}
use Rattle.hk_safety.specs.Kept.{is_complete as is_done}
use Rattle.hk_safety.specs.Placed.{entry_placed, change_placed, look_placed, placed_at, kept_placed, least_of, at_moments, earlier, earliest, stamps_from}
use Rattle.hk_safety.proofs.Completions.{moments_follow}
use Rattle.hk_safety.proofs.Events.{moments_are}
use Rattle.hk_safety.proofs.KeptOrder.{Kept, Ordered, above_head, ordered_rest, found_at, stands_or_nothing, some_stamp}
use Rattle.hk_safety.proofs.Places.{found_within, place_within}
use Rattle.hk_safety.proofs.Slots.{found_is, is_found}

-- ---- read-only calls are passed over
least_looks : (last : ℕ) (read_only : List ReadOnlyCall) (more : List Placed) → least_of last (map look_placed read_only ++ more) ≡ least_of last more
least_looks last [] more = refl
least_looks last (l ∷ read_only) more = least_looks last read_only more

moments_looks : (last : ℕ) (read_only : List ReadOnlyCall) (more : List Placed) → at_moments last (map look_placed read_only ++ more) ≡ map look_placed read_only ++ at_moments last more
moments_looks last [] more = refl
moments_looks last (l ∷ read_only) more = ap (λ (ps : List Placed). look_placed l ∷ ps) (moments_looks last read_only more)

none_passes : {X : Type 0} (p : X → Bool) (xs : List X) → ((x : X) → In xs x → p x ≡ false) → position_or_len p xs ≡ length xs
none_passes p [] none = refl
none_passes p (x ∷ xs) none = let later = none_passes p xs (λ y h. none y (inr h)) in rw (none x (inl refl)) (omega (arith, later))

-- ---- a key of a run
module _ (run : RunState) (key : List ℕ) (k : KeyState) (trace : IsKept key (trace_of key run)) (is : IsKeyOf key k (trace_of key run)) (had : HasEvents run key k)
    (ordered : Ordered k.stamps) where
  abbrev t : Trace
  t = trace_of key run

  abbrev V : ℕ → List ℕ
  V = family t.world.views

  abbrev end : ℕ
  end = length run.events

  parts : Parts V (project key t)
  parts = trace.parts V (own_agrees t.world trace.own)

  -- ---- the events of updates
  unkept : (s : ℕ) → 1 ≤ s → at_stamp s k ≡ no_stamp → completed_at run key s ≡ end + 1
  unkept s some none = subst (λ (a : AtStamp). IsSince run key s a.evidence) none (had.since s some)

  -- where no update is complete behind a stamp, nothing reaches it
  none_behind : (b : ℕ) → 1 ≤ b → ((s : ℕ) → b ≤ s → at_stamp s k ≡ no_stamp) → moment run key b ≡ end + 1
  none_behind b some none = none_passes (is_reached key b) (traces run key) (λ x h. false_from_ne_true (is_reached key b x) (λ e. reaches x h e)) ∙ moments_are run key
    where
      reaches : (x : Trace) → In (traces run key) x → is_reached key b x ≡ true → ⊥
      reaches x h e =
          let u = any_in (λ (u : Update). nat_le b u.stamp && is_complete (family x.world.views) (project key x) u.stamp) x.begun e in
          let both = and_parts (nat_le b u.0.stamp) (is_complete (family x.world.views) (project key x) u.0.stamp) u.2 in
          let up = leb-true b u.0.stamp both.0 in
          let here : is_completed key u.0.stamp x ≡ true =
          in_any (λ (v : Update). eqb v.stamp u.0.stamp && is_complete (family x.world.views) (project key x) v.stamp) x.begun u.0 u.1
          (and_from (eqb u.0.stamp u.0.stamp) _ (eq-eqb u.0.stamp u.0.stamp refl) both.1) in
          let within = found_within (is_completed key u.0.stamp) (traces run key) x h here in
          let long = moments_are run key in
          let never = unkept u.0.stamp (omega (arith, some, up)) (none u.0.stamp up) in
          absurd (omega (arith, within, long, never))

  moment_within : (b : ℕ) → moment run key b ≤ end + 1
  moment_within b = let within = place_within (is_reached key b) (traces run key) in let long = moments_are run key in omega (arith, within, long)

  -- stamps of which nothing is kept are passed over
  passed : (d b : ℕ) → ((s : ℕ) → b ≤ s → s < b + d → completed_at run key s ≡ end + 1) → moment run key b ≡ moment run key (b + d)
  passed zero b none = ap (moment run key) (omega arith)
  passed (suc d) b none =
      let here = none b (omega arith) (omega arith) in
      let more = passed d (b + 1) (λ s l m. none s (omega (arith, l)) (omega (arith, m))) in
      let follows = moments_follow run key b in
      let within = moment_within (b + 1) in
      let step : moment run key b ≡ moment run key (b + 1) = omega (arith, here, follows, within) in
      let same : b + 1 + d ≡ b + suc d = omega arith in
      step ∙ more ∙ ap (moment run key) same

  -- a stamp that no update has
  lacks : (s : ℕ) → 1 ≤ s → (at_stamp s k).update ≡ None → completed_at run key s ≡ end + 1
  lacks s some none = by_evidence (at_stamp s k).evidence (had.since s some) (is.known s some)
    where
      by_evidence : (ev : Evidence) → IsSince run key s ev → IsKnown V (project key t) s ev → completed_at run key s ≡ end + 1
      by_evidence (Covers groups) since known = since
      by_evidence (Evidence.Complete event) since known = ⊎_elim
          (λ (zero_is : s ≡ 0). absurd (omega (arith, zero_is, some)))
          (λ (u : (u : Update) × In t.begun u × (u.stamp ≡ s)).
          let found = subst (λ (r : ℕ). update_at r t.begun ≡ Some (call_of u.0)) u.2 (ap (option_map call_of) (is_found t.begun u.0 parts.once u.1)) in
          absurd (false≢true (ap is_some (sym none ∙ is.update s ∙ found))))
          (the_update V (project key t) parts s known)

  some_update : (s : ℕ) (call : CallNo) → (at_stamp s k).update ≡ Some call → 1 ≤ s
  some_update s call has = by_found (find (λ (u : Update). eqb u.stamp s) t.begun) refl
    where
      by_found : (o : Option Update) → find (λ (u : Update). eqb u.stamp s) t.begun ≡ o → 1 ≤ s
      by_found None e = absurd (false≢true (ap is_some (sym (ap (option_map call_of) e) ∙ sym (is.update s) ∙ has)))
      by_found (Some u) e =
          let at = found_is s t.begun u e in
          subst (λ (r : ℕ). 1 ≤ r) at.1 (subst (λ (r : ℕ). 1 ≤ r) (sym (parts.updates u at.0).next) (some_stamp u.kind u.base u.who))

  -- ---- rows from a stamp on
  record AreFrom (b : ℕ) (rows : List Kept) : Type 0 where
    rising : Ordered rows
    not_below : (p : Kept) → In rows p → b ≤ p.0
    kept : (p : Kept) → In rows p → at_stamp p.0 k ≡ p.1
    others : (s : ℕ) → b ≤ s → In rows (s, at_stamp s k) ⊎ (at_stamp s k ≡ no_stamp)

  rest_from : (b : ℕ) (p : Kept) (rows : List Kept) → AreFrom b (p ∷ rows) → AreFrom (p.0 + 1) rows
  rest_from b p rows from = record {
    rising = ordered_rest p rows from.rising;
    not_below = λ q h. let above = above_head p rows from.rising q h in omega (arith, above);
    kept = λ q h. from.kept q (inr h);
    others = λ s l.
        let low = from.not_below p (inl refl) in
        ⊎_elim
        (λ (h : In (p ∷ rows) (s, at_stamp s k)). ⊎_elim (λ (e : (s, at_stamp s k) ≡ p). absurd (omega (arith, l, ap (λ (q : Kept). q.0) e))) (λ (h : In rows (s, at_stamp s k)). inl h) h)
        (λ (e : at_stamp s k ≡ no_stamp). inr e) (from.others s (omega (arith, l, low)));
  }

  -- stamps before the first row
  gap : (b : ℕ) (p : Kept) (rows : List Kept) → AreFrom b (p ∷ rows) → 1 ≤ b → moment run key b ≡ moment run key p.0
  gap b p rows from some =
      let low = from.not_below p (inl refl) in
      let d = (p.0 - b) in
      let same : b + d ≡ p.0 = omega (arith, low) in
      passed d b (λ s l m. unkept s (omega (arith, some, l)) (⊎_elim
      (λ (h : In (p ∷ rows) (s, at_stamp s k)). absurd (not_among s h (omega (arith, m, same))))
      (λ (e : at_stamp s k ≡ no_stamp). e) (from.others s l))) ∙ ap (moment run key) same
    where
      not_among : (s : ℕ) → In (p ∷ rows) (s, at_stamp s k) → s < p.0 → ⊥
      not_among s (inl e) l = absurd (omega (arith, l, ap (λ (q : Kept). q.0) e))
      not_among s (inr h) l = let above = above_head p rows from.rising (s, at_stamp s k) h in absurd (omega (arith, above, l))

  -- the change of a row
  abbrev least : List Kept → ℕ
  least rows = least_of end (flat_map placed_at rows)

  row_split : (p : Kept) (rows : List Kept) → flat_map placed_at (p ∷ rows) ≡ change_placed p.1.evidence p.0 p.1.update ++ (map look_placed p.1.read_only ++ flat_map placed_at rows)
  row_split p rows = append_assoc (change_placed p.1.evidence p.0 p.1.update) (map look_placed p.1.read_only) (flat_map placed_at rows)

  -- a row with a change that is complete, and one with none
  record Changed (p : Kept) : Type 0 where
    call : CallNo
    event : ℕ
    update : p.1.update ≡ Some call
    evidence : p.1.evidence ≡ Evidence.Complete event
    at : completed_at run key p.0 ≡ event
    within : event ≤ end

  record Unchanged (p : Kept) : Type 0 where
    nothing : change_placed p.1.evidence p.0 p.1.update ≡ []
    no_entry : update_entry (is_done p.1.evidence) p.0 p.1.update ≡ []
    never : 1 ≤ p.0 → completed_at run key p.0 ≡ end + 1

  row_is : (p : Kept) → at_stamp p.0 k ≡ p.1 → Changed p ⊎ Unchanged p
  row_is p here = by_both p.1.update refl p.1.evidence refl
    where
      same : (ev : Evidence) → p.1.evidence ≡ ev → 1 ≤ p.0 → IsSince run key p.0 ev
      same ev e some = subst (IsSince run key p.0) (ap (λ (a : AtStamp). a.evidence) here ∙ e) (had.since p.0 some)

      by_both : (o : Option CallNo) → p.1.update ≡ o → (ev : Evidence) → p.1.evidence ≡ ev → Changed p ⊎ Unchanged p
      by_both None e ev f = inr (record {
        nothing = ap (change_placed p.1.evidence p.0) e;
        no_entry = ap (update_entry (is_done p.1.evidence) p.0) e;
        never = λ some. lacks p.0 some (ap (λ (a : AtStamp). a.update) here ∙ e);
      })
      by_both (Some call) e (Evidence.Complete event) f =
          let some = some_update p.0 call (ap (λ (a : AtStamp). a.update) here ∙ e) in
          let since : IsSince run key p.0 (Evidence.Complete event) = same (Evidence.Complete event) f some in
          inl (record { call = call; event = event; update = e; evidence = f; at = since.0; within = since.1 })
      by_both (Some call) e (Covers groups) f = inr (record {
        nothing = ap₂ (λ (o : Option CallNo) (ev : Evidence). change_placed ev p.0 o) e f;
        no_entry = ap₂ (λ (o : Option CallNo) (ev : Evidence). update_entry (is_done ev) p.0 o) e f;
        never = λ some. same (Covers groups) f some;
      })

  module _ (p : Kept) (rows : List Kept) where
    abbrev read_only : List Placed
    read_only = map look_placed p.1.read_only

    abbrev behind : List Placed
    behind = flat_map placed_at rows

    row_changed : (c : Changed p) → flat_map placed_at (p ∷ rows) ≡ record { event = c.event; entry = record { call = c.call; tag = Some p.0 } } ∷ (read_only ++ behind)
    row_changed c = row_split p rows ∙ ap₂ (λ (o : Option CallNo) (ev : Evidence). change_placed ev p.0 o ++ (read_only ++ behind)) c.update c.evidence

    row_unchanged : Unchanged p → flat_map placed_at (p ∷ rows) ≡ read_only ++ behind
    row_unchanged u = row_split p rows ∙ ap (λ (ps : List Placed). ps ++ (read_only ++ behind)) u.nothing

    least_changed : (c : Changed p) → least (p ∷ rows) ≡ min c.event (least rows)
    least_changed c = ap (least_of end) (row_changed c) ∙ ap (min c.event) (least_looks end p.1.read_only behind)

    least_unchanged : Unchanged p → least (p ∷ rows) ≡ least rows
    least_unchanged u = ap (least_of end) (row_unchanged u) ∙ least_looks end p.1.read_only behind

  -- the least event of the changes from a stamp on is the moment of that stamp, where there is one
  least_is : (b : ℕ) (rows : List Kept) → AreFrom b rows → 1 ≤ b → (m : ℕ) → m ≤ end → min m (least rows) ≡ min m (moment run key b)
  least_is b [] from some m l =
      let never : moment run key b ≡ end + 1 = none_behind b some (λ s up. ⊎_elim (λ (none : In {X = Kept} [] (s, at_stamp s k)). absurd none) (λ (e : at_stamp s k ≡ no_stamp). e) (from.others s up)) in
      omega (arith, l, never)
  least_is b (p ∷ rows) from some m l =
      let low = from.not_below p (inl refl) in
      let at = gap b p rows from some in
      let follows = moments_follow run key p.0 in
      let rest = least_is (p.0 + 1) rows (rest_from b p rows from) (omega arith) in
      ⊎_elim
      (λ (c : Changed p).
      let here = least_changed p rows c in
      let more = rest (min m c.event) (omega (arith, l)) in
      let done = c.at in
      omega (arith, here, more, at, follows, done))
      (λ (u : Unchanged p).
      let here = least_unchanged p rows u in
      let more = rest m l in
      let never = u.never (omega (arith, some, low)) in
      let within = moment_within (p.0 + 1) in
      omega (arith, here, more, at, follows, never, within))
      (row_is p (from.kept p (inl refl)))

  -- ---- the entries
  looks_are : (read_only : List ReadOnlyCall) → ((l : ReadOnlyCall) → In read_only l → replied_at run key l.call.0 ≡ l.event) → map look_placed read_only ≡ map (entry_placed run key) (map look_entry read_only)
  looks_are [] at = refl
  looks_are (l ∷ read_only) at = ap₂ (λ (n : ℕ) (ps : List Placed). record { event = n; entry = look_entry l } ∷ ps) (sym (at l (inl refl))) (looks_are read_only (λ m h. at m (inr h)))

  placed_from : (b : ℕ) (rows : List Kept) → AreFrom b rows → at_moments end (flat_map placed_at rows) ≡ map (entry_placed run key) (flat_map entries_at rows)
  placed_from b [] from = refl
  placed_from b (p ∷ rows) from =
      let here : at_stamp p.0 k ≡ p.1 = from.kept p (inl refl) in
      let told : map look_placed p.1.read_only ≡ map (entry_placed run key) (map look_entry p.1.read_only) =
      looks_are p.1.read_only (λ l h. (had.replied p.0 l (subst (λ (a : AtStamp). In a.read_only l) (sym here) h)).0) in
      let more : at_moments end (flat_map placed_at rows) ≡ map (entry_placed run key) (flat_map entries_at rows) = placed_from (p.0 + 1) rows (rest_from b p rows from) in
      let rest : at_moments end (read_only p rows ++ behind p rows) ≡ map (entry_placed run key) (map look_entry p.1.read_only ++ flat_map entries_at rows) =
      moments_looks end p.1.read_only (behind p rows) ∙ ap₂ (λ (a b : List Placed). a ++ b) told more
      ∙ sym (map-append (entry_placed run key) (map look_entry p.1.read_only) (flat_map entries_at rows)) in
      let split : flat_map entries_at (p ∷ rows) ≡ update_entry (is_done p.1.evidence) p.0 p.1.update ++ (map look_entry p.1.read_only ++ flat_map entries_at rows) =
      append_assoc (update_entry (is_done p.1.evidence) p.0 p.1.update) (map look_entry p.1.read_only) (flat_map entries_at rows) in
      ⊎_elim
      (λ (c : Changed p).
      let entry : Entry = record { call = c.call; tag = Some p.0 } in
      let follows = moments_follow run key p.0 in
      let least_behind = least_looks end p.1.read_only (behind p rows) in
      let up = least_is (p.0 + 1) rows (rest_from b p rows from) (omega arith) c.event c.within in
      let done = c.at in
      let event : min c.event (least_of end (read_only p rows ++ behind p rows)) ≡ moment run key p.0 = omega (arith, follows, least_behind, up, done) in
      let entries : flat_map entries_at (p ∷ rows) ≡ entry ∷ (map look_entry p.1.read_only ++ flat_map entries_at rows) =
      split ∙ ap₂ (λ (o : Option CallNo) (ev : Evidence). update_entry (is_done ev) p.0 o ++ (map look_entry p.1.read_only ++ flat_map entries_at rows)) c.update c.evidence in
      ap (at_moments end) (row_changed p rows c) ∙ ap₂ (λ (n : ℕ) (ps : List Placed). record { event = n; entry = entry } ∷ ps) event rest
      ∙ sym (ap (map (entry_placed run key)) entries))
      (λ (u : Unchanged p).
      let entries : flat_map entries_at (p ∷ rows) ≡ map look_entry p.1.read_only ++ flat_map entries_at rows =
      split ∙ ap (λ (es : List Entry). es ++ (map look_entry p.1.read_only ++ flat_map entries_at rows)) u.no_entry in
      ap (at_moments end) (row_unchanged p rows u) ∙ rest ∙ sym (ap (map (entry_placed run key)) entries))
      (row_is p here)

  all_rows : AreFrom 0 k.stamps
  all_rows = record {
    rising = ordered;
    not_below = λ p h. omega arith;
    kept = λ p h. ap (λ (o : Option AtStamp). unwrap_or o no_stamp) (found_at k.stamps ordered p h);
    others = λ s l. stands_or_nothing k s;
  }

  pub placed_whole : at_moments end (kept_placed k) ≡ map (entry_placed run key) (kept_order k)
  placed_whole = placed_from 0 k.stamps all_rows

  -- ---- one stamp
  -- the earliest completion from a stamp on is the moment of that stamp, where it comes before the event
  earliest_is : (b : ℕ) (rows : List Kept) → AreFrom b rows → 1 ≤ b → (m : ℕ) → m ≤ end → earliest m rows ≡ min m (moment run key b)
  earliest_is b [] from some m l =
      let never : moment run key b ≡ end + 1 = none_behind b some (λ s up. ⊎_elim (λ (none : In {X = Kept} [] (s, at_stamp s k)). absurd none) (λ (e : at_stamp s k ≡ no_stamp). e) (from.others s up)) in
      omega (arith, l, never)
  earliest_is b (p ∷ rows) from some m l =
      let low = from.not_below p (inl refl) in
      by_evidence p.1.evidence (subst (λ (a : AtStamp). IsSince run key p.0 a.evidence) (from.kept p (inl refl)) (had.since p.0 (omega (arith, some, low))))
      (earliest_is (p.0 + 1) rows (rest_from b p rows from) (omega arith))
    where
      by_evidence : (ev : Evidence) → IsSince run key p.0 ev → ((n : ℕ) → n ≤ end → earliest n rows ≡ min n (moment run key (p.0 + 1))) →
          earliest (earlier m ev) rows ≡ min m (moment run key b)
      by_evidence (Evidence.Complete event) since rest =
          let at = gap b p rows from some in
          let follows = moments_follow run key p.0 in
          let more = rest (min m event) (omega (arith, l)) in
          let done = since.0 in
          omega (arith, more, at, follows, done)
      by_evidence (Covers groups) since rest =
          let at = gap b p rows from some in
          let follows = moments_follow run key p.0 in
          let more = rest m l in
          let within = moment_within (p.0 + 1) in
          omega (arith, more, at, follows, since, within)

  none_below : (s : ℕ) (rows : List Kept) → ((p : Kept) → In rows p → s ≤ p.0) → stamps_from s rows ≡ rows
  none_below s [] up = refl
  none_below s (p ∷ rows) up = rw (le-leb s p.0 (up p (inl refl))) (ap (λ (rows : List Kept). p ∷ rows) (none_below s rows (λ q h. up q (inr h))))

  from_stamp : (b : ℕ) (rows : List Kept) → AreFrom b rows → (s : ℕ) → b ≤ s → AreFrom s (stamps_from s rows)
  from_stamp b [] from s l = record {
    rising = from.rising;
    not_below = λ p h. absurd h;
    kept = λ p h. absurd h;
    others = λ r up. from.others r (omega (arith, l, up));
  }
  from_stamp b (p ∷ rows) from s l = by_test (nat_le s p.0) refl (from_stamp (p.0 + 1) rows (rest_from b p rows from) s)
    where
      by_test : (t : Bool) → nat_le s p.0 ≡ t → (p.0 + 1 ≤ s → AreFrom s (stamps_from s rows)) → AreFrom s (cond t (p ∷ stamps_from s rows) (stamps_from s rows))
      by_test false e more = let less = leb-false s p.0 e in more (omega (arith, less))
      by_test true e more =
          let here = leb-true s p.0 e in
          let above = above_head p rows from.rising in
          let up : (q : Kept) → In rows q → s ≤ q.0 = λ q h. let less = above q h in omega (arith, here, less) in
          subst (λ (rest : List Kept). AreFrom s (p ∷ rest)) (sym (none_below s rows up)) (record {
            rising = from.rising;
            not_below = λ q h. ⊎_elim (λ (is : q ≡ p). let same = ap (λ (q : Kept). q.0) is in omega (arith, here, same)) (up q) h;
            kept = from.kept;
            others = λ r k. from.others r (omega (arith, l, k));
          })

  pub earliest_whole : (s : ℕ) → 1 ≤ s → (event : ℕ) → completed_at run key s ≡ event → event ≤ end → earliest event (stamps_from s k.stamps) ≡ moment run key s
  earliest_whole s some event at within =
      let is = earliest_is s (stamps_from s k.stamps) (from_stamp 0 k.stamps all_rows s (omega arith)) some event within in
      let follows = moments_follow run key s in
      omega (arith, is, follows, at)
