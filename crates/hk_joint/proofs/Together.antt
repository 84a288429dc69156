-- Between two Reads of one batch no change stands.
use Rattle.std.proofs.Common.{◌≡◌, ℕ, zero, suc, Bool, true, false, cond, ◌+◌, ◌||◌, not, List, [], ◌∷◌, length, get_or, ◌<◌, ◌≤◌, ◌∙◌, sym, refl, ap, subst, inl, inr, ⊎_elim, arith, Option, Some, None, Ok, is_some, unwrap_or, eq-zero-or-pos}
use Rattle.std.specs.List.{filter, list_any, position_or_len}
use Rattle.std.proofs.lemmas.Bool.{false≢true, eqb-true, eq-eqb, cases_lt, false_from_ne_true}
use Rattle.hk_base.specs.declared.call.Answer.{Answer}
use Rattle.hk_base.specs.declared.call.CallNo.{CallNo}
use Rattle.hk_base.specs.declared.call.Op.TheVariants.{Read}
use Rattle.hk_base.specs.declared.stamp.NodeId.{NodeId}
use Rattle.hk_base.specs.declared.call.Reply.{Reply}
use Rattle.hk_history.specs.declared.event.Event.{Event as HistoryEvent}
use Rattle.hk_history.specs.declared.event.Entry.{Entry}
use Rattle.hk_history.specs.History.{is_call, is_reply}
use Rattle.hk_history.specs.Legal.{Legal, is_entry}
use Rattle.hk_register.specs.Machine.{In, Item, call_of}
use Rattle.hk_register.specs.Machine.Item.{Called, Answered, Dropped, ReadOnly, Rejected}
use Rattle.hk_register.specs.Printed.{Slot, StandsAt, item_events, events_of, tag_at, entry_of}
use Rattle.hk_register.proofs.Grow.{in_either}
use Rattle.hk_register.proofs.Once.{look_slot, own_slot, slot_stands}
use Rattle.hk_register.proofs.Printing.{printed_is}
use Rattle.hk_register.proofs.Tests.{any_in, in_any}
use Rattle.hk_event.specs.declared.event.Event.{Event}
use Rattle.hk_event.specs.declared.event.Event.TheVariants.{Call}
use Rattle.hk_world.specs.World.{numbered}
use Rattle.hk_world.specs.Start.{start}
use Rattle.hk_world.specs.Steps.{world_step}
use Rattle.hk_effects.specs.Projection.{Trace, project, traced, is_same_key}
use Rattle.hk_effects.specs.Laws.{EventIsEffects}
use Rattle.hk_effects.specs.Orders.{history_of}
use Rattle.hk_effects.specs.Runs.{IsKept, RunsKeepParts}
use Rattle.hk_safety.specs.Run.{RunState, world_of, IsRun, trace_of, history, printed}
use Rattle.hk_safety.specs.Kept.{called_from}
use Rattle.hk_safety.proofs.Traces.{run_kept, step_at, trace_then}
use Rattle.hk_safety.specs.Moment.{is_reached, moment, replied_at, up_to}
use Rattle.hk_joint.specs.Joint.{Standing, slots, event_of, joint_order, entries_at}
use Rattle.hk_joint.specs.declared.batch.Reading.{Reading}
use Rattle.hk_joint.specs.Batch.{is_told, reading_by, readings_from, batches}
use Rattle.hk_joint.specs.Legal.{IsTogether}
use Rattle.hk_joint.proofs.AllKeys.{IsOn}
use Rattle.hk_joint.proofs.Chain.{Views, kept_parts, IsMomentOf, moments_of_run}
use Rattle.hk_joint.proofs.Earlier.{look_replies, in_last}
use Rattle.hk_joint.proofs.KeyOrder.{is_change, is_other, change_stamp}
use Rattle.hk_joint.proofs.Lists.{of_filter, of_map, stands_first}
use Rattle.hk_joint.proofs.Readings.{read_replies, read_is, read_reaches_none, read_look}
use Rattle.hk_joint.proofs.Segments.{IsSegment, segments, of_batch, in_batch, IsReadAt, read_at}
use Rattle.hk_joint.proofs.Timing.{run_up_to, upto, at_first, moment_now, event_after_key, slot_on, IsStanding, in_joint, joint_rises, has, position_entries}

-- ---- of one trace
begins : (i : Item) (c : ℕ) (line : HistoryEvent) → In (item_events i) line → is_call c line ≡ true → call_of i ≡ c
begins (Called d s op) c line (inl e) r = eqb-true d c (subst (λ (l : HistoryEvent). is_call c l ≡ true) e r)
begins (Called d s op) c line (inr h) r = absurd h
begins (Answered d s a) c line (inl e) r = absurd (false≢true (subst (λ (l : HistoryEvent). is_call c l ≡ true) e r))
begins (Answered d s a) c line (inr h) r = absurd h
begins (Dropped d s a) c line (inl e) r = absurd (false≢true (subst (λ (l : HistoryEvent). is_call c l ≡ true) e r))
begins (Dropped d s a) c line (inr h) r = absurd h
begins (ReadOnly d s op held a) c line (inl e) r = eqb-true d c (subst (λ (l : HistoryEvent). is_call c l ≡ true) e r)
begins (ReadOnly d s op held a) c line (inr (inl e)) r = absurd (false≢true (subst (λ (l : HistoryEvent). is_call c l ≡ true) e r))
begins (ReadOnly d s op held a) c line (inr (inr h)) r = absurd h
begins (Rejected d op a) c line (inl e) r = eqb-true d c (subst (λ (l : HistoryEvent). is_call c l ≡ true) e r)
begins (Rejected d op a) c line (inr (inl e)) r = absurd (false≢true (subst (λ (l : HistoryEvent). is_call c l ≡ true) e r))
begins (Rejected d op a) c line (inr (inr h)) r = absurd h

begun_by : (items : List Item) (c : ℕ) (line : HistoryEvent) → In (events_of items) line → is_call c line ≡ true → (i : Item) × In items i × (call_of i ≡ c)
begun_by [] c line h r = absurd h
begun_by (i ∷ items) c line h r = ⊎_elim
    (λ (k : In (events_of items) line). let t = begun_by items c line k r in (t.0, inr t.1, t.2))
    (λ (k : In (item_events i) line). (i, inl refl, begins i c line k r))
    (in_either (events_of items) (item_events i) line h)

-- the next call has not begun
next_not_begun : (key : List ℕ) (t : Trace) → IsKept key t → list_any (is_call (t.world.calls + 1)) (history_of t) ≡ false
next_not_begun key t ok = false_from_ne_true (list_any (is_call (t.world.calls + 1)) (history_of t)) (λ h.
    let f = any_in (is_call (t.world.calls + 1)) (history_of t) h in
    let i = begun_by t.history (t.world.calls + 1) f.0 f.1 f.2 in
    let low = ok.trace.numbered i.0 i.1 in
    absurd (omega (arith, low, i.2)))

at_place : (items : List Item) (i : Item) → In items i → (k : ℕ) × StandsAt items k i × (0 < k)
at_place [] i h = absurd h
at_place (x ∷ items) i (inl e) = (length items + 1, inl (e, refl), omega arith)
at_place (x ∷ items) i (inr h) = let t = at_place items i h in (t.0, inr t.1, t.2)

-- ---- what a Read tells
record IsTold (node : NodeId) (key : List ℕ) (call : CallNo) (answer : Answer) (r : Reading) : Type 0 where
  told : is_told answer ≡ true
  is : r ≡ record { node = node; key = key; call = call }

told_is : (node : NodeId) (key : List ℕ) (reply : Reply) (r : Reading) → reading_by node key (reply ∷ []) ≡ Some r → IsTold node key reply.call reply.answer r
told_is node key reply r e = by_test (is_told reply.answer) refl e
  where
    mine : Reading
    mine = record { node = node; key = key; call = reply.call }

    by_test : (b : Bool) → is_told reply.answer ≡ b → cond b (Some mine) None ≡ Some r → IsTold node key reply.call reply.answer r
    by_test true t e = record { told = t; is = sym (some_is mine r e) }
      where
        some_is : (x y : Reading) → Some x ≡ Some y → x ≡ y
        some_is x y e = cc
    by_test false t e = absurd (false≢true (ap is_some e))

any_by_position : {X : Type 0} (p : X → Bool) (xs : List X) → position_or_len p xs < length xs → list_any p xs ≡ true
any_by_position p [] l = absurd (omega (arith, l))
any_by_position p (x ∷ xs) l = by_test (p x) l (any_by_position p xs)
  where
    by_test : (b : Bool) → cond (not b) (1 + position_or_len p xs) 0 < length (x ∷ xs) → (position_or_len p xs < length xs → list_any p xs ≡ true) → (b || list_any p xs) ≡ true
    by_test true l more = refl
    by_test false l more = more (omega (arith, l))

position_within : {X : Type 0} (p : X → Bool) (xs : List X) → position_or_len p xs ≤ length xs
position_within p [] = omega arith
position_within p (x ∷ xs) = by_test (p x) (position_within p xs)
  where
    by_test : (b : Bool) → position_or_len p xs ≤ length xs → cond (not b) (1 + position_or_len p xs) 0 ≤ length (x ∷ xs)
    by_test true more = omega arith
    by_test false more = omega (arith, more)

tag_none : (place stamp : ℕ) → 0 < place → tag_at place stamp ≡ None
tag_none zero stamp l = absurd (omega (arith, l))
tag_none (suc k) stamp l = refl

apart : (m n : ℕ) → m ≤ n → (d : ℕ) × (n ≡ m + d)
apart zero n l = (n, omega arith)
apart (suc m) zero l = absurd (omega (arith, l))
apart (suc m) (suc n) l = let t = apart m n (omega (arith, l)) in (t.0, omega (arith, t.1))

module _ (runs : RunsKeepParts) (is_effects : EventIsEffects) (run : RunState) (ok : IsRun run) (legal : (key : List ℕ) → Legal (history run key) (printed run key))
    (keys : (key : List ℕ) → entries_at key (joint_order run) ≡ printed run key) where
  abbrev now : List ℕ → ℕ → Trace
  now key n = trace_of key (up_to n run)

  -- the entries of one call stand at one event
  one_event : (key : List ℕ) (b : Slot) → In (slots run key) b → (z : Standing) → In (joint_order run) z → z.slot.call ≡ b.call → z.event ≡ event_of run key b
  one_event key b mine z h same =
      let p = in_joint runs is_effects run ok z h in
      let slot : z.slot ≡ p.slot = ap (λ (s : Standing). s.slot) p.is in
      let calls : p.slot.call ≡ b.call = sym (ap (λ (s : Slot). s.call) slot) ∙ same in
      let on_p : IsOn run p.key p.slot.call = slot_on runs is_effects run ok p.key (legal p.key) p.slot p.mine in
      let on_b : IsOn run key b.call = slot_on runs is_effects run ok key (legal key) b mine in
      let keys : p.key ≡ key = key_is (sym on_p ∙ (ap (λ (n : ℕ). numbered n (called_from run.events)) calls ∙ on_b)) in
      let there : In (slots run key) p.slot = subst (λ (k : List ℕ). In (slots run k) p.slot) keys p.mine in
      let kept_run : IsKept key (trace_of key run) = run_kept runs key run ok in
      let parts = kept_parts key (trace_of key run) kept_run in
      let V = Views (trace_of key run) in
      let one : p.slot ≡ b = own_slot V (project key (trace_of key run)) parts kept_run.calls (slots run key) (printed_is V (project key (trace_of key run)) parts) p.slot b there mine calls in
      ap (λ (s : Standing). s.event) p.is ∙ (ap (λ (k : List ℕ). event_of run k p.slot) keys ∙ ap (event_of run key) one)
    where
      key_is : {k j : List ℕ} → Some k ≡ Some j → k ≡ j
      key_is {k} {j} e = ap (λ (o : Option (List ℕ)). unwrap_or o k) e

  -- a key's entry stands in the joint order
  stands_there : (key : List ℕ) (b : Slot) → In (slots run key) b → list_any (has b.call) (joint_order run) ≡ true
  stands_there key b mine =
      let stands : list_any (is_entry b.call) (entries_at key (joint_order run)) ≡ true =
      subst (λ (l : List Entry). list_any (is_entry b.call) l ≡ true) (sym (keys key)) (slot_stands (slots run key) b mine) in
      let f = any_in (is_entry b.call) (entries_at key (joint_order run)) stands in
      let m = of_map (λ (z : Standing). entry_of z.slot) (filter (λ (z : Standing). is_same_key key z.key) (joint_order run)) f.0 f.1 in
      let z = of_filter (λ (y : Standing). is_same_key key y.key) (joint_order run) m.0 m.1 in
      in_any (has b.call) (joint_order run) m.0 z.0 (subst (λ (e : Entry). is_entry b.call e ≡ true) m.2 f.2)

  -- ---- a Read, by its place among the events
  module _ (i : ℕ) (r : Reading) (at : IsReadAt (start run.header) run.events i r) where
    abbrev before : RunState
    before = up_to i run

    made : world_step (world_of before) (Call at.id at.key Read) ≡ Ok at.a
    made = at.made

    -- the traces of each key go on with it
    goes_on : (key : List ℕ) → now key (suc i) ≡ traced key (now key i) (Call at.id at.key Read) at.a
    goes_on key = ap (λ (events : List Event). trace_of key (record { header = run.header; events = events })) at.next ∙ trace_then key before (Call at.id at.key Read) at.a made

    made_at : (key : List ℕ) → world_step (now key i).world (Call at.id at.key Read) ≡ Ok at.a
    made_at key = step_at key before (Call at.id at.key Read) at.a made

    kept_at : (key : List ℕ) (n : ℕ) → IsKept key (now key n)
    kept_at key n = run_kept runs key (up_to n run) (run_up_to n run ok)

    -- nothing is reached by it
    pub reaches_none : (key : List ℕ) (s : ℕ) → 1 ≤ s → is_reached key s (now key (suc i)) ≡ true → is_reached key s (now key i) ≡ true
    reaches_none key s one h =
        read_reaches_none (now key i) at.id at.key at.a (made_at key) key (kept_at key i) s one (subst (λ (t : Trace). is_reached key s t ≡ true) (goes_on key) h)

    abbrev t : Trace
    t = now at.key i

    is_told_here : IsTold at.id at.key (record { 0 = t.world.calls + 1 }) (read_is t at.id at.key at.a (made_at at.key)).answer r
    is_told_here = told_is at.id at.key (record { call = record { 0 = t.world.calls + 1 }; answer = (read_is t at.id at.key at.a (made_at at.key)).answer }) r
        (sym (ap (reading_by at.id at.key) (read_replies t at.id at.key at.a (made_at at.key))) ∙ at.told)

    record IsPlaced : Type 0 where
      slot : Slot
      mine : In (slots run at.key) slot
      call : slot.call ≡ r.call.0
      event : event_of run at.key slot ≡ i + 1

    is_placed : IsPlaced
    is_placed =
        let key : List ℕ = at.key in
        let c : ℕ = t.world.calls + 1 in
        let last : Trace = trace_of key run in
        let look = read_look t at.id key at.a (made_at key) is_told_here.told in
        let there : In (now key (suc i)).history (ReadOnly c look.stamp Read look.content look.answer) =
        subst (λ (z : Trace). In z.history (ReadOnly c look.stamp Read look.content look.answer)) (sym (goes_on key)) look.there in
        let m : IsMomentOf key last (now key (suc i)) = moment_now runs is_effects run ok key (suc i) at.within in
        let kept_run : IsKept key last = run_kept runs key run ok in
        let parts = kept_parts key last kept_run in
        let in_end : In last.history (ReadOnly c look.stamp Read look.content look.answer) = in_last (Views (now key (suc i))) (project key (now key (suc i))) (project key last) kept_run.calls m.earlier _ there in
        let p = at_place last.history (ReadOnly c look.stamp Read look.content look.answer) in_end in
        let slot : Slot = look_slot p.0 c look.stamp Read look.content look.answer in
        let mine : In (slots run key) slot = (printed_is (Views last) (project key last) parts).looks p.0 c look.stamp Read look.content look.answer p.1 in
        let place : event_of run key slot ≡ replied_at run key c = is_other run key kept_run (moments_of_run runs is_effects run ok key) slot p.2 in
        let high : replied_at run key c ≤ suc i =
        upto runs is_effects run ok key (λ (z : Trace). list_any (is_reply c) (history_of z)) (suc i) at.within (look_replies (now key (suc i)).history slot there) in
        let within = at.within in
        let low : i < event_of run key slot =
        event_after_key runs is_effects run ok key slot mine (slot_on runs is_effects run ok key (legal key) slot mine) i (omega (arith, within)) (next_not_begun key t (kept_at key i)) in
        record { slot = slot; mine = mine; call = sym (ap (λ (q : Reading). q.call.0) is_told_here.is); event = omega (arith, place, high, low) }

    -- so each entry of its call stands at its event
    pub read_event : (z : Standing) → In (joint_order run) z → z.slot.call ≡ r.call.0 → z.event ≡ i + 1
    read_event z h same = one_event at.key is_placed.slot is_placed.mine z h (same ∙ sym is_placed.call) ∙ is_placed.event

    pub read_stands : list_any (has r.call.0) (joint_order run) ≡ true
    read_stands = subst (λ (n : ℕ). list_any (has n) (joint_order run) ≡ true) is_placed.call (stands_there at.key is_placed.slot is_placed.mine)

  abbrev order : List Standing
  order = joint_order run

  -- ---- two Reads of a batch
  module _ (batch : List Reading) (seg : IsSegment (readings_from (start run.header) run.events) batch) (a b : Reading) (ha : In batch a) (hb : In batch b)
      (s : Standing) (hs : In (joint_order run) s) where
    event_read : (r : Reading) (i : ℕ) → get_or (readings_from (start run.header) run.events) i None ≡ Some r → (z : Standing) → In order z → has r.call.0 z ≡ true → z.event ≡ i + 1
    event_read r i e z h same = read_event i r (read_at run.events (start run.header) i r e) z h (eqb-true z.slot.call r.call.0 same)

    p : IsStanding runs is_effects run ok s
    p = in_joint runs is_effects run ok s hs

    event_mine : (z : Standing) → In order z → has s.slot.call z ≡ true → z.event ≡ s.event
    event_mine z h same =
        let slot : s.slot ≡ p.slot = ap (λ (y : Standing). y.slot) p.is in
        one_event p.key p.slot p.mine z h (eqb-true z.slot.call s.slot.call same ∙ ap (λ (y : Slot). y.call) slot) ∙ sym (ap (λ (y : Standing). y.event) p.is)

    mine_there : list_any (has s.slot.call) order ≡ true
    mine_there = in_any (has s.slot.call) order s hs (eq-eqb s.slot.call s.slot.call refl)

    abbrev place : ℕ → ℕ
    place n = position_or_len (has n) order

    -- what stands behind a Read has no lower event, and what stands before one no higher
    not_lower : (i : ℕ) → get_or (readings_from (start run.header) run.events) i None ≡ Some a → place a.call.0 < place s.slot.call → i + 1 ≤ s.event
    not_lower i e first = ⊎_elim
        (λ (low : s.event < i + 1).
        let within = position_within (has s.slot.call) order in
        let found : list_any (has a.call.0) order ≡ true = any_by_position (has a.call.0) order (omega (arith, first, within)) in
        let turned = stands_first (λ (y : Standing). y.event) (has s.slot.call) (has a.call.0) order (joint_rises runs is_effects run ok) (λ x y hx hy px py.
        let ex = event_mine x hx px in let ey = event_read a i e y hy py in omega (arith, ex, ey, low)) mine_there found in
        absurd (omega (arith, turned, first)))
        (λ (l : i + 1 ≤ s.event). l)
        (cases_lt s.event (i + 1))

    not_higher : (i : ℕ) → get_or (readings_from (start run.header) run.events) i None ≡ Some b → place s.slot.call < place b.call.0 → s.event ≤ i + 1
    not_higher i e first = ⊎_elim
        (λ (high : i + 1 < s.event).
        let found : list_any (has b.call.0) order ≡ true = read_stands i b (read_at run.events (start run.header) i b e) in
        let turned = stands_first (λ (y : Standing). y.event) (has b.call.0) (has s.slot.call) order (joint_rises runs is_effects run ok) (λ x y hx hy px py.
        let ex = event_read b i e x hx px in let ey = event_mine y hy py in omega (arith, ex, ey, high)) found mine_there in
        absurd (omega (arith, turned, first)))
        (λ (l : s.event ≤ i + 1). l)
        (cases_lt (i + 1) s.event)

    -- no change has its moment at a Read of the batch
    not_at : (m : ℕ) (r : Reading) → get_or (readings_from (start run.header) run.events) m None ≡ Some r → s.slot.place ≡ 0 → s.event ≡ suc m → ⊥
    not_at m r e zero_is event =
        let at = read_at run.events (start run.header) m r e in
        let slot : s.slot ≡ p.slot = ap (λ (y : Standing). y.slot) p.is in
        let zero_here : p.slot.place ≡ 0 = sym (ap (λ (y : Slot). y.place) slot) ∙ zero_is in
        let kept_run : IsKept p.key (trace_of p.key run) = run_kept runs p.key run ok in
        let each = moments_of_run runs is_effects run ok p.key in
        let is : moment run p.key p.slot.stamp ≡ suc m = sym (is_change run p.key kept_run each p.slot zero_here) ∙ (sym (ap (λ (y : Standing). y.event) p.is) ∙ event) in
        let one = change_stamp run p.key kept_run each p.slot p.mine zero_here in
        let within = at.within in
        let there = at_first runs is_effects run ok p.key (is_reached p.key p.slot.stamp) (suc m) within is in
        let here = reaches_none m r at p.key p.slot.stamp one there in
        let low = upto runs is_effects run ok p.key (is_reached p.key p.slot.stamp) m (omega (arith, within)) here in
        absurd (omega (arith, low, is))

    change_out : s.slot.place ≡ 0 → place a.call.0 < place s.slot.call → place s.slot.call < place b.call.0 → ⊥
    change_out zero_is after_a before_b =
        let front : ℕ = length seg.before in
        let ja = of_batch (readings_from (start run.header) run.events) batch seg a ha in
        let jb = of_batch (readings_from (start run.header) run.events) batch seg b hb in
        let low = not_lower (front + ja.0) ja.2 after_a in
        let high = not_higher (front + jb.0) jb.2 before_b in
        let d = apart (front + 1) s.event (omega (arith, low)) in
        let short = jb.1 in
        let r = in_batch (readings_from (start run.header) run.events) batch seg d.0 (omega (arith, d.1, high, short)) in
        not_at (front + d.0) r.0 r.1 zero_is (omega (arith, d.1))

  pub joint_together : (batch : List Reading) → In (batches run) batch → IsTogether order batch
  joint_together batch h a b ha hb s hs after_a before_b = ⊎_elim
      (λ (zero_is : s.slot.place ≡ 0).
      let pa = position_entries a.call.0 order in
      let ps = position_entries s.slot.call order in
      let pb = position_entries b.call.0 order in
      absurd (change_out batch (segments (readings_from (start run.header) run.events) [] batch h) a b ha hb s hs zero_is (omega (arith, after_a, pa, ps)) (omega (arith, before_b, pb, ps))))
      (λ (pos : 0 < s.slot.place). tag_none s.slot.place s.slot.stamp pos)
      (eq-zero-or-pos s.slot.place)
