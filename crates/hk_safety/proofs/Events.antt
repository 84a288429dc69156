-- The events that are kept of a key go on with a run.
use Rattle.std.proofs.Common.{◌≡◌, ℕ, Bool, true, false, ◌+◌, ◌<◌, ◌≤◌, ◌&&◌, List, [], ◌∷◌, ◌++◌, length, length-append, ◌∙◌, sym, refl, ap, subst, inl, inr, ⊎_elim, arith, eqb, Option, Some, None, Result, Ok, Err}
use Rattle.std.specs.List.{list_any, position_or_len}
use Rattle.std.proofs.lemmas.Bool.{false≢true, eqb-true, eq-eqb, and_parts, and_from, false_from_ne_true}
use Rattle.std.proofs.lemmas.List.{map-append, append_cancel_left}
use Rattle.hk_base.specs.declared.call.CallNo.{CallNo}
use Rattle.hk_base.specs.declared.stamp.NodeId.{NodeId}
use Rattle.hk_history.specs.History.{is_reply}
use Rattle.hk_register.specs.Machine.{In, Update, Item, RegisterState, call_of}
use Rattle.hk_register.specs.Facts.{Complete}
use Rattle.hk_register.specs.Parts.{Parts}
use Rattle.hk_register.specs.Calls.{IsReply, OneReply}
use Rattle.hk_register.specs.Printed.{is_complete, events_of}
use Rattle.hk_register.proofs.Grow.{in_left, in_right, in_either}
use Rattle.hk_register.proofs.Orders.{the_update}
use Rattle.hk_register.proofs.Tests.{any_in, in_any}
use Rattle.hk_event.specs.declared.event.Event.{Event}
use Rattle.hk_event.specs.declared.event.Header.{Header}
use Rattle.hk_event.specs.declared.refused.Refused.{Refused}
use Rattle.hk_world.specs.Steps.{Accepted, acting_of, world_step}
use Rattle.hk_effects.specs.Projection.{Trace, project, key_node, node_at, told_at, items_of, traced, traced_by}
use Rattle.hk_effects.specs.Orders.{family, history_of}
use Rattle.hk_effects.specs.Runs.{start_trace, IsKept}
use Rattle.hk_effects.proofs.Legality.{own_agrees}
use Rattle.hk_safety.specs.declared.evidence.Evidence.{Evidence}
use Rattle.hk_safety.specs.declared.evidence.Evidence.TheVariants.{Covers}
use Rattle.hk_safety.specs.declared.evidence.Evidence.TheVariants as Evidence
use Rattle.hk_safety.specs.declared.key_run.ReadOnlyCall.{ReadOnlyCall}
use Rattle.hk_safety.specs.Run.{RunState, world_of, trace_with, trace_from, trace_of}
use Rattle.hk_safety.specs.Push.{with_event}
use Rattle.hk_safety.specs.Moment.{traces_after, traces, is_completed, completed_at, replied_at}
use Rattle.hk_safety.specs.Kept.{KeyState, IsKnown, IsKeyOf, HasEvents, IsSince, IsRepliedAt, at_stamp, looks_at, calls_in, first_key}
use Rattle.hk_safety.specs.Grown.{IsSinceThen, AreLooked, GoesAt}
use Rattle.hk_safety.proofs.Complete.{complete_is, is_complete_from}
use Rattle.hk_safety.proofs.Following.{events_append, looks_append}
use Rattle.hk_safety.proofs.Places.{stays_found, found_last, none_yet}
use Rattle.hk_safety.proofs.Replied.{RepliedBy, replied_is, replied_by, not_twice, looked_is}
use Rattle.hk_safety.proofs.Traces.{trace_then}
use Rattle.hk_safety.proofs.Unnamed.{in_map}

-- ---- the moments of a run
pub traces_len : (key : List ℕ) (t : Trace) (events : List Event) → length (traces_after key t events) ≡ length events
traces_len key t [] = refl
traces_len key t (x ∷ xs) = let more = traces_len key (trace_with key t x (world_step t.world x)) xs in omega (arith, more)

pub moments_are : (run : RunState) (key : List ℕ) → length (traces run key) ≡ length run.events + 1
moments_are run key = let long = traces_len key (start_trace run.header) run.events in omega (arith, long)

traces_last : (key : List ℕ) (t : Trace) (xs : List Event) (x : Event) → traces_after key t (xs ++ x ∷ []) ≡ traces_after key t xs ++ trace_from key t (xs ++ x ∷ []) ∷ []
traces_last key t [] x = refl
traces_last key t (y ∷ xs) x =
    ap (λ (ts : List Trace). trace_with key t y (world_step t.world y) ∷ ts) (traces_last key (trace_with key t y (world_step t.world y)) xs x)

-- an event makes one moment more
pub traces_then : (run : RunState) (key : List ℕ) (event : Event) → traces (with_event run event) key ≡ traces run key ++ trace_of key (with_event run event) ∷ []
traces_then run key event = ap (λ (ts : List Trace). start_trace run.header ∷ ts) (traces_last key (start_trace run.header) run.events event)

module _ (run : RunState) (key : List ℕ) (event : Event) (p : Trace → Bool) where
  abbrev last : Trace
  last = trace_of key (with_event run event)

  place_stays : position_or_len p (traces run key) ≤ length run.events → position_or_len p (traces (with_event run event) key) ≡ position_or_len p (traces run key)
  place_stays l =
      let long = moments_are run key in
      ap (position_or_len p) (traces_then run key event) ∙ stays_found p (traces run key) (last ∷ []) (omega (arith, l, long))

  place_last : position_or_len p (traces run key) ≡ length run.events + 1 → p last ≡ true → position_or_len p (traces (with_event run event) key) ≡ length run.events + 1
  place_last none e =
      let long = moments_are run key in
      ap (position_or_len p) (traces_then run key event) ∙ found_last p (traces run key) last (none ∙ sym long) e ∙ long

  place_none : position_or_len p (traces run key) ≡ length run.events + 1 → p last ≡ false → position_or_len p (traces (with_event run event) key) ≡ length run.events + 1 + 1
  place_none none e =
      let long = moments_are run key in
      ap (position_or_len p) (traces_then run key event) ∙ none_yet p (traces run key) last (none ∙ sym long) e ∙ ap (λ (n : ℕ). n + 1) long

one_more : (run : RunState) (event : Event) → length (with_event run event).events ≡ length run.events + 1
one_more run event = length-append run.events (event ∷ [])

-- ---- completions
module _ (key : List ℕ) (t : Trace) (kept : IsKept key t) (s : ℕ) (some : 1 ≤ s) where
  abbrev V : ℕ → List ℕ
  V = family t.world.views

  abbrev is_done : Update → Bool
  is_done u = eqb u.stamp s && is_complete V (project key t) u.stamp

  -- what is complete is so by an update
  pub completed : Complete V (project key t) s → is_completed key s t ≡ true
  completed c = ⊎_elim
      (λ (none : s ≡ 0). absurd (omega (arith, none, some)))
      (λ (u : (u : Update) × In t.begun u × (u.stamp ≡ s)). in_any is_done t.begun u.0 u.1
      (and_from (eqb u.0.stamp s) _ (eq-eqb u.0.stamp s u.2) (is_complete_from V (project key t) u.0.stamp (subst (Complete V (project key t)) (sym u.2) c))))
      (the_update V (project key t) (kept.parts V (own_agrees t.world kept.own)) s c)

pub complete_of : (key : List ℕ) (t : Trace) (s : ℕ) → is_completed key s t ≡ true → (u : Update) × In t.begun u × (u.stamp ≡ s) × Complete (family t.world.views) (project key t) s
complete_of key t s e =
    let u = any_in (λ (u : Update). eqb u.stamp s && is_complete (family t.world.views) (project key t) u.stamp) t.begun e in
    let parts = and_parts (eqb u.0.stamp s) (is_complete (family t.world.views) (project key t) u.0.stamp) u.2 in
    let at = eqb-true u.0.stamp s parts.0 in
    (u.0, u.1, at, subst (Complete (family t.world.views) (project key t)) at (complete_is (family t.world.views) (project key t) u.0.stamp parts.1))

since_next : (run : RunState) (key : List ℕ) (event : Event) → IsKept key (trace_of key (with_event run event)) → (s : ℕ) → 1 ≤ s → (old new : Evidence) → IsSince run key s old →
    IsSinceThen (length run.events + 1) old new → IsKnown (family (trace_of key (with_event run event)).world.views) (project key (trace_of key (with_event run event))) s new →
    IsSince (with_event run event) key s new
since_next run key event kept s some (Evidence.Complete at) new was same known = subst (IsSince (with_event run event) key s) (sym same) (
  place_stays run key event (is_completed key s) (subst (λ (n : ℕ). n ≤ length run.events) (sym was.0) was.1) ∙ was.0,
  let long = one_more run event in let within = was.1 in omega (arith, long, within),
)
since_next run key event kept s some (Covers groups) (Evidence.Complete at) was is known = (
  place_last run key event (is_completed key s) was (completed key (trace_of key (with_event run event)) kept s some known) ∙ sym is,
  let long = one_more run event in omega (arith, long, is),
)
since_next run key event kept s some (Covers groups) (Covers more) was is known =
    place_none run key event (is_completed key s) was
    (false_from_ne_true (is_completed key s (trace_of key (with_event run event))) (λ e. known.0 (complete_of key (trace_of key (with_event run event)) s e).3))
    ∙ ap (λ (n : ℕ). n + 1) (sym (one_more run event))

-- ---- replies
module _ (key : List ℕ) (p : Trace → Bool) (stays : (t : Trace) (event : Event) → p t ≡ true → p (trace_with key t event (world_step t.world event)) ≡ true) where
  stays_to : (t : Trace) (events : List Event) → p t ≡ true → p (trace_from key t events) ≡ true
  stays_to t [] e = e
  stays_to t (x ∷ xs) e = stays_to (trace_with key t x (world_step t.world x)) xs (stays t x e)

  -- what does not hold in the end held at no moment
  never : (t : Trace) (events : List Event) → p (trace_from key t events) ≡ false → position_or_len p (t ∷ traces_after key t events) ≡ length (t ∷ traces_after key t events)
  never t [] none = rw none refl
  never t (x ∷ xs) none =
      let not_yet : p t ≡ false = false_from_ne_true (p t) (λ e. false≢true (sym none ∙ stays_to t (x ∷ xs) e)) in
      let later = never (trace_with key t x (world_step t.world x)) xs none in
      rw not_yet (omega (arith, later))

-- the history grows at its front
traced_history : (key : List ℕ) (t : Trace) (event : Event) (a : Accepted) (acting : Option NodeId) → (said : List Item) × ((traced_by key t event a acting).history ≡ said ++ t.history)
traced_history key t event a None = ([], refl)
traced_history key t event a (Some id) = (
  items_of key event (t.world.calls + 1) (key_node key (node_at id.0 t.world.processes)) (key_node key (node_at id.0 a.world.processes)) (told_at key a.told),
  refl,
)

abbrev has_reply : ℕ → Trace → Bool
has_reply c t = list_any (is_reply c) (history_of t)

reply_stays : (key : List ℕ) (c : ℕ) (t : Trace) (event : Event) → has_reply c t ≡ true → has_reply c (trace_with key t event (world_step t.world event)) ≡ true
reply_stays key c t event e = by_result (world_step t.world event)
  where
    by_result : (r : Result Accepted Refused) → has_reply c (trace_with key t event r) ≡ true
    by_result (Err refused) = e
    by_result (Ok a) =
        let longer = traced_history key t event a (acting_of a) in
        let line = any_in (is_reply c) (events_of t.history) e in
        subst (λ (items : List Item). list_any (is_reply c) (events_of items) ≡ true) (sym longer.1)
        (subst (λ (lines : List _). list_any (is_reply c) lines ≡ true) (sym (events_append longer.0 t.history))
        (in_any (is_reply c) (events_of t.history ++ events_of longer.0) line.0 (in_left (events_of t.history) (events_of longer.0) line.0 line.1) line.2))

unreplied : (run : RunState) (key : List ℕ) (c : ℕ) → has_reply c (trace_of key run) ≡ false → replied_at run key c ≡ length run.events + 1
unreplied run key c none = never key (has_reply c) (reply_stays key c) (start_trace run.header) run.events none ∙ moments_are run key

module _ (run : RunState) (key : List ℕ) (event : Event) (a : Accepted) (e : world_step (world_of run) event ≡ Ok a)
    (kept : IsKept key (trace_of key (with_event run event))) (old new : KeyState) (was : IsKeyOf key old (trace_of key run))
    (is : IsKeyOf key new (trace_of key (with_event run event))) (goes : GoesAt (length run.events + 1) old new) (had : HasEvents run key old) where
  abbrev t : Trace
  t = trace_of key run

  abbrev now : Trace
  now = trace_of key (with_event run event)

  longer : (said : List Item) × (now.history ≡ said ++ t.history)
  longer = let next = traced_history key t event a (acting_of a) in (next.0, ap (λ (z : Trace). z.history) (trace_then key run event a e) ∙ next.1)

  -- the read-only calls more are those that the event says
  looks_said : (s : ℕ) → calls_in (goes.looked s).more ≡ looks_at s longer.0
  looks_said s =
      let added = goes.looked s in
      append_cancel_left (calls_in (at_stamp s old).read_only) (calls_in added.more) (looks_at s longer.0)
      (sym (map-append (λ (l : ReadOnlyCall). l.call) (at_stamp s old).read_only added.more) ∙ ap calls_in (sym added.same) ∙ is.read_only s ∙ ap (looks_at s) longer.1
      ∙ looks_append s longer.0 t.history ∙ ap (λ (l : List CallNo). l ++ looks_at s longer.0) (sym (was.read_only s)))

  look_now : (s : ℕ) (l : ReadOnlyCall) → In (goes.looked s).more l → IsRepliedAt (with_event run event) key l
  look_now s l h =
      let there : In (looks_at s longer.0) l.call = subst (λ (cs : List CallNo). In cs l.call) (looks_said s) (in_map (λ (l : ReadOnlyCall). l.call) (goes.looked s).more l h) in
      let by = looked_is s longer.0 l.call there in
      let one : OneReply (longer.0 ++ t.history) = subst OneReply longer.1 kept.calls.replies in
      let none : has_reply l.call.0 t ≡ false = false_from_ne_true (has_reply l.call.0 t) (λ e.
      let before = replied_is t.history l.call.0 e in
      not_twice longer.0 t.history one by.item before.item by.there before.there by.reply before.reply (before.call ∙ sym by.call)) in
      let item : In now.history by.item = subst (λ (items : List Item). In items by.item) (sym longer.1) (in_left longer.0 t.history by.item by.there) in
      let here : has_reply l.call.0 now ≡ true = subst (λ (c : ℕ). has_reply c now ≡ true) by.call (replied_by now.history by.item item by.reply) in
      let at = (goes.looked s).here l h in
      let long = one_more run event in (
        place_last run key event (has_reply l.call.0) (unreplied run key l.call.0 none) here ∙ sym at,
        omega (arith, at, long),
      )

  look_before : (l : ReadOnlyCall) → IsRepliedAt run key l → IsRepliedAt (with_event run event) key l
  look_before l (at, within) = (
    place_stays run key event (has_reply l.call.0) (subst (λ (n : ℕ). n ≤ length run.events) (sym at) within) ∙ at,
    let long = one_more run event in omega (arith, within, long),
  )

  pub events_next : HasEvents (with_event run event) key new
  events_next = record {
    since = λ s some. since_next run key event kept s some (at_stamp s old).evidence (at_stamp s new).evidence (had.since s some) (goes.since s) (is.known s some);
    replied = λ s l h.
        let added = goes.looked s in
        ⊎_elim (λ (k : In (at_stamp s old).read_only l). look_before l (had.replied s l k)) (look_now s l)
        (in_either (at_stamp s old).read_only added.more l (subst (λ (ls : List ReadOnlyCall). In ls l) added.same h));
  }

-- ---- no events
abbrev pub no_events : Header → RunState
no_events h = record { header = h; events = [] }

pub events_start : (h : Header) (key : List ℕ) → HasEvents (no_events h) key first_key
events_start h key = record { since = λ s some. refl; replied = λ s l none. absurd none }
