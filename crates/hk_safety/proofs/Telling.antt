-- Each call that an event answers is a call on its key.
use Rattle.std.proofs.Common.{◌≡◌, ◌⊎◌, ℕ, suc, Bool, true, false, cond, ◌+◌, List, [], ◌∷◌, ◌++◌, length, ◌∙◌, sym, refl, ap, subst, inl, inr, ⊎_elim, arith, Option, Some, None, Ok, eqb, append-nil, length-append}
use Rattle.hk_base.specs.declared.stamp.NodeId.{NodeId}
use Rattle.hk_base.specs.declared.call.CallNo.{CallNo}
use Rattle.hk_base.specs.declared.call.Op.{Op}
use Rattle.hk_base.specs.declared.call.Reply.{Reply}
use Rattle.hk_register.specs.Machine.{In, Node, Update, Item}
use Rattle.hk_register.specs.Machine.Item.{Called}
use Rattle.hk_register.proofs.Grow.{in_left, in_either}
use Rattle.hk_node.specs.declared.event.NodeEvent.TheVariants as NodeEvent
use Rattle.hk_node.specs.Node.{NodeState}
use Rattle.hk_node.specs.Steps.{node_step}
use Rattle.hk_node.specs.Stepped.{Stepped}
use Rattle.hk_node.specs.Calls.{called}
use Rattle.hk_node.specs.Laws.{IsAnsweredAlone, HasBegun}
use Rattle.hk_node.proofs.Waits.{calls_are_taken}
use Rattle.hk_event.specs.declared.event.Event.{Event}
use Rattle.hk_event.specs.declared.event.Event.TheVariants.{Call}
use Rattle.hk_world.specs.World.{WorldState, node_of, numbered}
use Rattle.hk_world.specs.Steps.{Accepted, acting_of, world_step}
use Rattle.hk_world.specs.Sound.{IsEvent}
use Rattle.hk_effects.specs.Projection.{Trace, project, key_node, node_at, is_same_key, told_at, pending_stamp, reply_item, call_items, items_of, updates_of, added, traced, traced_by}
use Rattle.hk_effects.specs.Own.{IsOwn}
use Rattle.hk_effects.specs.Runs.{IsKept, RunsKeepParts, start_trace}
use Rattle.hk_effects.proofs.Order.{same_true, same_itself}
use Rattle.hk_effects.proofs.Replies.{looks_begin_none, replies_begin_none}
use Rattle.hk_effects.proofs.Rests.{node_holds}
use Rattle.hk_effects.proofs.TwoEffects.{append_three}
use Rattle.hk_effects.proofs.Worlds.{the_some}
use Rattle.hk_effects.proofs.WorldKept.{calls_after}
use Rattle.hk_safety.specs.Run.{RunState, world_of, AreAccepted, IsRun, trace_with, trace_from, trace_of}
use Rattle.hk_safety.specs.Kept.{KeptState, IsKeptOf, called_from}
use Rattle.hk_safety.specs.Noted.{MayMake}
use Rattle.hk_safety.specs.Push.{with_event}
use Rattle.hk_safety.proofs.Acting.{next_call, IsNoCall, IsMadeBy, is_made_by}
use Rattle.hk_safety.proofs.Named.{called_append, called_named, found_of, numbered_append, numbered_last}
use Rattle.hk_safety.proofs.Traces.{world_is, trace_of_world, trace_then, run_kept, run_then}
use Rattle.hk_safety.proofs.Unnamed.{replies_said, replies_begin, replied_update, in_map}

-- ---- the call of each update that was begun is one of the calls on the key
pub record IsCounted (key : List ℕ) (t : Trace) (calls : List (List ℕ)) : Type 0 where
  pub count : t.world.calls ≡ length calls
  pub begun : (u : Update) → In t.begun u → numbered u.call calls ≡ Some key

-- the number of the next call
pub next_numbered : (n : ℕ) (calls : List (List ℕ)) (key : List ℕ) → n ≡ length calls → numbered (n + 1) (calls ++ key ∷ []) ≡ Some key
next_numbered n calls key is = let next : n + 1 ≡ suc (length calls) = omega (arith, is) in
    subst (λ (m : ℕ). numbered m (calls ++ key ∷ []) ≡ Some key) (sym next) (numbered_last calls key)

count_then : (event : Event) (calls : List (List ℕ)) (n m : ℕ) → n ≡ length calls → m ≡ calls_after event n → m ≡ length (calls ++ called_from (event ∷ []))
count_then (Call id key op) calls n m is next = next ∙ (ap (λ (k : ℕ). k + 1) is ∙ sym (length-append calls (key ∷ [])))
count_then event calls n m is next = next ∙ (is ∙ ap (λ (l : List (List ℕ)). length l) (sym (append-nil calls)))

-- an update that an event begins is of the call that it makes
called_update : (id : ℕ) (was x : Node) (b : Bool) (call : ℕ) (op : Op) (rs : List Reply) (u : Update) →
    In (updates_of id was (call_items b call op was x rs)) u → u.call ≡ call
called_update id was x true call op rs u h = let none : In [] u = rw (looks_begin_none id was call op was rs) at h in absurd none
called_update id was x false call op rs u h =
    let one : In (updates_of id was (Called call x.stamp op ∷ [])) u = rw (replies_begin_none id was x.stamp rs (Called call x.stamp op ∷ [])) at h in
    begun one
  where
    begun : In (updates_of id was (Called call x.stamp op ∷ [])) u → u.call ≡ call
    begun (inl e) = ap (λ (v : Update). v.call) e
    begun (inr none) = absurd none

new_update : (key : List ℕ) (id : ℕ) (was x : Node) (n : ℕ) (rs : List Reply) (calls : List (List ℕ)) (event : Event) → n ≡ length calls →
    (u : Update) → In (updates_of id was (items_of key event (n + 1) was x rs)) u → numbered u.call (calls ++ called_from (event ∷ [])) ≡ Some key
new_update key id was x n rs calls (Call node k op) is u h = by_key (is_same_key key k) refl h
  where
    by_key : (b : Bool) → is_same_key key k ≡ b → In (updates_of id was (cond b (call_items (eqb x.stamp was.stamp) (n + 1) op was x rs) [])) u →
        numbered u.call (calls ++ k ∷ []) ≡ Some key
    by_key false e h = absurd h
    by_key true e h =
        let same : key ≡ k = same_true key k e in
        let call : u.call ≡ n + 1 = called_update id was x (eqb x.stamp was.stamp) (n + 1) op rs u h in
        subst (λ (m : ℕ). numbered m (calls ++ k ∷ []) ≡ Some key) (sym call)
        (subst (λ (j : List ℕ). numbered (n + 1) (calls ++ k ∷ []) ≡ Some j) (sym same) (next_numbered n calls k is))
new_update key id was x n rs calls event is u h = let none : In [] u = rw (replies_begin id was (pending_stamp was.phase) rs) at h in absurd none

counted_calls : (w : WorldState) (event : Event) (a : Accepted) → world_step w event ≡ Ok a → a.world.calls ≡ calls_after event w.calls
counted_calls w event a e = by_way (is_made_by w a event e)
  where
    by_way : IsMadeBy w event a → a.world.calls ≡ calls_after event w.calls
    by_way (inl s) = ap (λ (b : Accepted). b.world.calls) s.1.is
    by_way (inr b) = b.calls

pub counted_then : (key : List ℕ) (t : Trace) (event : Event) (a : Accepted) (calls : List (List ℕ)) → world_step t.world event ≡ Ok a → IsCounted key t calls →
    IsCounted key (traced key t event a) (calls ++ called_from (event ∷ []))
counted_then key t event a calls e k = record {
  count = ap (λ (w : WorldState). w.calls) (world_is key t event a (acting_of a)) ∙
      count_then event calls t.world.calls a.world.calls k.count (counted_calls t.world event a e);
  begun = by_acting (acting_of a);
}
  where
    old : (u : Update) → In t.begun u → numbered u.call (calls ++ called_from (event ∷ [])) ≡ Some key
    old u h = numbered_append u.call calls (called_from (event ∷ [])) key (k.begun u h)

    by_acting : (acting : Option NodeId) → (u : Update) → In (traced_by key t event a acting).begun u →
        numbered u.call (calls ++ called_from (event ∷ [])) ≡ Some key
    by_acting None u h = old u h
    by_acting (Some id) u h =
        let was = key_node key (node_at id.0 t.world.processes) in
        let x = key_node key (node_at id.0 a.world.processes) in
        ⊎_elim
        (λ (n : In (updates_of id.0 was (items_of key event (t.world.calls + 1) was x (told_at key a.told))) u). new_update key id.0 was x t.world.calls
        (told_at key a.told) calls event k.count u n)
        (old u) (in_either (updates_of id.0 was (items_of key event (t.world.calls + 1) was x (told_at key a.told))) t.begun u h)

counted_from : (key : List ℕ) (events : List Event) (calls : List (List ℕ)) (t : Trace) → IsCounted key t calls → AreAccepted t.world events →
    IsCounted key (trace_from key t events) (calls ++ called_from events)
counted_from key [] calls t k h = subst (λ (l : List (List ℕ)). IsCounted key t l) (sym (append-nil calls)) k
counted_from key (x ∷ xs) calls t k h =
    let a : Accepted = h.1 in
    let next : IsCounted key (traced key t x a) (calls ++ called_from (x ∷ [])) = counted_then key t x a calls h.2 k in
    let rest : AreAccepted (traced key t x a).world xs = subst (λ (w : WorldState). AreAccepted w xs) (sym (world_is key t x a (acting_of a))) h.3 in
    let all = counted_from key xs (calls ++ called_from (x ∷ [])) (traced key t x a) next rest in
    let list : (calls ++ called_from (x ∷ [])) ++ called_from xs ≡ calls ++ called_from (x ∷ xs) =
    append_three calls (called_from (x ∷ [])) (called_from xs) ∙ ap (λ (l : List (List ℕ)). calls ++ l) (sym (called_append (x ∷ []) xs)) in
    let is : trace_with key t x (world_step t.world x) ≡ traced key t x a = ap (trace_with key t x) h.2 in
    subst (λ (z : Trace). IsCounted key (trace_from key z xs) (calls ++ called_from (x ∷ xs))) (sym is)
    (subst (λ (l : List (List ℕ)). IsCounted key (trace_from key (traced key t x a) xs) l) list all)

pub run_counted : (key : List ℕ) (run : RunState) → IsRun run → IsCounted key (trace_of key run) (called_from run.events)
run_counted key run ok = counted_from key run.events [] (start_trace run.header) (record { count = refl; begun = λ u h. absurd h }) ok.accepted

-- ---- what an event tells
in_told : (key : List ℕ) (r : Reply) (told : List (List ℕ × Reply)) → In told (key, r) → In (told_at key told) r
in_told key r [] h = absurd h
in_told key r (t ∷ told) h = by_test (is_same_key key t.0) refl h (in_told key r told)
  where
    by_test : (b : Bool) → is_same_key key t.0 ≡ b → In (t ∷ told) (key, r) → (In told (key, r) → In (told_at key told) r) →
        In (cond b (t.1 ∷ told_at key told) (told_at key told)) r
    by_test true e (inl is) more = inl (ap (λ (p : List ℕ × Reply). p.1) is)
    by_test true e (inr h) more = inr (more h)
    by_test false e (inl is) more = absurd (clash (sym e ∙ subst (λ (p : List ℕ × Reply). is_same_key key p.0 ≡ true) is (same_itself key)))
      where
        clash : false ≡ true → ⊥
        clash e = cc
    by_test false e (inr h) more = more h

module _ (key : List ℕ) (t : Trace) (event : Event) (a : Accepted) (calls : List (List ℕ)) (r : Reply) (e : world_step t.world event ≡ Ok a)
    (told : In a.told (key, r)) where
  -- an event other than a call answers calls that began updates
  replied_before : IsNoCall event → IsKept key (traced key t event a) → IsCounted key (traced key t event a) (calls ++ called_from (event ∷ [])) →
      numbered r.call.0 (calls ++ called_from (event ∷ [])) ≡ Some key
  replied_before no_call kept now = by_way (is_made_by t.world a event e)
    where
      at_node : (id : NodeId) → acting_of a ≡ Some id → numbered r.call.0 (calls ++ called_from (event ∷ [])) ≡ Some key
      at_node id acts =
          let was : Node = key_node key (node_at id.0 t.world.processes) in
          let x : Node = key_node key (node_at id.0 a.world.processes) in
          let s : ℕ = pending_stamp was.phase in
          let items : List Item = items_of key event (t.world.calls + 1) was x (told_at key a.told) in
          let said : In items (reply_item s r) = subst (λ (is : List Item). In is (reply_item s r))
          (sym (replies_said key event (t.world.calls + 1) was x (told_at key a.told) no_call))
          (in_map (reply_item s) (told_at key a.told) r (in_told key r a.told told)) in
          let is_added : traced key t event a ≡ added key t event a id.0 was x = ap (traced_by key t event a) acts in
          let stands : In (project key (traced key t event a)).history (reply_item s r) =
          subst (λ (z : Trace). In z.history (reply_item s r)) (sym is_added) (in_left items t.history (reply_item s r) said) in
          let u = replied_update (project key (traced key t event a)) s r (kept.calls.items (reply_item s r) stands) in
          subst (λ (n : ℕ). numbered n (calls ++ called_from (event ∷ [])) ≡ Some key) u.2 (now.begun u.0 u.1)

      by_way : IsMadeBy t.world event a → numbered r.call.0 (calls ++ called_from (event ∷ [])) ≡ Some key
      by_way (inl s) = at_node s.0 (ap acting_of s.1.is)
      by_way (inr b) = let none : In {X = List ℕ × Reply} [] (key, r) = rw b.told at told in absurd none

-- a call is answered alone
replied_call : (key : List ℕ) (w : WorldState) (own : IsOwn w) (id : NodeId) (k : List ℕ) (op : Op) (a : Accepted) (calls : List (List ℕ)) (r : Reply) →
    world_step w (Call id k op) ≡ Ok a → w.calls ≡ length calls →
    In a.told (key, r) → numbered r.call.0 (calls ++ k ∷ []) ≡ Some key
replied_call key w own id k op a calls r e count told = by_made (is_made_by w a (Call id k op) e)
  where
    number : CallNo
    number = record { 0 = w.calls + 1 }

    by_way : (s : Stepped) → In s.told (key, r) → IsAnsweredAlone k (record { 0 = w.calls + 1 }) s ⊎ HasBegun s k (record { 0 = w.calls + 1 }) →
        numbered r.call.0 (calls ++ k ∷ []) ≡ Some key
    by_way s told (inl alone) = one (rw alone.1 at told)
      where
        one : In {X = List ℕ × Reply} ((k, record { call = record { 0 = w.calls + 1 }; answer = alone.0 }) ∷ []) (key, r) →
            numbered r.call.0 (calls ++ k ∷ []) ≡ Some key
        one (inl is) =
            let key_is : key ≡ k = ap (λ (p : List ℕ × Reply). p.0) is in
            let call_is : r.call.0 ≡ w.calls + 1 = ap (λ (p : List ℕ × Reply). p.1.call.0) is in
            subst (λ (n : ℕ). numbered n (calls ++ k ∷ []) ≡ Some key) (sym call_is)
            (subst (λ (j : List ℕ). numbered (w.calls + 1) (calls ++ k ∷ []) ≡ Some j) (sym key_is) (next_numbered w.calls calls k count))
        one (inr none) = absurd none
    by_way s told (inr begun) = let none : In {X = List ℕ × Reply} [] (key, r) = rw begun.silent at told in absurd none

    by_made : IsMadeBy w (Call id k op) a → numbered r.call.0 (calls ++ k ∷ []) ≡ Some key
    by_made (inl s) =
        let x : NodeState = s.1.x in
        let ev : NodeEvent.Call (next_call w) k op ≡ s.1.how.0 = the_some _ _ s.1.how.1 in
        let mine : In (called x (record { 0 = w.calls + 1 }) k op).told (key, r) =
        subst (λ (o : Stepped). In o.told (key, r)) (s.1.how.2 ∙ ap (node_step x) (sym ev)) (subst (λ (b : Accepted). In b.told (key, r)) s.1.is told) in
        by_way (called x (record { 0 = w.calls + 1 }) k op) mine
        (calls_are_taken x (record { 0 = w.calls + 1 }) k op (node_holds w own.sound s.0.0 x (ap node_of s.1.at)).1)
    by_made (inr b) = let none : In {X = List ℕ × Reply} [] (key, r) = rw b.told at told in absurd none

-- ---- what must be known before an event is made
pub told_numbered : RunsKeepParts → (run : RunState) → IsRun run → (event : Event) → IsEvent event → (a : Accepted) → world_step (world_of run) event ≡ Ok a →
    (key : List ℕ) (r : Reply) → In a.told (key, r) →
    numbered r.call.0 (called_from run.events ++ called_from (event ∷ [])) ≡ Some key
told_numbered runs run ok event event_ok a e key r told = by_event event event_ok e
  where
    at_trace : (event : Event) → world_step (world_of run) event ≡ Ok a → world_step (trace_of key run).world event ≡ Ok a
    at_trace event e = ap (λ (w : WorldState). world_step w event) (trace_of_world key run) ∙ e

    other_event : (event : Event) → IsNoCall event → IsEvent event → world_step (world_of run) event ≡ Ok a →
        numbered r.call.0 (called_from run.events ++ called_from (event ∷ [])) ≡ Some key
    other_event event no_call event_ok e =
        let kept : IsKept key (traced key (trace_of key run) event a) =
        subst (IsKept key) (trace_then key run event a e) (run_kept runs key (with_event run event) (run_then run event a ok event_ok e)) in
        replied_before key (trace_of key run) event a (called_from run.events) r (at_trace event e) told no_call kept
        (counted_then key (trace_of key run) event a (called_from run.events) (at_trace event e) (run_counted key run ok))

    by_event : (event : Event) → IsEvent event → world_step (world_of run) event ≡ Ok a →
        numbered r.call.0 (called_from run.events ++ called_from (event ∷ [])) ≡ Some key
    by_event (Call id k op) event_ok e = replied_call key (trace_of key run).world (run_kept runs key run ok).own id k op a (called_from run.events) r
        (at_trace (Call id k op) e) (run_counted key run ok).count told
    by_event event event_ok e = other_event event tt event_ok e

pub may_make : RunsKeepParts → (k : KeptState) (run : RunState) (event : Event) → IsKeptOf k run → IsRun run → IsEvent event → MayMake k event
may_make runs k run event kept ok event_ok = record {
  event = event_ok;
  own = subst IsOwn (trace_of_world [] run ∙ sym kept.world) (run_kept runs [] run ok).own;
  told = λ a e key r told.
      subst (λ (l : List (List ℕ)). numbered r.call.0 (l ++ called_from (event ∷ [])) ≡ Some key) (sym kept.calls)
      (told_numbered runs run ok event event_ok a (subst (λ (w : WorldState). world_step w event ≡ Ok a) kept.world e) key r told);
  kept = λ key h. found_of k.keys key (subst (λ (l : List (List ℕ)). In l key) (sym kept.keys)
      (called_named run.events [] key (subst (λ (l : List (List ℕ)). In l key) kept.calls h)));
}
