-- The history of a key is what the events show of it.
use Rattle.std.proofs.Common.{◌≡◌, ◌≢◌, ℕ, ◌+◌, List, [], ◌∷◌, ◌++◌, map, append-nil, append_assoc, Bool, true, false, cond, Option, Some, Result, Ok, refl, sym, ap, subst, ◌∙◌, inl, inr, ⊎_elim, eqb}
use Rattle.std.proofs.lemmas.Bool.{eqb-true}
use Rattle.hk_base.specs.declared.stamp.NodeId.{NodeId}
use Rattle.hk_base.specs.declared.call.CallNo.{CallNo}
use Rattle.hk_base.specs.declared.call.Op.{Op}
use Rattle.hk_base.specs.declared.call.Reply.{Reply}
use Rattle.hk_history.specs.declared.event.Event.{Event as HistoryEvent}
use Rattle.hk_history.specs.declared.event.Event.TheVariants as HistoryEvent
use Rattle.hk_history.specs.History.{is_void}
use Rattle.hk_register.specs.Machine.{In, Node, Item}
use Rattle.hk_register.specs.Machine.Item.{Called, ReadOnly, Rejected}
use Rattle.hk_register.specs.Printed.{item_events, events_of}
use Rattle.hk_node.specs.Node.{NodeState}
use Rattle.hk_node.specs.Sound.{IsNode}
use Rattle.hk_node.specs.declared.event.NodeEvent.TheVariants as NodeEvent
use Rattle.hk_node.specs.Steps.{node_step}
use Rattle.hk_node.specs.Stepped.{Stepped}
use Rattle.hk_node.specs.Calls.{called}
use Rattle.hk_event.specs.declared.event.Event.{Event}
use Rattle.hk_event.specs.declared.event.Event.TheVariants.{Call}
use Rattle.hk_event.specs.declared.refused.Refused.{Refused}
use Rattle.hk_world.specs.World.{WorldState, numbered}
use Rattle.hk_world.specs.Steps.{Accepted, world_step}
use Rattle.hk_world.specs.Sound.{IsEvent}
use Rattle.hk_effects.specs.Projection.{Trace, project, key_node, node_at, told_at, pending_stamp, reply_item, read_only_item, call_items, items_of, traced, traced_by}
use Rattle.hk_effects.specs.Orders.{history_of}
use Rattle.hk_effects.specs.Runs.{IsKept, RunsKeepParts}
use Rattle.hk_effects.proofs.Order.{cases_key, same_not, same_of}
use Rattle.hk_effects.proofs.Rests.{node_holds}
use Rattle.hk_effects.proofs.Worlds.{the_some}
use Rattle.hk_safety.specs.Run.{RunState, world_of, world_with, AreAccepted, IsRun, trace_of, history}
use Rattle.hk_safety.specs.Kept.{called_from}
use Rattle.hk_safety.specs.Push.{with_event}
use Rattle.hk_safety.specs.Shows.{call_line, reply_line, lines_at, event_lines, lines_with, lines_from, shown_lines, HistoriesAreHistories}
use Rattle.hk_safety.proofs.Acting.{next_call, call_in, IsNoCall, IsStepOf, IsStep, IsBeside, IsMadeBy, is_made_by, IsLone, told_lone}
use Rattle.hk_safety.proofs.Following.{events_append}
use Rattle.hk_safety.proofs.Histories.{is_history}
use Rattle.hk_safety.proofs.Making.{found, found_now, acting_is, told_is, replies_are, call_at_most, call_elsewhere}
use Rattle.hk_safety.proofs.Named.{called_append}
use Rattle.hk_safety.proofs.Noting.{said_behind, lines_told, IsToldOf}
use Rattle.hk_safety.proofs.Telling.{told_numbered}
use Rattle.hk_safety.proofs.Traces.{world_then, step_at, trace_then, run_kept, run_then}

-- ---- the items of one event
looked : (was : Node) (call : CallNo) (op : Op) (r : Reply) → r.call ≡ call →
    events_of (read_only_item call.0 op was r ∷ []) ≡ HistoryEvent.Call call op ∷ map reply_line (r ∷ [])
looked was call op r own = by_void (is_void (Some r.answer)) ∙ ap (λ (c : CallNo). HistoryEvent.Call call op ∷ HistoryEvent.Reply c r.answer ∷ []) (sym own)
  where
    by_void : (b : Bool) → item_events (cond b (Rejected call.0 op r.answer) (ReadOnly call.0 was.stamp op was.content r.answer)) ≡ HistoryEvent.Call call op ∷ HistoryEvent.Reply call r.answer ∷ []
    by_void true = refl
    by_void false = refl

call_events : (was now : Node) (call : CallNo) (op : Op) (rs : List Reply) → IsToldOf rs call was now →
    events_of (call_items (eqb now.stamp was.stamp) call.0 op was now rs) ≡ HistoryEvent.Call call op ∷ map reply_line rs
call_events was now call op rs told = by_same (eqb now.stamp was.stamp) refl told
  where
    lone : IsToldOf rs call was now → IsLone rs
    lone (inl t) = subst IsLone (sym t.1) tt
    lone (inr q) = subst IsLone (sym q.0) tt

    by_same : (b : Bool) → eqb now.stamp was.stamp ≡ b → IsToldOf rs call was now →
        events_of (call_items b call.0 op was now rs) ≡ HistoryEvent.Call call op ∷ map reply_line rs
    by_same true e (inl t) = subst (λ (l : List Reply). events_of (call_items true call.0 op was now l) ≡ HistoryEvent.Call call op ∷ map reply_line l) (sym t.1)
        (looked was call op t.0 t.2)
    by_same true e (inr q) = absurd (q.1 (eqb-true now.stamp was.stamp e))
    by_same false e told = said_behind now.stamp rs (Called call.0 now.stamp op ∷ []) (lone told)

reply_events : (s : ℕ) (rs : List Reply) → IsLone rs → events_of (map (reply_item s) rs) ≡ map reply_line rs
reply_events s rs lone = ap events_of (sym (append-nil (map (reply_item s) rs))) ∙ said_behind s rs [] lone

module _ (key : List ℕ) (t : Trace) (event : Event) (within : IsEvent event) (a : Accepted) (e : world_step t.world event ≡ Ok a) (kept : IsKept key t)
    (calls : List (List ℕ)) (numbers : (k : List ℕ) (r : Reply) → In a.told (k, r) → numbered r.call.0 calls ≡ Some k) where
  module _ (id : NodeId) (st : IsStep t.world event a id) where
    ok : IsNode st.x
    ok = (node_holds t.world kept.own.sound id.0 st.x (found t.world event a id st)).1

    -- what an event of which the node made this says of the key
    abbrev SaidLines : Event → Stepped → Type 0
    SaidLines event o =
        events_of (items_of key event (t.world.calls + 1) (key_node key (Some st.x)) (key_node key (Some o.node)) (told_at key o.told)) ≡
        call_line key event (call_in (next_call t.world) event) ++ map reply_line (told_at key o.told)

    abbrev SaidOf : List ℕ → NodeId → List ℕ → Op → Type 0
    SaidOf j i k op =
        events_of (items_of j (Call i k op) (t.world.calls + 1) (key_node j (Some st.x)) (key_node j (Some (called st.x (next_call t.world) k op).node))
        (told_at j (called st.x (next_call t.world) k op).told)) ≡
        call_line j (Call i k op) (Some (next_call t.world)) ++ map reply_line (told_at j (called st.x (next_call t.world) k op).told)

    here_lines : (i : NodeId) (k : List ℕ) (op : Op) → SaidOf k i k op
    here_lines i k op =
        let was : Node = key_node k (Some st.x) in
        let now : Node = key_node k (Some (called st.x (next_call t.world) k op).node) in
        let rs : List Reply = told_at k (called st.x (next_call t.world) k op).told in
        ap (λ (b : Bool). events_of (cond b (call_items (eqb now.stamp was.stamp) (t.world.calls + 1) op was now rs) [])) (same_of k k refl)
        ∙ call_events was now (next_call t.world) op rs (call_at_most t.world id.0 st.x k op kept.own (found t.world event a id st) ok)
        ∙ ap (λ (b : Bool). cond b (HistoryEvent.Call (next_call t.world) op ∷ []) [] ++ map reply_line rs) (sym (same_of k k refl))

    own_lines : (i : NodeId) (k : List ℕ) (op : Op) → key ≡ k → SaidLines (Call i k op) (called st.x (next_call t.world) k op)
    own_lines i k op same = subst (λ (j : List ℕ). SaidOf j i k op) (sym same) (here_lines i k op)

    other_lines : (i : NodeId) (k : List ℕ) (op : Op) → key ≢ k → SaidLines (Call i k op) (called st.x (next_call t.world) k op)
    other_lines i k op ne =
        let was : Node = key_node key (Some st.x) in
        let now : Node = key_node key (Some (called st.x (next_call t.world) k op).node) in
        let rs : List Reply = told_at key (called st.x (next_call t.world) k op).told in
        ap (λ (b : Bool). events_of (cond b (call_items (eqb now.stamp was.stamp) (t.world.calls + 1) op was now rs) [])) (same_not key k ne)
        ∙ ap (map reply_line) (sym (call_elsewhere t.world id.0 st.x key k op kept.own (found t.world event a id st) ok ne))
        ∙ ap (λ (b : Bool). cond b (HistoryEvent.Call (next_call t.world) op ∷ []) [] ++ map reply_line rs) (sym (same_not key k ne))

    said_lines : (d : Event) → IsEvent d → IsStepOf t.world st.x st.o d → SaidLines d st.o
    said_lines (Call i k op) within how =
        let same : NodeEvent.Call (next_call t.world) k op ≡ how.0 = the_some _ _ how.1 in
        subst (λ (o : Stepped). SaidLines (Call i k op) o) (ap (node_step st.x) same ∙ sym how.2)
        (⊎_elim (λ (e : key ≡ k). own_lines i k op e) (λ (ne : key ≢ k). other_lines i k op ne) (cases_key key k))
    said_lines d within how = reply_events (pending_stamp (key_node key (Some st.x)).phase) (told_at key st.o.told)
        (told_lone t.world kept.own st.x ok st.o d within how key)

    acted_lines : history_of (traced key t event a) ≡ history_of t ++ event_lines key calls event a.shown
    acted_lines =
        let was : Node = key_node key (node_at id.0 t.world.processes) in
        let now : Node = key_node key (node_at id.0 a.world.processes) in
        let told = st.o.told in
        let told_same : a.told ≡ st.o.told = told_is t.world event a id st in
        let said : List Item = items_of key event (t.world.calls + 1) was now (told_at key a.told) in
        let items : said ≡ items_of key event (t.world.calls + 1) (key_node key (Some st.x)) (key_node key (Some st.o.node)) (told_at key told) =
        ap (λ (o : Option NodeState). items_of key event (t.world.calls + 1) (key_node key o) now (told_at key a.told)) (found t.world event a id st)
        ∙ ap (λ (o : Option NodeState). items_of key event (t.world.calls + 1) (key_node key (Some st.x)) (key_node key o) (told_at key a.told)) (found_now t.world event a id st)
        ∙ ap (λ (l : List (List ℕ × Reply)). items_of key event (t.world.calls + 1) (key_node key (Some st.x)) (key_node key (Some st.o.node))
        (told_at key l)) told_same in
        let replied : lines_at key calls a.shown.replies ≡ map reply_line (told_at key told) =
        ap (lines_at key calls) (replies_are t.world event a id st ∙ ap (map (λ t. t.1)) (sym told_same)) ∙ lines_told key calls a.told numbers
        ∙ ap (λ (l : List (List ℕ × Reply)). map reply_line (told_at key l)) told_same in
        let lines : events_of said ≡ event_lines key calls event a.shown =
        ap events_of items ∙ said_lines event within st.how
        ∙ ap (λ (c : Option CallNo). call_line key event c ++ map reply_line (told_at key told)) (sym (ap (λ (b : Accepted). b.shown.call) st.is))
        ∙ ap (λ (l : List HistoryEvent). call_line key event a.shown.call ++ l) (sym replied) in
        ap (λ (o : Option NodeId). history_of (traced_by key t event a o)) (acting_is t.world event a id st) ∙ events_append said t.history
        ∙ ap (λ (l : List HistoryEvent). history_of t ++ l) lines

  no_lines : (o : Option CallNo) (d : Event) → IsNoCall d → call_line key d o ≡ []
  no_lines o (Call id k op) none = absurd none
  no_lines o d none = refl

  beside_lines : IsBeside t.world event a → history_of (traced key t event a) ≡ history_of t ++ event_lines key calls event a.shown
  beside_lines b =
      let nothing : event_lines key calls event a.shown ≡ [] =
      ap (λ (l : List HistoryEvent). l ++ lines_at key calls a.shown.replies) (no_lines a.shown.call event b.no_call) ∙ ap (lines_at key calls) b.replies in
      ap (λ (o : Option NodeId). history_of (traced_by key t event a o)) b.acting ∙ sym (append-nil (history_of t))
      ∙ ap (λ (l : List HistoryEvent). history_of t ++ l) (sym nothing)

  pub lines_then : history_of (traced key t event a) ≡ history_of t ++ event_lines key calls event a.shown
  lines_then = by_way (is_made_by t.world a event e)
    where
      by_way : IsMadeBy t.world event a → history_of (traced key t event a) ≡ history_of t ++ event_lines key calls event a.shown
      by_way (inl s) = acted_lines s.0 s.1
      by_way (inr b) = beside_lines b

-- ---- a run
module _ (runs : RunsKeepParts) (key : List ℕ) where
  run_lines : (run : RunState) (event : Event) (a : Accepted) → IsRun run → IsEvent event → world_step (world_of run) event ≡ Ok a →
      history (with_event run event) key ≡ history run key ++ event_lines key (called_from run.events ++ called_from (event ∷ [])) event a.shown
  run_lines run event a ok within e =
      ap history_of (trace_then key run event a e)
      ∙ lines_then key (trace_of key run) event within a (step_at key run event a e) (run_kept runs key run ok) (called_from run.events ++ called_from (event ∷ []))
      (λ k r h. told_numbered runs run ok event within a e k r h)

  abbrev with_events : RunState → List Event → RunState
  with_events run events = record { header = run.header; events = run.events ++ events }

  lines_on : (run : RunState) (events : List Event) → IsRun run → AreAccepted (world_of run) events →
      history (with_events run events) key ≡ history run key ++ lines_from key (world_of run) (called_from run.events) events
  lines_on run [] run_ok all = ap (λ (l : List Event). history (record { header = run.header; events = l }) key) (append-nil run.events) ∙ sym (append-nil (history run key))
  lines_on run (event ∷ events) run_ok all =
      let a : Accepted = all.1 in
      let calls : List (List ℕ) = called_from run.events ++ called_from (event ∷ []) in
      let one : RunState = with_event run event in
      let world : world_of one ≡ a.world = world_then run event a all.2 in
      let more : AreAccepted (world_of one) events = subst (λ (w : WorldState). AreAccepted w events) (sym world) all.3 in
      let rest = lines_on one events (run_then run event a run_ok all.0 all.2) more in
      let here : lines_from key (world_of run) (called_from run.events) (event ∷ events) ≡ event_lines key calls event a.shown ++ lines_from key a.world calls events =
      ap (λ (r : Result Accepted Refused). lines_with key calls event r ++ lines_from key (world_with (world_of run) r) calls events) all.2 in
      let there : lines_from key (world_of one) (called_from one.events) events ≡ lines_from key a.world calls events =
      ap (λ (w : WorldState). lines_from key w (called_from one.events) events) world
      ∙ ap (λ (l : List (List ℕ)). lines_from key a.world l events) (called_append run.events (event ∷ [])) in
      ap (λ (l : List Event). history (record { header = run.header; events = l }) key) (sym (append_assoc run.events (event ∷ []) events)) ∙ rest
      ∙ ap (λ (l : List HistoryEvent). l ++ lines_from key (world_of one) (called_from one.events) events) (run_lines run event a run_ok all.0 all.2)
      ∙ append_assoc (history run key) (event_lines key calls event a.shown) (lines_from key (world_of one) (called_from one.events) events)
      ∙ ap (λ (l : List HistoryEvent). history run key ++ (event_lines key calls event a.shown ++ l)) there ∙ ap (λ (l : List HistoryEvent). history run key ++ l) (sym here)

  pub history_shown : (run : RunState) → IsRun run → history run key ≡ shown_lines run key
  history_shown run ok = lines_on (record { header = run.header; events = [] }) run.events (record { header = ok.header; accepted = tt }) ok.accepted

pub histories_are : RunsKeepParts → HistoriesAreHistories
histories_are runs run ok key = record {
  is_history = is_history (project key (trace_of key run)) (run_kept runs key run ok).calls;
  shown = history_shown runs key run ok;
}
