-- The history of a key is what the history of all keys has of its calls.
use Rattle.std.proofs.Common.{◌≡◌, ℕ, ◌+◌, Bool, true, false, cond, List, [], ◌∷◌, ◌++◌, map, length, ◌∙◌, sym, refl, ap, ap₂, subst, inl, inr, append-nil, append_assoc, Option, Some, None, Result, Ok, eqb}
use Rattle.std.specs.List.{filter}
use Rattle.std.proofs.lemmas.Bool.{false≢true, eqb-true}
use Rattle.std.proofs.lemmas.List.Elements.{filter-append}
use Rattle.hk_base.specs.declared.stamp.NodeId.{NodeId}
use Rattle.hk_base.specs.declared.call.CallNo.{CallNo}
use Rattle.hk_base.specs.declared.call.Op.{Op}
use Rattle.hk_base.specs.declared.call.Reply.{Reply}
use Rattle.hk_history.specs.declared.event.Event.{Event as HistoryEvent}
use Rattle.hk_history.specs.declared.event.Event.TheVariants as HistoryEvent
use Rattle.hk_history.specs.History.{op_of, answer_of}
use Rattle.hk_register.specs.Machine.{In}
use Rattle.hk_event.specs.declared.event.Event.{Event}
use Rattle.hk_event.specs.declared.event.Event.TheVariants.{Call}
use Rattle.hk_event.specs.declared.refused.Refused.{Refused}
use Rattle.hk_world.specs.World.{WorldState, numbered}
use Rattle.hk_world.specs.Steps.{Accepted, world_step}
use Rattle.hk_world.specs.Sound.{IsEvent}
use Rattle.hk_effects.specs.Projection.{is_same_key}
use Rattle.hk_effects.specs.Runs.{RunsKeepParts}
use Rattle.hk_effects.proofs.Order.{same_true, same_itself}
use Rattle.hk_safety.specs.Run.{RunState, world_of, world_with, AreAccepted, IsRun, history}
use Rattle.hk_safety.specs.Kept.{called_from}
use Rattle.hk_safety.specs.Push.{with_event}
use Rattle.hk_safety.specs.Shows.{call_line, reply_line, line_at, lines_at, event_lines, lines_with}
use Rattle.hk_safety.specs.Shows as one
use Rattle.hk_safety.proofs.Acting.{next_call, call_in, IsNoCall, IsMadeBy, is_made_by}
use Rattle.hk_safety.proofs.Lines.{history_shown}
use Rattle.hk_safety.proofs.Making.{told_is, replies_are}
use Rattle.hk_safety.proofs.Named.{called_append, numbered_append}
use Rattle.hk_safety.proofs.Telling.{next_numbered, told_numbered, run_counted}
use Rattle.hk_safety.proofs.Traces.{world_then, trace_of_world, run_then}
use Rattle.hk_joint.specs.Legal.{call_lines, shown_lines, lines_from, joint_history}
use Rattle.hk_joint.proofs.Lists.{of_map, of_filter}

-- the number of a line's call
abbrev pub call_no : HistoryEvent → ℕ
call_no (HistoryEvent.Call c op) = c.0
call_no (HistoryEvent.Reply c answer) = c.0

abbrev pub is_of : List ℕ → Option (List ℕ) → Bool
is_of key None = false
is_of key (Some k) = is_same_key key k

-- the line's call is on the key
abbrev pub is_on : List (List ℕ) → List ℕ → HistoryEvent → Bool
is_on calls key line = is_of key (numbered (call_no line) calls)

-- ---- the lines of one event
module _ (key : List ℕ) (calls all : List (List ℕ)) (more : (n : ℕ) (k : List ℕ) → numbered n calls ≡ Some k → numbered n all ≡ Some k) where
  reply_on : (r : Reply) (k : List ℕ) → numbered r.call.0 calls ≡ Some k → line_at key (numbered r.call.0 calls) r ≡ filter (is_on all key) (reply_line r ∷ [])
  reply_on r k e =
      ap (λ (o : Option (List ℕ)). line_at key o r) e
      ∙ sym (ap (λ (o : Option (List ℕ)). cond (is_of key o) (reply_line r ∷ []) []) (more r.call.0 k e))

  replies_on : (rs : List Reply) → ((r : Reply) → In rs r → (k : List ℕ) × (numbered r.call.0 calls ≡ Some k)) → lines_at key calls rs ≡ filter (is_on all key) (map reply_line rs)
  replies_on [] known = refl
  replies_on (r ∷ rs) known =
      let here = known r (inl refl) in
      ap₂ (λ (a b : List HistoryEvent). a ++ b) (reply_on r here.0 here.1) (replies_on rs (λ q h. known q (inr h)))
      ∙ sym (filter-append (is_on all key) (reply_line r ∷ []) (map reply_line rs))

  call_on : (event : Event) (c : Option CallNo) → ((id : NodeId) (k : List ℕ) (op : Op) (made : CallNo) → event ≡ Call id k op → c ≡ Some made → numbered made.0 calls ≡ Some k) →
      call_line key event c ≡ filter (is_on all key) (call_lines event c)
  call_on (Call id k op) (Some made) known = sym (ap (λ (o : Option (List ℕ)). cond (is_of key o) (HistoryEvent.Call made op ∷ []) []) (more made.0 k (known id k op made refl refl)))
  call_on (Call id k op) None known = refl
  call_on event c known = refl

  event_on : (event : Event) (a : Accepted) → ((id : NodeId) (k : List ℕ) (op : Op) (made : CallNo) → event ≡ Call id k op → a.shown.call ≡ Some made → numbered made.0 calls ≡ Some k) →
      ((r : Reply) → In a.shown.replies r → (k : List ℕ) × (numbered r.call.0 calls ≡ Some k)) →
      event_lines key calls event a.shown ≡ filter (is_on all key) (shown_lines event (Ok a))
  event_on event a call replies =
      ap₂ (λ (x y : List HistoryEvent). x ++ y) (call_on event a.shown.call call) (replies_on a.shown.replies replies)
      ∙ sym (filter-append (is_on all key) (call_lines event a.shown.call) (map reply_line a.shown.replies))

-- ---- an event of a run
module _ (runs : RunsKeepParts) (run : RunState) (ok : IsRun run) (event : Event) (within : IsEvent event) (a : Accepted) (e : world_step (world_of run) event ≡ Ok a) where
  abbrev pub calls_now : List (List ℕ)
  calls_now = called_from run.events ++ called_from (event ∷ [])

  -- the call that it makes is the next one
  pub call_numbered : (id : NodeId) (k : List ℕ) (op : Op) (made : CallNo) → event ≡ Call id k op → a.shown.call ≡ Some made → numbered made.0 calls_now ≡ Some k
  call_numbered id k op made is call = by_way (is_made_by (world_of run) a event e)
    where
      some_is : (x y : CallNo) → Some x ≡ Some y → x ≡ y
      some_is x y e = cc

      count : (world_of run).calls ≡ length (called_from run.events)
      count = ap (λ (w : WorldState). w.calls) (sym (trace_of_world k run)) ∙ (run_counted k run ok).count

      by_way : IsMadeBy (world_of run) event a → numbered made.0 calls_now ≡ Some k
      by_way (inl s) =
          let told : a.shown.call ≡ call_in (next_call (world_of run)) event = ap (λ (b : Accepted). b.shown.call) s.1.is in
          let next : a.shown.call ≡ Some (next_call (world_of run)) = told ∙ ap (call_in (next_call (world_of run))) is in
          let same : made ≡ next_call (world_of run) = some_is made (next_call (world_of run)) (sym call ∙ next) in
          let numbers : numbered ((world_of run).calls + 1) (called_from run.events ++ k ∷ []) ≡ Some k = next_numbered (world_of run).calls (called_from run.events) k count in
          subst (λ (d : Event). numbered made.0 (called_from run.events ++ called_from (d ∷ [])) ≡ Some k) (sym is)
          (subst (λ (c : CallNo). numbered c.0 (called_from run.events ++ k ∷ []) ≡ Some k) (sym same) numbers)
      by_way (inr b) = absurd (subst IsNoCall is b.no_call)

  -- the calls that it answers are known
  pub replies_numbered : (r : Reply) → In a.shown.replies r → (k : List ℕ) × (numbered r.call.0 calls_now ≡ Some k)
  replies_numbered r h = by_way (is_made_by (world_of run) a event e)
    where
      by_way : IsMadeBy (world_of run) event a → (k : List ℕ) × (numbered r.call.0 calls_now ≡ Some k)
      by_way (inl s) =
          let told : a.shown.replies ≡ map (λ t. t.1) a.told =
          replies_are (world_of run) event a s.0 s.1 ∙ ap (map (λ t. t.1)) (sym (told_is (world_of run) event a s.0 s.1)) in
          let t = of_map (λ (p : List ℕ × Reply). p.1) a.told r (subst (λ (l : List Reply). In l r) told h) in
          (t.0.0, subst (λ (q : Reply). numbered q.call.0 calls_now ≡ Some t.0.0) (sym t.2) (told_numbered runs run ok event within a e t.0.0 t.0.1 t.1))
      by_way (inr b) = absurd (subst (λ (l : List Reply). In l r) b.replies h)

-- ---- a run
module _ (runs : RunsKeepParts) (key : List ℕ) where
  lines_on : (run : RunState) (events : List Event) (more : List (List ℕ)) → IsRun run → AreAccepted (world_of run) events →
      one.lines_from key (world_of run) (called_from run.events) events ≡ filter (is_on (called_from run.events ++ (called_from events ++ more)) key) (lines_from (world_of run) events)
  lines_on run [] more ok all = refl
  lines_on run (event ∷ events) more ok all =
      let a : Accepted = all.1 in
      let w : WorldState = world_of run in
      let past : List (List ℕ) = called_from run.events in
      let calls : List (List ℕ) = past ++ called_from (event ∷ []) in
      let next : RunState = with_event run event in
      let whole : List (List ℕ) = past ++ (called_from (event ∷ events) ++ more) in
      let world : world_of next ≡ a.world = world_then run event a all.2 in
      let accepted : AreAccepted (world_of next) events = subst (λ (v : WorldState). AreAccepted v events) (sym world) all.3 in
      let split : called_from (event ∷ events) ≡ called_from (event ∷ []) ++ called_from events = called_append (event ∷ []) events in
      let same_whole : whole ≡ calls ++ (called_from events ++ more) =
      ap (λ (l : List (List ℕ)). past ++ (l ++ more)) split
      ∙ (ap (λ (l : List (List ℕ)). past ++ l) (append_assoc (called_from (event ∷ [])) (called_from events) more)
      ∙ sym (append_assoc past (called_from (event ∷ [])) (called_from events ++ more))) in
      let same_next : called_from next.events ≡ calls = called_append run.events (event ∷ []) in
      let grows : (n : ℕ) (k : List ℕ) → numbered n calls ≡ Some k → numbered n whole ≡ Some k = λ n k h.
      subst (λ (l : List (List ℕ)). numbered n l ≡ Some k) (sym same_whole) (numbered_append n calls (called_from events ++ more) k h) in
      let first : event_lines key calls event a.shown ≡ filter (is_on whole key) (shown_lines event (Ok a)) =
      event_on key calls whole grows event a (call_numbered runs run ok event all.0 a all.2) (replies_numbered runs run ok event all.0 a all.2) in
      let rest : one.lines_from key (world_of next) (called_from next.events) events ≡ filter (is_on (called_from next.events ++ (called_from events ++ more)) key) (lines_from (world_of next) events) =
      lines_on next events more (run_then run event a ok all.0 all.2) accepted in
      let rest_here : one.lines_from key a.world calls events ≡ filter (is_on whole key) (lines_from a.world events) =
      ap (λ (v : WorldState). one.lines_from key v calls events) (sym world)
      ∙ (ap (λ (l : List (List ℕ)). one.lines_from key (world_of next) l events) (sym same_next)
      ∙ (rest
      ∙ (ap (λ (l : List (List ℕ)). filter (is_on (l ++ (called_from events ++ more)) key) (lines_from (world_of next) events)) same_next
      ∙ (ap (λ (l : List (List ℕ)). filter (is_on l key) (lines_from (world_of next) events)) (sym same_whole)
      ∙ ap (λ (v : WorldState). filter (is_on whole key) (lines_from v events)) world)))) in
      ap (λ (r : Result Accepted Refused). lines_with key calls event r ++ one.lines_from key (world_with w r) calls events) all.2
      ∙ (ap₂ (λ (x y : List HistoryEvent). x ++ y) first rest_here
      ∙ (sym (filter-append (is_on whole key) (shown_lines event (Ok a)) (lines_from a.world events))
      ∙ sym (ap (λ (r : Result Accepted Refused). filter (is_on whole key) (shown_lines event r ++ lines_from (world_with w r) events)) all.2)))

  -- whatever calls come later
  pub history_on : (run : RunState) (more : List (List ℕ)) → IsRun run → history run key ≡ filter (is_on (called_from run.events ++ more) key) (joint_history run)
  history_on run more ok = history_shown runs key run ok ∙ lines_on (record { header = run.header; events = [] }) run.events more (record { header = ok.header; accepted = tt }) ok.accepted

-- ---- what is said of a call on the key
op_filter : (p : HistoryEvent → Bool) (n : ℕ) → ((line : HistoryEvent) → call_no line ≡ n → p line ≡ true) → (xs : List HistoryEvent) → op_of (filter p xs) n ≡ op_of xs n
op_filter p n own [] = refl
op_filter p n own (HistoryEvent.Call c op ∷ xs) = by_tests (p (HistoryEvent.Call c op)) refl (eqb c.0 n) refl (op_filter p n own xs)
  where
    by_tests : (b : Bool) → p (HistoryEvent.Call c op) ≡ b → (t : Bool) → eqb c.0 n ≡ t → op_of (filter p xs) n ≡ op_of xs n →
        op_of (cond b (HistoryEvent.Call c op ∷ filter p xs) (filter p xs)) n ≡ cond t (Some op) (op_of xs n)
    by_tests true e true f more = ap (λ (t : Bool). cond t (Some op) (op_of (filter p xs) n)) f
    by_tests true e false f more = ap (λ (t : Bool). cond t (Some op) (op_of (filter p xs) n)) f ∙ more
    by_tests false e true f more = absurd (false≢true (sym e ∙ own (HistoryEvent.Call c op) (eqb-true c.0 n f)))
    by_tests false e false f more = more
op_filter p n own (HistoryEvent.Reply c answer ∷ xs) = by_test (p (HistoryEvent.Reply c answer)) (op_filter p n own xs)
  where
    by_test : (b : Bool) → op_of (filter p xs) n ≡ op_of xs n → op_of (cond b (HistoryEvent.Reply c answer ∷ filter p xs) (filter p xs)) n ≡ op_of xs n
    by_test true more = more
    by_test false more = more

answer_filter : (p : HistoryEvent → Bool) (n : ℕ) → ((line : HistoryEvent) → call_no line ≡ n → p line ≡ true) → (xs : List HistoryEvent) → answer_of (filter p xs) n ≡ answer_of xs n
answer_filter p n own [] = refl
answer_filter p n own (HistoryEvent.Reply c answer ∷ xs) = by_tests (p (HistoryEvent.Reply c answer)) refl (eqb c.0 n) refl (answer_filter p n own xs)
  where
    by_tests : (b : Bool) → p (HistoryEvent.Reply c answer) ≡ b → (t : Bool) → eqb c.0 n ≡ t → answer_of (filter p xs) n ≡ answer_of xs n →
        answer_of (cond b (HistoryEvent.Reply c answer ∷ filter p xs) (filter p xs)) n ≡ cond t (Some answer) (answer_of xs n)
    by_tests true e true f more = ap (λ (t : Bool). cond t (Some answer) (answer_of (filter p xs) n)) f
    by_tests true e false f more = ap (λ (t : Bool). cond t (Some answer) (answer_of (filter p xs) n)) f ∙ more
    by_tests false e true f more = absurd (false≢true (sym e ∙ own (HistoryEvent.Reply c answer) (eqb-true c.0 n f)))
    by_tests false e false f more = more
answer_filter p n own (HistoryEvent.Call c op ∷ xs) = by_test (p (HistoryEvent.Call c op)) (answer_filter p n own xs)
  where
    by_test : (b : Bool) → answer_of (filter p xs) n ≡ answer_of xs n → answer_of (cond b (HistoryEvent.Call c op ∷ filter p xs) (filter p xs)) n ≡ answer_of xs n
    by_test true more = more
    by_test false more = more

-- the call's number is one on the key
abbrev pub IsOn : RunState → List ℕ → ℕ → Type 0
IsOn run key n = numbered n (called_from run.events) ≡ Some key

pub on_line : (key : List ℕ) (calls : List (List ℕ)) (n : ℕ) → numbered n calls ≡ Some key → (line : HistoryEvent) → call_no line ≡ n → is_on calls key line ≡ true
on_line key calls n on line same = ap (λ (m : ℕ). is_of key (numbered m calls)) same ∙ (ap (is_of key) on ∙ same_itself key)

pub of_on : (key : List ℕ) (calls : List (List ℕ)) (line : HistoryEvent) → is_on calls key line ≡ true → numbered (call_no line) calls ≡ Some key
of_on key calls line e = by_found (numbered (call_no line) calls) e
  where
    by_found : (o : Option (List ℕ)) → is_of key o ≡ true → o ≡ Some key
    by_found None e = absurd (false≢true e)
    by_found (Some k) e = ap Some (sym (same_true key k e))

module _ (runs : RunsKeepParts) (run : RunState) (ok : IsRun run) (key : List ℕ) where
  abbrev calls_of_run : List (List ℕ)
  calls_of_run = called_from run.events

  whole : history run key ≡ filter (is_on calls_of_run key) (joint_history run)
  whole = history_on runs key run [] ok ∙ ap (λ (l : List (List ℕ)). filter (is_on l key) (joint_history run)) (append-nil calls_of_run)

  pub same_op : (n : ℕ) → IsOn run key n → op_of (history run key) n ≡ op_of (joint_history run) n
  same_op n on = ap (λ (l : List HistoryEvent). op_of l n) whole ∙ op_filter (is_on calls_of_run key) n (on_line key calls_of_run n on) (joint_history run)

  pub same_answer : (n : ℕ) → IsOn run key n → answer_of (history run key) n ≡ answer_of (joint_history run) n
  same_answer n on = ap (λ (l : List HistoryEvent). answer_of l n) whole ∙ answer_filter (is_on calls_of_run key) n (on_line key calls_of_run n on) (joint_history run)

  -- each line of the key is of one of its calls
  pub line_on : (line : HistoryEvent) → In (history run key) line → IsOn run key (call_no line)
  line_on line h = of_on key calls_of_run line (of_filter (is_on calls_of_run key) (joint_history run) line (subst (λ (l : List HistoryEvent). In l line) whole h)).1
