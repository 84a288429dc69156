-- What the events of a run show of the calls on a key.
use Rattle.std.specs.Prelude.{◌≡◌, ℕ, List, [], ◌∷◌, ◌++◌, Option, None, Some, Result, Ok, Err, if◌then◌else◌}
use Rattle.hk_base.specs.declared.call.CallNo.{CallNo}
use Rattle.hk_base.specs.declared.call.Reply.{Reply}
use Rattle.hk_history.specs.declared.event.Event.{Event as HistoryEvent}
use Rattle.hk_history.specs.declared.event.Event.TheVariants as HistoryEvent
use Rattle.hk_history.specs.History.{IsHistory}
use Rattle.hk_event.specs.declared.event.Event.{Event}
use Rattle.hk_event.specs.declared.event.Event.TheVariants.{Call}
use Rattle.hk_event.specs.declared.refused.Refused.{Refused}
use Rattle.hk_world.specs.declared.shown.Shown.{Shown}
use Rattle.hk_world.specs.World.{WorldState, numbered}
use Rattle.hk_world.specs.Start.{start}
use Rattle.hk_world.specs.Steps.{Accepted, world_step}
use Rattle.hk_effects.specs.Projection.{is_same_key}
use Rattle.hk_safety.specs.Run.{RunState, world_with, IsRun, history}
use Rattle.hk_safety.specs.Kept.{called_from}

-- a call that is made, if it is on the key
abbrev pub call_line : List ℕ → Event → Option CallNo → List HistoryEvent
call_line key (Call id k op) (Some call) = if is_same_key key k then HistoryEvent.Call call op ∷ [] else []
call_line key event call = []

-- a reply, if its call is on the key; calls has the key of each call
abbrev pub reply_line : Reply → HistoryEvent
reply_line r = HistoryEvent.Reply r.call r.answer

abbrev pub line_at : List ℕ → Option (List ℕ) → Reply → List HistoryEvent
line_at key None r = []
line_at key (Some k) r = if is_same_key key k then reply_line r ∷ [] else []

abbrev pub lines_at : List ℕ → List (List ℕ) → List Reply → List HistoryEvent
lines_at key calls [] = []
lines_at key calls (r ∷ replies) = line_at key (numbered r.call.0 calls) r ++ lines_at key calls replies

-- an event shows its call, and then its replies
abbrev pub event_lines : List ℕ → List (List ℕ) → Event → Shown → List HistoryEvent
event_lines key calls event shown = call_line key event shown.call ++ lines_at key calls shown.replies

abbrev pub lines_with : List ℕ → List (List ℕ) → Event → Result Accepted Refused → List HistoryEvent
lines_with key calls event (Ok a) = event_lines key calls event a.shown
lines_with key calls event (Err refused) = []

-- what these events show of the key, from a world in which calls on these keys were made
abbrev pub lines_from : List ℕ → WorldState → List (List ℕ) → List Event → List HistoryEvent
lines_from key w calls [] = []
lines_from key w calls (event ∷ events) =
    lines_with key (calls ++ called_from (event ∷ [])) event (world_step w event)
    ++ lines_from key (world_with w (world_step w event)) (calls ++ called_from (event ∷ [])) events

abbrev pub shown_lines : RunState → List ℕ → List HistoryEvent
shown_lines run key = lines_from key (start run.header) [] run.events

-- After every run the history of each key is one: each call is made once, and has one reply at most, which follows it. And it is just the
-- calls on the key and their replies as the events show them, in their order.
pub record IsShown (run : RunState) (key : List ℕ) : Type 0 where
  pub is_history : IsHistory (history run key)
  pub shown : history run key ≡ shown_lines run key

abbrev pub HistoriesAreHistories : Type 0
HistoriesAreHistories = (run : RunState) → IsRun run → (key : List ℕ) → IsShown run key
