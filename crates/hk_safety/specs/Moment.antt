-- The moments of a run, and which of them is that of a stamp.
use Rattle.std.specs.Prelude.{◌≡◌, ℕ, ◌≤◌, ◌<◌, List, [], ◌∷◌, ◌&&◌, Bool, take, length, nat_le, ◌+◌, ◌==◌, min, Option, None, Some, if◌then◌else◌}
use Rattle.std.specs.List.{list_any, position_or_len}
use Rattle.hk_history.specs.History.{is_reply}
use Rattle.hk_register.specs.Machine.{In, Update}
use Rattle.hk_register.specs.Facts.{Complete}
use Rattle.hk_register.specs.Printed.{is_complete}
use Rattle.hk_event.specs.declared.event.Event.{Event}
use Rattle.hk_world.specs.Steps.{world_step}
use Rattle.hk_effects.specs.Projection.{Trace, project}
use Rattle.hk_effects.specs.Runs.{start_trace}
use Rattle.hk_effects.specs.Orders.{family, history_of}
use Rattle.hk_safety.specs.Run.{RunState, trace_with, trace_of}

-- what a run comes to for a key at each of its moments: before the first event, and after each
abbrev pub traces_after : List ℕ → Trace → List Event → List Trace
traces_after key t [] = []
traces_after key t (event ∷ events) =
    trace_with key t event (world_step t.world event) ∷ traces_after key (trace_with key t event (world_step t.world event)) events

abbrev pub traces : RunState → List ℕ → List Trace
traces run key = start_trace run.header ∷ traces_after key (start_trace run.header) run.events

-- an update of the key with a stamp of at least s is complete
abbrev pub is_reached : List ℕ → ℕ → Trace → Bool
is_reached key s t = list_any (λ u. nat_le s u.stamp && is_complete (family t.world.views) (project key t) u.stamp) t.begun

-- Moment: the number of the first event after which an update of the key with a stamp of at least s is complete.
abbrev pub moment : RunState → List ℕ → ℕ → ℕ
moment run key s = position_or_len (is_reached key s) (traces run key)

-- the number of the event that replied to the call on the key
abbrev pub replied_at : RunState → List ℕ → ℕ → ℕ
replied_at run key call = position_or_len (λ t. list_any (is_reply call) (history_of t)) (traces run key)

-- ---- what the moment means
-- the run of the first n events
abbrev pub up_to : ℕ → RunState → RunState
up_to n run = record { header = run.header; events = take n run.events }

-- the update is complete in the trace
abbrev pub IsComplete : List ℕ → Trace → Update → Type 0
IsComplete key t u = In t.begun u × Complete (family t.world.views) (project key t) u.stamp

-- a complete update of the key has a stamp of at least s
abbrev pub IsReached : List ℕ → ℕ → Trace → Type 0
IsReached key s t = (u : Update) × (s ≤ u.stamp) × IsComplete key t u

-- after so many events it has, and before it had not
pub record IsMoment (run : RunState) (key : List ℕ) (s n : ℕ) : Type 0 where
  pub within : n ≤ length run.events
  pub reached : IsReached key s (trace_of key (up_to n run))
  pub first : (m : ℕ) → m < n → IsReached key s (trace_of key (up_to m run)) → ⊥

-- A stamp that is reached in the end has its moment.
abbrev pub MomentsAreFirst : Type 0
MomentsAreFirst = (run : RunState) (key : List ℕ) (s : ℕ) → IsReached key s (trace_of key run) → IsMoment run key s (moment run key s)

-- ---- moments by completions
-- the update of the stamp is complete
abbrev pub is_completed : List ℕ → ℕ → Trace → Bool
is_completed key s t = list_any (λ u. (u.stamp == s) && is_complete (family t.world.views) (project key t) u.stamp) t.begun

-- the number of the event that completed the update of the stamp
abbrev pub completed_at : RunState → List ℕ → ℕ → ℕ
completed_at run key s = position_or_len (is_completed key s) (traces run key)

-- A stamp's moment is that of the next stamp, unless its own update is complete before.
abbrev pub MomentsFollowCompletions : Type 0
MomentsFollowCompletions = (run : RunState) (key : List ℕ) (s : ℕ) → moment run key s ≡ min (completed_at run key s) (moment run key (s + 1))

-- ---- what is told of a stamp
-- Its moment where the update of this very stamp is complete; else none.
abbrev pub moment_of : RunState → List ℕ → ℕ → Option ℕ
moment_of run key s = if is_completed key s (trace_of key run) then Some (moment run key s) else None

-- an update of just this stamp is complete
abbrev pub IsCompleted : List ℕ → ℕ → Trace → Type 0
IsCompleted key s t = (u : Update) × (u.stamp ≡ s) × IsComplete key t u

-- None exactly where the update of the stamp is not complete; any number is the stamp's moment.
abbrev pub IsToldOf : RunState → List ℕ → ℕ → Option ℕ → Type 0
IsToldOf run key s None = IsCompleted key s (trace_of key run) → ⊥
IsToldOf run key s (Some n) = IsCompleted key s (trace_of key run) × IsMoment run key s n
