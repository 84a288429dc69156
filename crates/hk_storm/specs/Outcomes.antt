-- What became of the calls of runs.
use Rattle.std.specs.Prelude.{◌≡◌, ℕ, zero, suc, ◌+◌, ◌==◌, List, [], ◌∷◌, ◌++◌, length, Option, Some, None, Result, Ok, Err, if◌then◌else◌}
use Rattle.std.specs.Ordering.{nat_cmp}
use Rattle.std.specs.BTreeMap.{is_at}
use Rattle.std.specs.Map.{lookup}
use Rattle.hk_base.specs.declared.call.Answer.{Answer}
use Rattle.hk_base.specs.declared.call.Answer.TheVariants.{Busy, Aborted}
use Rattle.hk_base.specs.declared.call.Reply.{Reply}
use Rattle.hk_event.specs.declared.event.Event.{Event}
use Rattle.hk_event.specs.declared.refused.Refused.{Refused}
use Rattle.hk_world.specs.World.{WorldState}
use Rattle.hk_world.specs.Start.{start}
use Rattle.hk_world.specs.Steps.{Accepted, world_step}
use Rattle.hk_safety.specs.Run.{RunState, world_with}
use Rattle.hk_storm.specs.declared.outcomes.Outcome.{Outcome}
use Rattle.hk_storm.specs.declared.outcomes.Outcome.TheVariants as outcome
use Rattle.hk_storm.specs.declared.outcomes.Outcomes.{Outcomes}
use Rattle.hk_storm.specs.Calls.{calls_of}

-- ---- replies
abbrev pub shown_replies : Result Accepted Refused → List Reply
shown_replies (Ok a) = a.shown.replies
shown_replies (Err refused) = []

-- all replies that events show, in their order
abbrev pub replies_from : WorldState → List Event → List Reply
replies_from world [] = []
replies_from world (event ∷ events) = shown_replies (world_step world event) ++ replies_from (world_with world (world_step world event)) events

abbrev pub replies_of : RunState → List Reply
replies_of run = replies_from (start run.header) run.events

-- ---- what became of a call
abbrev pub outcome_of : Answer → Outcome
outcome_of (Busy why) = outcome.Busy
outcome_of (Aborted stamp) = outcome.Aborted
outcome_of answer = outcome.Answered

-- by the first reply to it, if there is one
abbrev pub first_outcome : ℕ → List Reply → Option Outcome
first_outcome call [] = None
first_outcome call (reply ∷ replies) = if reply.call.0 == call then Some (outcome_of reply.answer) else first_outcome call replies

-- ---- counts
abbrev pub no_outcomes : Outcomes
no_outcomes = record { answered = 0; busy = 0; aborted = 0; unanswered = 0 }

-- a call without a reply is open
abbrev pub with_outcome : Outcomes → Option Outcome → Outcomes
with_outcome o None = record { answered = o.answered; busy = o.busy; aborted = o.aborted; unanswered = o.unanswered + 1 }
with_outcome o (Some outcome.Answered) = record { answered = o.answered + 1; busy = o.busy; aborted = o.aborted; unanswered = o.unanswered }
with_outcome o (Some outcome.Busy) = record { answered = o.answered; busy = o.busy + 1; aborted = o.aborted; unanswered = o.unanswered }
with_outcome o (Some outcome.Aborted) = record { answered = o.answered; busy = o.busy; aborted = o.aborted + 1; unanswered = o.unanswered }

-- with so many calls, which are numbered from this number on
unfoldable pub with_calls : Outcomes → List Reply → ℕ → ℕ → Outcomes
with_calls o replies call zero = o
with_calls o replies call (suc left) = with_calls (with_outcome o (first_outcome call replies)) replies (call + 1) left

-- with the calls of a run, which numbers them from 1
abbrev pub with_run : Outcomes → RunState → Outcomes
with_run o run = with_calls o (replies_of run) 1 (length (calls_of run))

abbrev pub with_runs : Outcomes → List RunState → Outcomes
with_runs o [] = o
with_runs o (run ∷ runs) = with_runs (with_run o run) runs

abbrev pub outcomes_of : List RunState → Outcomes
outcomes_of runs = with_runs no_outcomes runs

-- ---- what the code keeps
-- what is kept tells of each call what became of it
abbrev pub IsTold : List (ℕ × Outcome) → List Reply → Type 0
IsTold kept replies = (call : ℕ) → lookup (is_at (nat_cmp call)) kept ≡ first_outcome call replies
