-- A run that is drawn from a number, and its summary.
use Rattle.std.specs.Prelude.{ℕ, zero, suc, ◌+◌, ◌-◌, List, [], ◌∷◌, ◌++◌, length, Result, Ok, Err, codes, decimal, ⊤}
use Rattle.hk_base.specs.declared.call.Answer.{Answer}
use Rattle.hk_base.specs.declared.call.Answer.TheVariants.{Busy, Aborted}
use Rattle.hk_base.specs.declared.call.Reply.{Reply}
use Rattle.hk_outside.specs.declared.status.Status.{Status}
use Rattle.hk_outside.specs.declared.status.Status.TheVariants.{Done, Memory, Usage, ReadFault, WriteFault, BadLine, TooLong, Gap, DoorFault, SpawnFault}
use Rattle.hk_event.specs.declared.event.Event.{Event}
use Rattle.hk_event.specs.declared.refused.Refused.{Refused}
use Rattle.hk_world.specs.Steps.{Accepted, world_step}
use Rattle.hk_script.specs.Drawn.{GeneratorState, group_of, numbers_from, generator_step}
use Rattle.hk_safety.specs.Run.{RunState, world_of}
use Rattle.hk_safety.specs.Push.{with_event}

-- ---- replies
-- how many replies were answers, Busy and Aborted
pub record Counts : Type 0 where
  pub answered : ℕ
  pub busy : ℕ
  pub aborted : ℕ

abbrev pub no_counts : Counts
no_counts = record { answered = 0; busy = 0; aborted = 0 }

abbrev pub with_answer : Counts → Answer → Counts
with_answer c (Busy why) = record { answered = c.answered; busy = c.busy + 1; aborted = c.aborted }
with_answer c (Aborted stamp) = record { answered = c.answered; busy = c.busy; aborted = c.aborted + 1 }
with_answer c answer = record { answered = c.answered + 1; busy = c.busy; aborted = c.aborted }

unfoldable pub with_replies : Counts → List Reply → Counts
with_replies c [] = c
with_replies c (r ∷ replies) = with_replies (with_answer c r.answer) replies

-- ---- the run
-- a run that is being drawn, what draws its events, and the replies that they showed
pub record Drawing : Type 0 where
  pub run : RunState
  pub generator : GeneratorState
  pub counts : Counts

abbrev pub first_drawing : ℕ → ℕ → Drawing
first_drawing start nodes = record {
  run = record { header = group_of nodes; events = [] };
  generator = record { nodes = nodes; numbers = numbers_from start };
  counts = no_counts;
}

-- the event that was drawn is made, unless it is refused
abbrev pub drawing_with : Drawing → Event × GeneratorState → Result Accepted Refused → Drawing
drawing_with d drawn (Ok a) = record { run = with_event d.run drawn.0; generator = drawn.1; counts = with_replies d.counts a.shown.replies }
drawing_with d drawn (Err refused) = record { run = d.run; generator = drawn.1; counts = d.counts }

-- what is drawn next, which depends on how many letters were sent
abbrev pub next_drawn : Drawing → Event × GeneratorState
next_drawn d = generator_step d.generator (length (world_of d.run).letters)

abbrev pub next_drawing : Drawing → Drawing
next_drawing d = drawing_with d (next_drawn d) (world_step (world_of d.run) (next_drawn d).0)

-- so many events more
unfoldable pub drawn_on : ℕ → Drawing → Drawing
drawn_on zero d = d
drawn_on (suc n) d = drawn_on n (next_drawing d)

abbrev pub generated : ℕ → ℕ → ℕ → Drawing
generated start count nodes = drawn_on count (first_drawing start nodes)

-- ---- the summary
abbrev pub request_text : ℕ → ℕ → ℕ → List ℕ
request_text start count nodes = codes "generated " ++ decimal start ++ codes " " ++ decimal count ++ codes " " ++ decimal nodes ++ codes "\n"

-- the calls of a run, by their replies; those that have none are open
unfoldable pub calls_text : ℕ → Counts → List ℕ
calls_text calls c =
    codes "calls " ++ decimal calls ++ codes " answered " ++ decimal c.answered ++ codes " busy " ++ decimal c.busy
    ++ codes " aborted " ++ decimal c.aborted ++ codes " open " ++ decimal (calls - c.answered - c.busy - c.aborted) ++ codes "\n"

abbrev pub letters_text : ℕ → List ℕ
letters_text letters = codes "letters " ++ decimal letters ++ codes " legal\n"

unfoldable pub drawing_text : Drawing → List ℕ
drawing_text d = calls_text (world_of d.run).calls d.counts ++ letters_text (length (world_of d.run).letters)

abbrev pub summary : ℕ → ℕ → ℕ → List ℕ
summary start count nodes = request_text start count nodes ++ drawing_text (generated start count nodes)

-- the statuses with which `generate` may end
abbrev pub EndsGenerate : Status → Type 0
EndsGenerate Done = ⊤
EndsGenerate Memory = ⊤
EndsGenerate Usage = ⊥
EndsGenerate ReadFault = ⊥
EndsGenerate WriteFault = ⊤
EndsGenerate BadLine = ⊥
EndsGenerate TooLong = ⊥
EndsGenerate Gap = ⊥
EndsGenerate DoorFault = ⊥
EndsGenerate SpawnFault = ⊥
