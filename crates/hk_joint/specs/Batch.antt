-- The batches of a run: reads of several keys, one event after the other at one node, with nothing between them.
use Rattle.std.specs.Prelude.{◌≡◌, ℕ, List, [], ◌∷◌, ◌++◌, length, map, Bool, true, false, not, ◌==◌, ◌&&◌, nat_lt, Option, None, Some, Result, Ok, Err, if◌then◌else◌}
use Rattle.std.specs.List.{list_all}
use Rattle.hk_base.specs.declared.call.Answer.{Answer}
use Rattle.hk_base.specs.declared.call.Answer.TheVariants.{Found, Missing}
use Rattle.hk_base.specs.declared.call.Op.TheVariants.{Read}
use Rattle.hk_base.specs.declared.call.CallNo.{CallNo}
use Rattle.hk_base.specs.declared.call.Reply.{Reply}
use Rattle.hk_base.specs.declared.stamp.NodeId.{NodeId}
use Rattle.hk_event.specs.declared.event.Event.{Event}
use Rattle.hk_event.specs.declared.event.Event.TheVariants.{Call}
use Rattle.hk_event.specs.declared.refused.Refused.{Refused}
use Rattle.hk_world.specs.World.{WorldState}
use Rattle.hk_world.specs.Start.{start}
use Rattle.hk_world.specs.Steps.{Accepted, world_step}
use Rattle.hk_effects.specs.Projection.{is_same_key}
use Rattle.hk_safety.specs.Run.{RunState, world_with}
use Rattle.hk_joint.specs.declared.batch.Reading.{Reading}

abbrev pub is_told : Answer → Bool
is_told (Found content tag) = true
is_told Missing = true
is_told answer = false

-- a Read that told what its key holds, by its replies
abbrev pub reading_by : NodeId → List ℕ → List Reply → Option Reading
reading_by node key [] = None
reading_by node key (r ∷ replies) = if is_told r.answer then Some (record { node = node; key = key; call = r.call }) else None

abbrev pub reading_in : Event → List Reply → Option Reading
reading_in (Call id key Read) replies = reading_by id key replies
reading_in event replies = None

-- the Read that an event is, where it is one
abbrev pub reading_at : Event → Result Accepted Refused → Option Reading
reading_at event (Ok a) = reading_in event a.shown.replies
reading_at event (Err refused) = None

-- one for each event
abbrev pub readings_from : WorldState → List Event → List (Option Reading)
readings_from w [] = []
readings_from w (event ∷ events) = reading_at event (world_step w event) ∷ readings_from (world_with w (world_step w event)) events

-- a Read goes on with a batch of its node in which its key is not
abbrev pub goes_on : List Reading → Reading → Bool
goes_on batch r = list_all (λ q. (q.node.0 == r.node.0) && not (is_same_key q.key r.key)) batch

-- a batch has at least two Reads
abbrev pub closed : List Reading → List (List Reading)
closed batch = if nat_lt 1 (length batch) then batch ∷ [] else []

-- each batch goes on as far as it can: what ends it may begin the next one
abbrev pub batches_from : List Reading → List (Option Reading) → List (List Reading)
batches_from batch [] = closed batch
batches_from batch (None ∷ rest) = closed batch ++ batches_from [] rest
batches_from batch (Some r ∷ rest) = if goes_on batch r then batches_from (batch ++ r ∷ []) rest else closed batch ++ batches_from (r ∷ []) rest

-- the batches of a run, the first one first
abbrev pub batches : RunState → List (List Reading)
batches run = batches_from [] (readings_from (start run.header) run.events)

-- ---- found one by one
abbrev pub calls_of : List Reading → List CallNo
calls_of batch = map (λ r. r.call) batch

-- the batch that may go on, and the calls of those before it
pub record BatchingState : Type 0 where
  pub open_batch : List Reading
  pub made : List (List CallNo)

abbrev pub no_batch : BatchingState
no_batch = record { open_batch = []; made = [] }

-- all batches, where no event comes behind
abbrev pub ended : BatchingState → List (List CallNo)
ended s = s.made ++ map calls_of (closed s.open_batch)

-- an event more, with its Read if it is one
abbrev pub noted : BatchingState → Option Reading → BatchingState
noted s None = record { open_batch = []; made = ended s }
noted s (Some r) = if goes_on s.open_batch r then record { open_batch = s.open_batch ++ r ∷ []; made = s.made } else record { open_batch = r ∷ []; made = ended s }

abbrev pub noted_all : BatchingState → List (Option Reading) → BatchingState
noted_all s [] = s
noted_all s (reading ∷ rest) = noted_all (noted s reading) rest

-- the events of a run, noted one by one
abbrev pub noted_run : RunState → BatchingState
noted_run run = noted_all no_batch (readings_from (start run.header) run.events)

-- Noting each event of a run gives the calls of its batches.
abbrev pub BatchesAreFound : Type 0
BatchesAreFound = (run : RunState) → ended (noted_run run) ≡ map calls_of (batches run)
