-- When an order of the calls of all keys is legal: strict serializability, where each call is a transaction on one key, and a batch of reads sees one moment.
use Rattle.std.specs.Prelude.{◌≡◌, ℕ, List, [], ◌∷◌, ◌++◌, map, Option, None, Some, Result, Ok, Err, unwrap_or, if◌then◌else◌, ⊤, MatchOption}
use Rattle.hk_base.specs.declared.call.CallNo.{CallNo}
use Rattle.hk_base.specs.Register.{Register, first, act}
use Rattle.hk_history.specs.declared.event.Event.{Event as HistoryEvent}
use Rattle.hk_history.specs.declared.event.Event.TheVariants as HistoryEvent
use Rattle.hk_history.specs.History.{op_of, answer_of, Before}
use Rattle.hk_history.specs.Legal.{FitsCall, Timely, is_entry}
use Rattle.hk_register.specs.Machine.{In}
use Rattle.hk_register.specs.Printed.{entry_of}
use Rattle.hk_event.specs.declared.event.Event.{Event}
use Rattle.hk_event.specs.declared.event.Event.TheVariants.{Call}
use Rattle.hk_event.specs.declared.refused.Refused.{Refused}
use Rattle.hk_world.specs.World.{WorldState}
use Rattle.hk_world.specs.Start.{start}
use Rattle.hk_world.specs.Steps.{Accepted, world_step}
use Rattle.hk_effects.specs.Projection.{is_same_key}
use Rattle.hk_safety.specs.Run.{RunState, world_with, IsRun, printed}
use Rattle.hk_safety.specs.Shows.{reply_line}
use Rattle.hk_joint.specs.Joint.{Standing, joint_order, entries_of, entries_at}
use Rattle.hk_joint.specs.declared.batch.Reading.{Reading}
use Rattle.hk_joint.specs.Batch.{batches}

-- ---- the history of all keys
abbrev pub call_lines : Event → Option CallNo → List HistoryEvent
call_lines (Call id key op) (Some call) = HistoryEvent.Call call op ∷ []
call_lines event call = []

-- an event shows its call, and then its replies
abbrev pub shown_lines : Event → Result Accepted Refused → List HistoryEvent
shown_lines event (Ok a) = call_lines event a.shown.call ++ map reply_line a.shown.replies
shown_lines event (Err refused) = []

abbrev pub lines_from : WorldState → List Event → List HistoryEvent
lines_from w [] = []
lines_from w (event ∷ events) = shown_lines event (world_step w event) ++ lines_from (world_with w (world_step w event)) events

-- the calls of all keys and their replies, the first one first
abbrev pub joint_history : RunState → List HistoryEvent
joint_history run = lines_from (start run.header) run.events

-- ---- one register for each key
abbrev pub Registers : Type 0
Registers = List ℕ → Register

abbrev pub fresh : Registers
fresh key = first

abbrev pub with_register : List ℕ → Register → Registers → Registers
with_register key register registers k = if is_same_key key k then register else registers k

-- the tag of a change, or none
abbrev pub tag_of : Standing → Option ℕ
tag_of s = (entry_of s.slot).tag

-- The operations, each acting on its key's register, give each answered call its answer.
abbrev pub FitsFrom : List HistoryEvent → Registers → List Standing → Type 0
FitsFrom history registers [] = ⊤
FitsFrom history registers (s ∷ order) = MatchOption (op_of history s.slot.call) ⊥ (λ op.
    FitsCall (answer_of history s.slot.call) (tag_of s) (act op (registers s.key) (unwrap_or (tag_of s) 0))
    × FitsFrom history (with_register s.key (act op (registers s.key) (unwrap_or (tag_of s) 0)).register registers) order)

-- ---- a batch sees one moment
-- between two of its calls no entry changes a register
abbrev pub IsTogether : List Standing → List Reading → Type 0
IsTogether order batch = (a b : Reading) → In batch a → In batch b → (s : Standing) → In order s →
    Before (is_entry a.call.0) (is_entry s.slot.call) (entries_of order) → Before (is_entry s.slot.call) (is_entry b.call.0) (entries_of order) → tag_of s ≡ None

-- JointLegal
pub record JointLegal (run : RunState) (order : List Standing) : Type 0 where
  pub fits : FitsFrom (joint_history run) fresh order
  pub keys : (key : List ℕ) → entries_at key order ≡ printed run key
  pub timely : Timely (joint_history run) (entries_of order)
  pub together : (batch : List Reading) → In (batches run) batch → IsTogether order batch

-- The joint order of every run is legal.
abbrev pub JointOrdersAreLegal : Type 0
JointOrdersAreLegal = (run : RunState) → IsRun run → JointLegal run (joint_order run)
