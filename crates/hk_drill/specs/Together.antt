-- What the command `joint` writes of a script: where it went to its end, one order of the calls on all keys, the batches, and the end line; else the
-- stop line alone.
use Rattle.std.specs.Prelude.{◌≡◌, ℕ, List, [], ◌∷◌, ◌++◌, map, codes, decimal, Option, None, Some, IfSome}
use Rattle.std.specs.Io.KnownBytes.{Appends}
use Rattle.hk_base.specs.declared.call.CallNo.{CallNo}
use Rattle.hk_outside.specs.Records.{HasRead}
use Rattle.hk_outside.specs.declared.status.Status.{Status}
use Rattle.hk_outside.specs.declared.status.Status.TheVariants.{Done}
use Rattle.hk_history.specs.declared.event.Entry.{Entry}
use Rattle.hk_safety.specs.Run.{RunState}
use Rattle.hk_joint.specs.Joint.{joint_order, entries_of}
use Rattle.hk_joint.specs.Batch.{batches, calls_of}
use Rattle.hk_joint.specs.Legal.{JointLegal}
use Rattle.hk_drill.specs.declared.stop.Stop.{Stop}
use Rattle.hk_drill.specs.Keys.{order_text}
use Rattle.hk_drill.specs.Transcript.{DrillState, Outcome, Transcript, stop_text, counts_text, written_of, followed}
use Rattle.hk_drill.specs.Progress.{Came}
use Rattle.hk_drill.specs.Drilled.{MayFollow, EndsDrill}

-- ---- the text
abbrev pub batch_text : List CallNo → List ℕ
batch_text [] = []
batch_text (call ∷ calls) = (codes " " ++ decimal call.0) ++ batch_text calls

-- a batch by its calls
unfoldable pub together_line : List CallNo → List ℕ
together_line calls = codes "together" ++ batch_text calls ++ codes "\n"

abbrev pub together_text : List (List CallNo) → List ℕ
together_text [] = []
together_text (batch ∷ batches) = together_line batch ++ together_text batches

unfoldable pub joined_text : List Entry → List (List CallNo) → List ℕ
joined_text order batches = codes "joint" ++ order_text order ++ codes "\n" ++ together_text batches

-- the entries of the joint order, each with its tag if it is a change, and a line for each batch
abbrev pub joint_lines : RunState → List ℕ
joint_lines run = joined_text (entries_of (joint_order run)) (map calls_of (batches run))

unfoldable pub joint_text : DrillState → List ℕ
joint_text c = joint_lines c.run ++ counts_text c

-- ---- a whole script
abbrev pub joint_last : Option DrillState → List ℕ
joint_last None = []
joint_last (Some c) = joint_text c

abbrev pub joint_told : Option (ℕ × Stop) → Option DrillState → List ℕ
joint_told None state = joint_last state
joint_told (Some stop) state = stop_text stop.0 stop.1

-- the status is the transcript's
abbrev pub joint_of : Outcome → Transcript
joint_of f = record { status = (written_of f).status; text = joint_told f.stop f.state }

unfoldable pub joint_transcript : List ℕ → Transcript
joint_transcript bytes = joint_of (followed bytes)

-- ---- what the command leaves
-- In what follows `left` and `given` are what the source tells that it has left and what it records that it gave, and `held` is what the sink
-- tells that it holds; each before the call, and with a mark behind it.

-- the joint order of the run that was followed is legal
abbrev pub IsJointLegal : Option DrillState → Type 0
IsJointLegal state = IfSome state (λ c. JointLegal c.run (joint_order c.run))

-- The source was read to its end, which no line kept from being followed; what was written is the joint order of the run of what was read, which is legal, its batches and the end
-- line.
pub record IsJointDone (left left' : Option (List ℕ)) (given given' : Option (List (List ℕ))) (held held' : Option (List ℕ)) : Type 0 where
  pub input : List ℕ
  pub read : HasRead left left' given given' input
  pub status : (joint_transcript input).status ≡ Done
  pub legal : IsJointLegal (followed input).state
  pub text : Appends held held' (joint_transcript input).text

-- The bytes that were read decide what is written, whatever may still come: this is the status, and the text was written, whole.
pub record IsJointTold (told : Status) (left left' : Option (List ℕ)) (given given' : Option (List (List ℕ))) (held held' : Option (List ℕ)) : Type 0 where
  pub read : List ℕ
  pub came : Came left left' given given' read
  pub decided : (more : List ℕ) → MayFollow left left' given given' read more → joint_transcript (read ++ more) ≡ joint_transcript read
  pub status : (joint_transcript read).status ≡ told
  pub legal : IsJointLegal (followed read).state
  pub text : Appends held held' (joint_transcript read).text

-- what was written is a front of the text, whatever may still come behind what was read
pub record IsJointFront (left left' : Option (List ℕ)) (given given' : Option (List (List ℕ))) (held held' : Option (List ℕ)) : Type 0 where
  pub read : List ℕ
  pub front : List ℕ
  pub came : Came left left' given given' read
  pub begins : (more : List ℕ) → MayFollow left left' given given' read more → (rest : List ℕ) × ((joint_transcript (read ++ more)).text ≡ front ++ rest)
  pub put : Appends held held' front

-- ---- how it comes to its end
-- it is done only where it read to the end
pub record IsJoined (told : Status) (left left' : Option (List ℕ)) (given given' : Option (List (List ℕ))) (held held' : Option (List ℕ)) : Type 0 where
  pub whole : IsJointTold told left left' given given' held held'
  pub ended : told ≡ Done → HasRead left left' given given' whole.read
  pub ends : EndsDrill told
