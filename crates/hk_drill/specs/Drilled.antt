-- What a drill leaves, by the bytes that it read and those that its sink held before it.
use Rattle.std.specs.Prelude.{◌≡◌, ℕ, List, [], ◌++◌, ◌⊎◌, Option, None, IfSome, ⊤}
use Rattle.std.specs.Io.KnownBytes.{Appends}
use Rattle.hk_outside.specs.Causes.{Rose}
use Rattle.hk_outside.specs.Records.{HasRead}
use Rattle.hk_outside.specs.declared.status.Status.{Status}
use Rattle.hk_outside.specs.declared.status.Status.TheVariants as Status
use Rattle.hk_safety.specs.Run.{AllLegal}
use Rattle.hk_drill.specs.declared.fault.Fault.{Fault}
use Rattle.hk_drill.specs.declared.fault.Fault.TheVariants.{Memory, Read, Write}
use Rattle.hk_drill.specs.declared.stop.Stop.{Stop}
use Rattle.hk_drill.specs.Transcript.{DrillState, transcript, followed, events_text}
use Rattle.hk_drill.specs.Progress.{AreLines, Came, HasCome}

-- the statuses with which a drill may end
abbrev pub EndsDrill : Status → Type 0
EndsDrill Status.Done = ⊤
EndsDrill Status.Memory = ⊤
EndsDrill Status.Usage = ⊥
EndsDrill Status.ReadFault = ⊤
EndsDrill Status.WriteFault = ⊤
EndsDrill Status.BadLine = ⊤
EndsDrill Status.TooLong = ⊤
EndsDrill Status.Gap = ⊥
EndsDrill Status.DoorFault = ⊥
EndsDrill Status.SpawnFault = ⊥

-- In what follows `left` and `given` are what the source tells that it has left and what it records that it gave, and `held` is what the sink
-- tells that it holds; each before the drill, and with a mark behind it.

-- The source was read to its end, this is the status of the transcript of what was read, and its text was written, whole; and what the text
-- says of each key is legal.
pub record IsDone (told : Status) (left left' : Option (List ℕ)) (given given' : Option (List (List ℕ))) (held held' : Option (List ℕ)) : Type 0 where
  pub input : List ℕ
  pub read : HasRead left left' given given' input
  pub status : (transcript input).status ≡ told
  pub legal : IfSome (followed input).state (λ state. AllLegal state.run)
  pub text : Appends held held' (transcript input).text

-- what may still come behind bytes that were read: nothing, where they are all
abbrev pub MayFollow : Option (List ℕ) → Option (List ℕ) → Option (List (List ℕ)) → Option (List (List ℕ)) → List ℕ → List ℕ → Type 0
MayFollow left left' given given' read more = HasRead left left' given given' read → more ≡ []

-- The bytes that were read decide the transcript, whatever may still come: this is its status, and its text was written, whole; and what the
-- text says of each key is legal.
pub record IsStopped (told : Status) (left left' : Option (List ℕ)) (given given' : Option (List (List ℕ))) (held held' : Option (List ℕ)) : Type 0 where
  pub read : List ℕ
  pub came : Came left left' given given' read
  pub decided : (more : List ℕ) → MayFollow left left' given given' read more → transcript (read ++ more) ≡ transcript read
  pub status : (transcript read).status ≡ told
  pub legal : IfSome (followed read).state (λ state. AllLegal state.run)
  pub text : Appends held held' (transcript read).text

-- what was written is a front of the text of the transcript, whatever may still come behind what was read
pub record IsFront (left left' : Option (List ℕ)) (given given' : Option (List (List ℕ))) (held held' : Option (List ℕ)) : Type 0 where
  pub read : List ℕ
  pub front : List ℕ
  pub came : Came left left' given given' read
  pub begins : (more : List ℕ) → MayFollow left left' given given' read more → (rest : List ℕ) × ((transcript (read ++ more)).text ≡ front ++ rest)
  pub put : Appends held held' front

-- memory ran out; or the status is that of the transcript, whatever may still come behind what was read
abbrev pub IsExact : Status → Option (List ℕ) → Option (List ℕ) → Option (List (List ℕ)) → Option (List (List ℕ)) → Type 0
IsExact told left left' given given' = (told ≡ Status.Memory) ⊎
    ((read : List ℕ) × Came left left' given given' read × ((more : List ℕ) → MayFollow left left' given given' read more → (transcript (read ++ more)).status ≡ told))

-- Some bytes were read, and what was written is what the lines tell whose feed is among them.
pub record HasTold (left left' : Option (List ℕ)) (given given' : Option (List (List ℕ))) (held held' : Option (List ℕ)) : Type 0 where
  pub read : List ℕ
  pub lines : List (List ℕ)
  pub part : List ℕ
  pub came : Came left left' given given' read
  pub cut : AreLines read lines part
  pub told : Appends held held' (events_text lines)

-- ---- how a drill comes to its end
-- a script was followed to the end of its source, with nothing left to write, or to the line at which it stops
pub record HasGone (stop : Option Stop) (left left' : Option (List ℕ)) (given given' : Option (List (List ℕ))) (held held' : Option (List ℕ)) (n : ℕ) (part : List ℕ) (state : Option DrillState) : Type 0 where
  pub come : HasCome stop left left' given given' held held' n part state
  pub ended : stop ≡ None → HasRead left left' given given' come.read

-- a drill that found its transcript: it is done only where it read to the end
pub record IsDrilled (told : Status) (left left' : Option (List ℕ)) (given given' : Option (List (List ℕ))) (held held' : Option (List ℕ)) : Type 0 where
  pub stopped : IsStopped told left left' given given' held held'
  pub ended : told ≡ Status.Done → HasRead left left' given given' stopped.read
  pub ends : EndsDrill told

-- ---- faults
abbrev pub fault_status : Fault → Status
fault_status Memory = Status.Memory
fault_status Read = Status.ReadFault
fault_status Write = Status.WriteFault

-- what a fault of a call that only writes has to do with the sink's count: it rose, unless memory was wanting
abbrev pub IsSinkFault : ℕ → ℕ → Fault → Type 0
IsSinkFault before now Memory = ⊤
IsSinkFault before now Read = ⊥
IsSinkFault before now Write = Rose before now
