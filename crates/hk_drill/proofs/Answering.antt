-- What a drill answers, in the words of the calls that follow and end a script.
use Rattle.std.proofs.Common.{◌≡◌, ℕ, List, Option, Some, None, Result, Ok, Err, IfOk, refl, subst, ◌∙◌}
use Rattle.std.specs.Prelude.{⊤}
use Rattle.std.specs.Io.KnownBytes.{Appends}
use Rattle.hk_outside.specs.declared.status.Status.{Status}
use Rattle.hk_outside.specs.declared.status.Status.TheVariants.{Done, Memory, Usage, ReadFault, WriteFault, BadLine, TooLong, Gap, DoorFault, SpawnFault}
use Rattle.hk_safety.specs.Run.{RunsAreLegal}
use Rattle.hk_drill.specs.declared.stop.Stop.{Stop}
use Rattle.hk_drill.specs.declared.stop.Stop.TheVariants.{Bad, Long, Lines, Letters}
use Rattle.hk_drill.specs.declared.fault.Fault.{Fault}
use Rattle.hk_drill.specs.Transcript.{DrillState, status_of, stop_text, followed, written, transcript}
use Rattle.hk_drill.specs.Progress.{HasFront, ending}
use Rattle.hk_drill.specs.Drilled.{IsFront, HasGone, IsDrilled}
use Rattle.hk_drill.proofs.Drilling.{drilled_ending, drilled_stop, front_ending, front_stop}

-- ---- the end
module _ (l l' : Option (List ℕ)) (g g' : Option (List (List ℕ))) (h h1 h' : Option (List ℕ)) (part : List ℕ) (n : ℕ) (state : Option DrillState) where
  pub ending_drilled : RunsAreLegal → HasGone None l l' g g' h h1 n part state → (r : Result Status Fault) → IfOk r (λ status. Appends h1 h' (ending n part state).text)
      → IfOk r (λ status. status ≡ (ending n part state).status) → IfOk r (λ status. IsDrilled status l l' g g' h h')
  ending_drilled legal gone (Ok status) put is =
      drilled_ending legal l l' g g' h h1 h' status gone.come.read gone.come.told part n state gone.come.came (gone.ended refl) gone.come.put gone.come.after put is
  ending_drilled legal gone (Err fault) put is = tt

  pub ending_front : HasGone None l l' g g' h h1 n part state → HasFront h1 h' (ending n part state).text → IsFront l l' g g' h h'
  ending_front gone front =
      front_ending l l' g g' h h1 h' gone.come.read gone.come.told part n state gone.come.came (gone.ended refl) gone.come.put gone.come.after front

  pub stop_drilled : RunsAreLegal → (s : Stop) → HasGone (Some s) l l' g g' h h1 n part state → (r : Result Status Fault) → IfOk r (λ status. Appends h1 h' (stop_text n s))
      → IfOk r (λ status. status ≡ status_of s) → IfOk r (λ status. IsDrilled status l l' g g' h h')
  stop_drilled legal s gone (Ok status) put is =
      drilled_stop legal l l' g g' h h1 h' status s gone.come.read gone.come.told n gone.come.came gone.come.put gone.come.after put is
  stop_drilled legal s gone (Err fault) put is = tt

  pub stop_front : (s : Stop) → HasGone (Some s) l l' g g' h h1 n part state → HasFront h1 h' (stop_text n s) → IsFront l l' g g' h h'
  stop_front s gone front = front_stop l l' g g' h h1 h' s gone.come.read gone.come.told n gone.come.came gone.come.put gone.come.after front

-- ---- what statuses a transcript has
abbrev pub IsTold : Status → Type 0
IsTold Done = ⊤
IsTold Memory = ⊥
IsTold Usage = ⊥
IsTold ReadFault = ⊥
IsTold WriteFault = ⊥
IsTold BadLine = ⊤
IsTold TooLong = ⊤
IsTold Gap = ⊥
IsTold DoorFault = ⊥
IsTold SpawnFault = ⊥

stop_told : (stop : Stop) → IsTold (status_of stop)
stop_told Bad = tt
stop_told Long = tt
stop_told Lines = tt
stop_told Letters = tt

written_told : (text : List ℕ) (stop : Option (ℕ × Stop)) (state : Option DrillState) → IsTold (written text stop state).status
written_told text None state = tt
written_told text (Some stop) state = stop_told stop.1

pub transcript_told : (bytes : List ℕ) → IsTold (transcript bytes).status
unfolding transcript
transcript_told bytes = written_told (followed bytes).text (followed bytes).stop (followed bytes).state

pub drilled_told : (status other : Status) (l l' : Option (List ℕ)) (g g' : Option (List (List ℕ))) (h h' : Option (List ℕ)) → IsDrilled status l l' g g' h h' → status ≡ other → IsTold other
drilled_told status other l l' g g' h h' is e = subst IsTold (is.stopped.status ∙ e) (transcript_told is.stopped.read)
