-- What the command `joint` writes of a script, by how far the script was followed.
use Rattle.std.proofs.Common.{◌≡◌, ℕ, List, [], ◌++◌, Option, Some, None, Result, Ok, Err, IfOk, inr, refl, sym, ap, subst, ◌∙◌, append-nil}
use Rattle.std.specs.Io.KnownBytes.{Appends}
use Rattle.hk_outside.specs.declared.status.Status.{Status}
use Rattle.hk_joint.specs.Joint.{joint_order}
use Rattle.hk_joint.specs.Legal.{JointLegal, JointOrdersAreLegal}
use Rattle.hk_drill.specs.declared.stop.Stop.{Stop}
use Rattle.hk_drill.specs.declared.fault.Fault.{Fault}
use Rattle.hk_drill.specs.Transcript.{DrillState, Outcome, Transcript, lines_of, behind, status_of, stop_text, followed, written, transcript}
use Rattle.hk_drill.specs.Progress.{HasFront, IsAt, HasStopped, IsRest, further}
use Rattle.hk_drill.specs.Drilled.{EndsDrill, IsFront, IsExact, HasGone}
use Rattle.hk_drill.specs.Together.{joint_told, joint_of, joint_transcript, IsJointFront, IsJoined}
use Rattle.hk_drill.proofs.Telling.{appends_none, behind_status}
use Rattle.hk_drill.proofs.Legality.{told_has}
use Rattle.hk_drill.proofs.Drilling.{end_is, status_ends, written_ends, not_done}
use Rattle.hk_drill.proofs.Answering.{IsTold, transcript_told}

-- ---- what is written, by what was followed
joint_is : (bytes : List ℕ) (f : Outcome) → followed bytes ≡ f → joint_transcript bytes ≡ joint_of f
unfolding joint_transcript
joint_is bytes f e = ap joint_of e

-- what the lines told has no part in it
joint_behind : (text : List ℕ) (f : Outcome) → joint_of (behind text f) ≡ joint_of f
joint_behind text f = ap (λ (s : Status). let t : Transcript = record { status = s; text = joint_told f.stop f.state } in t) (behind_status text f)

abbrev pub joint_stop_of : ℕ → Stop → Transcript
joint_stop_of n stop = record { status = status_of stop; text = stop_text n stop }

joint_stop : (f : Outcome) (n : ℕ) (stop : Stop) → f.stop ≡ Some (n, stop) → joint_of f ≡ joint_stop_of n stop
joint_stop f n stop e = ap (λ (s : Option (ℕ × Stop)). let t : Transcript = record { status = (written f.text s f.state).status; text = joint_told s f.state } in t) e

joint_end : (bytes told part : List ℕ) (n : ℕ) (state : Option DrillState) → IsAt bytes told n part state → joint_transcript bytes ≡ joint_of (further n state (lines_of part))
joint_end bytes told part n state at = joint_is bytes _ (end_is bytes told part n state at) ∙ joint_behind told (further n state (lines_of part))

joint_stopped : (bytes told : List ℕ) (n : ℕ) (stop : Stop) → HasStopped bytes told n stop → (more : List ℕ) → joint_transcript (bytes ++ more) ≡ joint_stop_of n stop
joint_stopped bytes told n stop stops more = joint_is (bytes ++ more) (followed (bytes ++ more)) refl ∙ joint_stop (followed (bytes ++ more)) n stop (stops more).1

joint_here : (bytes told : List ℕ) (n : ℕ) (stop : Stop) → HasStopped bytes told n stop → joint_transcript bytes ≡ joint_stop_of n stop
joint_here bytes told n stop stops = ap joint_transcript (sym (append-nil bytes)) ∙ joint_stopped bytes told n stop stops []

-- ---- the part of a last line
some_same : (a b : Stop) → ◌≡◌ {A = Option Stop} (Some a) (Some b) → a ≡ b
some_same a b p = cc

pub rest_joint : (stop : Option Stop) (n m : ℕ) (part : List ℕ) (state next : Option DrillState) (before after : List ℕ) → stop ≡ None → IsRest stop n part state m next before after
    → joint_of (further n state (lines_of part)) ≡ joint_of (further m next [])
rest_joint None n m part state next before after e rest = ap joint_of rest.2 ∙ joint_behind rest.0 (further m next [])
rest_joint (Some stop) n m part state next before after e rest = absurd (cc)

pub rest_joint_stop : (stop : Option Stop) (s : Stop) (n m : ℕ) (part : List ℕ) (state next : Option DrillState) (before after : List ℕ) → stop ≡ Some s → IsRest stop n part state m next before after
    → joint_of (further n state (lines_of part)) ≡ joint_stop_of m s
rest_joint_stop None s n m part state next before after e rest = absurd (cc)
rest_joint_stop (Some t) s n m part state next before after e rest =
    joint_stop (further n state (lines_of part)) n t rest.3 ∙ ap (λ (k : ℕ). joint_stop_of k t) (sym rest.1) ∙ ap (joint_stop_of m) (some_same t s e)

-- ---- the end
module _ (l l' k k' : Option (List ℕ)) (g g' : Option (List (List ℕ))) (h h' : Option (List ℕ)) (part : List ℕ) (n : ℕ) (state : Option DrillState) where
  pub ending_joined : JointOrdersAreLegal → HasGone None l l' g g' k k' n part state → (r : Result Status Fault) → IfOk r (λ status. Appends h h' (joint_of (further n state (lines_of part))).text)
      → IfOk r (λ status. status ≡ (joint_of (further n state (lines_of part))).status) → IfOk r (λ status. IsJoined status l l' g g' h h')
  ending_joined legal gone (Ok status) put is =
      let read = gone.come.read in
      let same = joint_end read gone.come.told part n state gone.come.after in
      record {
        whole = record {
          read = read;
          came = gone.come.came;
          decided = λ more may. ap (λ (m : List ℕ). joint_transcript (read ++ m)) (may (gone.ended refl)) ∙ ap joint_transcript (append-nil read);
          status = ap (λ t. t.status) same ∙ sym is;
          legal = told_has (λ run. JointLegal run (joint_order run)) legal read;
          text = subst (Appends h h') (sym (ap (λ t. t.text) same)) put;
        };
        ended = λ e. gone.ended refl;
        ends = subst EndsDrill (sym is) (written_ends (further n state (lines_of part)).text (further n state (lines_of part)).stop (further n state (lines_of part)).state);
      }
  ending_joined legal gone (Err fault) put is = tt

  pub ending_joint_front : HasGone None l l' g g' k k' n part state → HasFront h h' (joint_of (further n state (lines_of part))).text → IsJointFront l l' g g' h h'
  ending_joint_front gone front =
      let read = gone.come.read in
      record {
        read = read;
        front = front.front;
        came = gone.come.came;
        begins = λ more may. (
          front.rest,
          ap (λ (m : List ℕ). (joint_transcript (read ++ m)).text) (may (gone.ended refl)) ∙ ap (λ (r : List ℕ). (joint_transcript r).text) (append-nil read)
              ∙ ap (λ t. t.text) (joint_end read gone.come.told part n state gone.come.after) ∙ front.same,
        );
        put = front.put;
      }

  pub stop_joined : JointOrdersAreLegal → (s : Stop) → HasGone (Some s) l l' g g' k k' n part state → (r : Result Status Fault) → IfOk r (λ status. Appends h h' (stop_text n s))
      → IfOk r (λ status. status ≡ status_of s) → IfOk r (λ status. IsJoined status l l' g g' h h')
  stop_joined legal s gone (Ok status) put is =
      let read = gone.come.read in
      let same = joint_here read gone.come.told n s gone.come.after in
      record {
        whole = record {
          read = read;
          came = gone.come.came;
          decided = λ more may. joint_stopped read gone.come.told n s gone.come.after more ∙ sym same;
          status = ap (λ t. t.status) same ∙ sym is;
          legal = told_has (λ run. JointLegal run (joint_order run)) legal read;
          text = subst (Appends h h') (sym (ap (λ t. t.text) same)) put;
        };
        ended = λ e. absurd (not_done s (sym is ∙ e));
        ends = subst EndsDrill (sym is) (status_ends s);
      }
  stop_joined legal s gone (Err fault) put is = tt

  pub stop_joint_front : (s : Stop) → HasGone (Some s) l l' g g' k k' n part state → HasFront h h' (stop_text n s) → IsJointFront l l' g g' h h'
  stop_joint_front s gone front = record {
    read = gone.come.read;
    front = front.front;
    came = gone.come.came;
    begins = λ more may. (front.rest, ap (λ t. t.text) (joint_stopped gone.come.read gone.come.told n s gone.come.after more) ∙ front.same);
    put = front.put;
  }

-- nothing was written while the script was followed
pub untold_front : (l l' k k' : Option (List ℕ)) (g g' : Option (List (List ℕ))) (h : Option (List ℕ)) → IsFront l l' g g' k k' → IsJointFront l l' g g' h h
untold_front l l' k k' g g' h front = record {
  read = front.read;
  front = [];
  came = front.came;
  begins = λ more may. ((joint_transcript (front.read ++ more)).text, refl);
  put = appends_none h;
}

-- ---- what is answered
joint_status : (bytes : List ℕ) → (joint_transcript bytes).status ≡ (transcript bytes).status
unfolding joint_transcript transcript
joint_status bytes = refl

module _ (status : Status) (l l' : Option (List ℕ)) (g g' : Option (List (List ℕ))) (h h' : Option (List ℕ)) (is : IsJoined status l l' g g' h h') where
  pub joined_exact : IsExact status l l' g g'
  joined_exact = inr (
    is.whole.read,
    is.whole.came,
    λ more may. sym (joint_status (is.whole.read ++ more)) ∙ ap (λ t. t.status) (is.whole.decided more may) ∙ is.whole.status,
  )

  pub joined_told : (other : Status) → status ≡ other → IsTold other
  joined_told other e = subst IsTold (sym (joint_status is.whole.read) ∙ is.whole.status ∙ e) (transcript_told is.whole.read)
