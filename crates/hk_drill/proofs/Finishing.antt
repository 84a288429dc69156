-- What a script tells last, in the words of what was written of it.
use Rattle.std.proofs.Common.{◌≡◌, ℕ, List, [], ◌++◌, Option, Some, None, refl, sym}
use Rattle.std.specs.Io.KnownBytes.{Appends}
use Rattle.hk_drill.specs.declared.stop.Stop.{Stop}
use Rattle.hk_drill.specs.Transcript.{DrillState, stop_text, written_of}
use Rattle.hk_drill.specs.Progress.{HasFront, IsRest, further, ending}
use Rattle.hk_drill.proofs.Telling.{front_longer, front_same, front_behind, rest_text, rest_stop_text}

-- the text behind the rest was written in part
pub rest_front : (stop : Option Stop) (old new : Option (List ℕ)) (n m : ℕ) (part : List ℕ) (state next : Option DrillState) (before after : List ℕ) → before ≡ [] → IsRest stop n part state m next before after
    → HasFront old new after → HasFront old new (ending n part state).text
rest_front None old new n m part state next before after empty rest front =
    front_same old new (after ++ (written_of (further m next [])).text) (ending n part state).text (sym (rest_text None n m part state next before after refl empty rest))
    (front_longer old new after (written_of (further m next [])).text front)
rest_front (Some s) old new n m part state next before after empty rest front =
    front_same old new (after ++ stop_text m s) (ending n part state).text (sym (rest_stop_text (Some s) s n m part state next before after refl empty rest))
    (front_longer old new after (stop_text m s) front)

-- text was written, and then what comes behind it
module _ (old mid new : Option (List ℕ)) (whole after more : List ℕ) (same : whole ≡ after ++ more) (put : Appends old mid after) where
  pub more_front : HasFront mid new more → HasFront old new whole
  more_front front = front_same old new (after ++ more) whole (sym same) (front_behind old mid new after more put front)
