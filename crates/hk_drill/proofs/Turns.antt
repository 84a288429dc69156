-- One turn of a drill, in the words of its calls.
use Rattle.std.proofs.Common.{◌≡◌, ℕ, zero, suc, ◌<◌, ◌++◌, List, take, length, Option, Some, None, Ok, is_some, true, false, refl, sym, ap, ◌∙◌, arith}
use Rattle.std.proofs.lemmas.Bool.{false≢true}
use Rattle.std.specs.Io.KnownBytes.{Appends, Consumes, IsAtEnd}
use Rattle.hk_outside.specs.Records.{RecordsRead}
use Rattle.hk_drill.specs.declared.stop.Stop.{Stop}
use Rattle.hk_drill.specs.Transcript.{DrillState}
use Rattle.hk_drill.specs.Progress.{IsAt, IsAfter}
use Rattle.hk_drill.specs.Drilled.{HasGone}
use Rattle.hk_drill.proofs.Drilling.{Turning, read_end, come_on}

module _ (E : Type 0) (turn : ℕ) (l l1 l2 : Option (List ℕ)) (g g1 g2 : Option (List (List ℕ))) (h h1 : Option (List ℕ)) (n : ℕ) (part : List ℕ) (state : Option DrillState) (text : List ℕ)
    (is : Turning turn l l1 g g1 h h1 n part state text) (room : List ℕ) where
  -- a read that gave no byte told the end
  pub end_read : (count : ℕ) → count ≡ 0 → 0 < length room → Consumes l1 l2 (take count room) × (count ≡ 0 → 0 < length room → IsAtEnd l2) → RecordsRead {E = E} g1 g2 (Ok count) room
      → HasGone None l l2 g g2 h h1 n part state
  end_read zero none some bytes recorded = read_end E turn l l1 l2 g g1 g2 h h1 n part state text is room bytes.0 (bytes.1 refl some) recorded
  end_read (suc k) none some bytes recorded = absurd (omega (arith, none))

  -- what a line at which the script stops leaves is written
  pub stop_come : (count : ℕ) → Consumes l1 l2 (take count room) → RecordsRead {E = E} g1 g2 (Ok count) room → (stop : Option Stop) (n' : ℕ) (part' : List ℕ) (state' : Option DrillState) (text' : List ℕ)
      → ((read out : List ℕ) → IsAt read (out ++ text) n part state → IsAfter stop (read ++ take count room) (out ++ text') n' part' state')
      → (h2 : Option (List ℕ)) → is_some stop ≡ true → Appends h1 h2 text' → HasGone stop l l2 g g2 h h2 n' part' state'
  stop_come count consumed recorded stop n' part' state' text' fed h2 some put = record {
    come = come_on E turn l l1 l2 g g1 g2 h h1 n part state text is room count consumed recorded stop n' part' state' text' fed h2 put;
    ended = λ none. absurd (false≢true (sym (ap is_some none) ∙ some));
  }

pub none_of_no : (stop : Option Stop) → is_some stop ≡ false → stop ≡ None
none_of_no None e = refl
none_of_no (Some s) e = absurd (false≢true (sym e))
