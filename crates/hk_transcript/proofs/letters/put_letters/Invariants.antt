-- What is written, and then what is left from its number on, is the whole.
use Rattle.std.proofs.Common.{◌≡◌, ◌+◌, ◌++◌, drop}
use Rattle.hk_transcript.specs.Text.{sends_text}
use Rattle.hk_transcript.proofs.letters.put_letters.Given as goal

abbrev pub invariant-loop-place : goal.invariant-loop-place
invariant-loop-place l = l.out.items ++ sends_text l.event (l.first + l.place) (drop l.place l.letters) ≡ l.fn.out.items ++ sends_text l.event l.first l.letters
