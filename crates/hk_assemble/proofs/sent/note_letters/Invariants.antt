-- What is noted so far, and then what is left, gives the whole.
use Rattle.std.proofs.Common.{◌≡◌, ◌+◌, drop}
use Rattle.hk_assemble.specs.SentLetters.{with_letters}
use Rattle.hk_assemble.proofs.sent.note_letters.Given as goal

abbrev pub invariant-loop-place : goal.invariant-loop-place
invariant-loop-place l = with_letters l.sent.entries (l.first + l.place) l.ticket (drop l.place l.letters) ≡ with_letters l.fn.sent.entries l.first l.ticket l.letters
