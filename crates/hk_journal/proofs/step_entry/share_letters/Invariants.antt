use Rattle.std.proofs.Common.{◌≡◌, take}
use Rattle.hk_journal.proofs.step_entry.share_letters.Given as goal

-- those so far
abbrev pub invariant-loop-letter : goal.invariant-loop-letter
invariant-loop-letter l = l.same.items ≡ take l.letter-index l.letters
