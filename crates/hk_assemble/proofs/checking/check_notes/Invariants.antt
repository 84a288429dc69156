-- The notes so far were told what their Reads were answered.
use Rattle.hk_assemble.specs.Checking.{AreRight}
use Rattle.hk_assemble.proofs.checking.check_notes.Given as goal

abbrev pub invariant-loop-listed : goal.invariant-loop-listed
invariant-loop-listed l = AreRight l.kept.entries l.notes l.listed
