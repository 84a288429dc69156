-- What is left rises from the last ticket on just where all rise.
use Rattle.std.proofs.Common.{◌≡◌, drop, None}
use Rattle.hk_assemble.specs.Rising.{rises_above}
use Rattle.hk_assemble.proofs.rising.rises.Given as goal

abbrev pub invariant-loop-entry : goal.invariant-loop-entry
invariant-loop-entry l = rises_above l.last (drop l.entry-index l.journal) ≡ rises_above None l.journal
