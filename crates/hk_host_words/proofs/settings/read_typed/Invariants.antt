use Rattle.std.proofs.Common.{length}
use Rattle.hk_host_words.specs.Reading.{texts, settings_of}
use Rattle.hk_host_words.proofs.Coming.{Come}
use Rattle.hk_host_words.proofs.settings.read_typed.Given as goal

abbrev pub invariant-loop-left : goal.invariant-loop-left
invariant-loop-left l = Come (texts l.words) (texts l.left) (settings_of l.typed.items)

abbrev pub decreases-loop-left : goal.decreases-loop-left
decreases-loop-left l = length l.left
