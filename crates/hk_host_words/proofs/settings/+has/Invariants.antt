use Rattle.std.proofs.Common.{length}
use Rattle.hk_host_words.proofs.settings.+has.Given as goal

abbrev pub decreases-has : goal.decreases-has
decreases-has l = length l.typed.now
