use Rattle.std.proofs.Common.{length}
use Rattle.hk_host_words.proofs.settings.+check.Given as goal

abbrev pub decreases-check : goal.decreases-check
decreases-check l = length l.typed.now
