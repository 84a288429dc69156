use Rattle.hk_managed.proofs.Pacing.{paced}
use Rattle.hk_managed.proofs.law.clocks_of_worlds_keep_the_rate.Goals as goal

pub returns : goal.returns
returns c = paced c.worlds_stay_sound.ensures.start c.worlds_stay_sound.ensures.step
