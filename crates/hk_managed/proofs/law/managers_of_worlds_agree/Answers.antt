use Rattle.hk_managed.proofs.Running.{all_agree}
use Rattle.hk_managed.proofs.law.managers_of_worlds_agree.Goals as goal

pub returns : goal.returns
returns c = all_agree c.managers_agree.ensures c.worlds_stay_sound.ensures.start c.worlds_stay_sound.ensures.step
