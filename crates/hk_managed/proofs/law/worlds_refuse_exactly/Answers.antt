use Rattle.hk_managed.proofs.Refusing.{refuse_exactly}
use Rattle.hk_managed.proofs.law.worlds_refuse_exactly.Goals as goal

pub returns : goal.returns
returns c = refuse_exactly c.worlds_stay_sound.ensures.start c.worlds_stay_sound.ensures.step
