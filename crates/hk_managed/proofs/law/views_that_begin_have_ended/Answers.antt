use Rattle.hk_managed.proofs.Running.{guarded, earned, views_stay}
use Rattle.hk_managed.proofs.law.views_that_begin_have_ended.Goals as goal

pub returns-clause-moment : goal.returns-clause-moment
returns-clause-moment c = guarded c.managers_agree.ensures c.worlds_stay_sound.ensures.start c.worlds_stay_sound.ensures.step

pub returns-clause-ever : goal.returns-clause-ever
returns-clause-ever c = earned c.managers_agree.ensures c.worlds_stay_sound.ensures.start c.worlds_stay_sound.ensures.step

pub returns-clause-learned : goal.returns-clause-learned
returns-clause-learned c = views_stay c.managers_agree.ensures c.worlds_stay_sound.ensures.start c.worlds_stay_sound.ensures.step
