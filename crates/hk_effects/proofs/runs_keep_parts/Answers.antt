use Rattle.hk_effects.proofs.Ending.{runs_kept}
use Rattle.hk_effects.proofs.runs_keep_parts.Goals as goal

pub returns : goal.returns
returns c = runs_kept c.event_is_effects.ensures c.worlds_stay_sound.ensures.step c.worlds_stay_sound.ensures.start c.managers_of_worlds_agree.ensures c.views_that_begin_have_ended.ensures.ever
