use Rattle.hk_world.proofs.Soundness.{step_sound}
use Rattle.hk_world.proofs.Starting.{start_sound}
use Rattle.hk_world.proofs.laws.worlds_stay_sound.Goals as goal

pub returns-clause-start : goal.returns-clause-start
returns-clause-start c = start_sound

pub returns-clause-step : goal.returns-clause-step
returns-clause-step c = step_sound (c.steps_keep_nodes.ensures.node, c.steps_keep_nodes.ensures.letters) (c.steps_keep_managers.ensures.manager, c.steps_keep_managers.ensures.letters)
