use Rattle.hk_frame.proofs.Whole.{none_begins, one_letter}
use Rattle.hk_frame.proofs.frames_stand_apart.Goals as goal

pub returns-clause-apart : goal.returns-clause-apart
returns-clause-apart c = none_begins

pub returns-clause-one : goal.returns-clause-one
returns-clause-one c = one_letter
