use Rattle.hk_stage.proofs.Two.{never_two, all_founded}
use Rattle.hk_stage.proofs.laws.two_foundings_never_open.Goals as goal

pub returns-clause-two : goal.returns-clause-two
returns-clause-two c = never_two

pub returns-clause-all : goal.returns-clause-all
returns-clause-all c = all_founded
