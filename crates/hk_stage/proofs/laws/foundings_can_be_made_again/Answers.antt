use Rattle.hk_stage.proofs.Again.{can_be_founded_anew}
use Rattle.hk_stage.proofs.laws.foundings_can_be_made_again.Goals as goal

pub returns : goal.returns
returns c = can_be_founded_anew
