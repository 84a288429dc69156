use Rattle.hk_outside.proofs.Suited.{suited}
use Rattle.hk_outside.proofs.desk.act_suits.Goals as goal

pub returns : goal.returns
returns c = suited
