use Rattle.hk_clocks.proofs.Running.{run_paced}
use Rattle.hk_clocks.proofs.laws.run_paced.Goals as goal

pub returns : goal.returns
returns c = λ skew low events all. run_paced skew low events all
