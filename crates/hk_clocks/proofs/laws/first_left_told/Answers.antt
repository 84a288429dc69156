use Rattle.hk_clocks.proofs.Naming.{first_left_told}
use Rattle.hk_clocks.proofs.laws.first_left_told.Goals as goal

pub returns : goal.returns
returns c = λ skew low events all. first_left_told skew low events all
