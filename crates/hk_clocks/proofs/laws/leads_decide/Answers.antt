use Rattle.hk_clocks.proofs.Deciding.{decide}
use Rattle.hk_clocks.proofs.laws.leads_decide.Goals as goal

pub returns : goal.returns
returns c = λ skew at lead last rising ls a b. decide skew at lead last rising ls a b
