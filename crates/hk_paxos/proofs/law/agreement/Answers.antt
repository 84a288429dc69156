use Rattle.hk_paxos.proofs.Events.{agreement}
use Rattle.hk_paxos.proofs.law.agreement.Goals as goal

pub returns : goal.returns
returns c = λ epoch managers events run. agreement managers epoch events run
