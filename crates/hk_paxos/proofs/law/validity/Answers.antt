use Rattle.hk_paxos.proofs.Values.{validity}
use Rattle.hk_paxos.proofs.law.validity.Goals as goal

pub returns : goal.returns
returns c = validity
