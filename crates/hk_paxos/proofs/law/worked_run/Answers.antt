use Rattle.hk_paxos.proofs.Worked.{overtaken}
use Rattle.hk_paxos.proofs.law.worked_run.Goals as goal

pub returns : goal.returns
returns c = overtaken
