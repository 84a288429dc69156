use Rattle.hk_managed.proofs.Working.{worked_run}
use Rattle.hk_managed.proofs.law.a_view_begins_without_a_node.Goals as goal

pub returns : goal.returns
returns c = worked_run
