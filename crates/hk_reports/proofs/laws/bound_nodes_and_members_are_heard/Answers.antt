use Rattle.hk_reports.proofs.Known.{knows_bound_and_members, known_once}
use Rattle.hk_reports.proofs.laws.bound_nodes_and_members_are_heard.Goals as goal

pub returns-clause-just : goal.returns-clause-just
returns-clause-just c = knows_bound_and_members

pub returns-clause-once : goal.returns-clause-once
returns-clause-once c = known_once
