use Rattle.hk_sent.proofs.Nodes.{nodes_send}
use Rattle.hk_sent.proofs.Managers.{managers_send}
use Rattle.hk_sent.proofs.Nodes.{sent_is_in_range}
use Rattle.hk_sent.proofs.laws.steps_send_in_range.Goals as goal

pub returns-clause-nodes : goal.returns-clause-nodes
returns-clause-nodes c = nodes_send c.steps_keep_nodes.ensures.letters

pub returns-clause-managers : goal.returns-clause-managers
returns-clause-managers c = managers_send c.steps_keep_managers.ensures.letters

pub returns-clause-whole : goal.returns-clause-whole
returns-clause-whole c = sent_is_in_range c.letters_fit.ensures
