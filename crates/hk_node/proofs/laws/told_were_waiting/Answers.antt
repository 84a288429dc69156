use Rattle.hk_node.proofs.Told.{told_were_waiting}
use Rattle.hk_node.proofs.InOrder.{told_in_order}
use Rattle.hk_node.proofs.laws.told_were_waiting.Goals as goal

pub returns : goal.returns
returns c = record {
  waited = told_were_waiting;
  order = told_in_order;
}
