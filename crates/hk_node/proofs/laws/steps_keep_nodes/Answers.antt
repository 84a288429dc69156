use Rattle.hk_node.proofs.KeepsMore.{step_keeps_node}
use Rattle.hk_node.proofs.Ranged.{letters_in_range}
use Rattle.hk_node.proofs.OneRow.{changes_one_row}
use Rattle.hk_node.proofs.Stamps.{stamps_never_fall}
use Rattle.hk_node.proofs.laws.steps_keep_nodes.Goals as goal

pub returns : goal.returns
returns c = record {
  node = step_keeps_node;
  letters = letters_in_range;
  one_row = changes_one_row;
  stamps = stamps_never_fall;
}
