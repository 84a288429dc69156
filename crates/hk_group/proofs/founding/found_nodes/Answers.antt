use Rattle.hk_group.proofs.Naming.{placed_more, are_named}
use Rattle.hk_group.proofs.founding.found_nodes.Goals as goal

pub loop-number-preserved : goal.loop-number-preserved
loop-number-preserved g c = placed_more c.loop-number.number _ _ c.in_ok-node.node c.loop-number.invariant.0 c.in_ok-node.ensures.node c.loop-number.invariant.1 c.in_ok-push.ensures.items

pub returns-clause-named : goal.returns-clause-named
returns-clause-named g c = are_named _ _ c.loop-number.invariant.1
