use Rattle.std.proofs.Common.{◌∙◌}
use Rattle.hk_world.proofs.Founded.{founders_next, founder_view, founder_member}
use Rattle.hk_world.proofs.world.founders.founders.Goals as goal

pub founder-requires-clause-view : goal.founder-requires-clause-view
founder-requires-clause-view c = founder_view c.args.header c.in_ok-view.view c.requires.header (c.in_ok-view.ensures ∙ c.requires.view)

pub founder-requires-clause-member : goal.founder-requires-clause-member
founder-requires-clause-member c = founder_member c.args.header c.in_ok-view.view c.loop-number.number c.from.result (c.in_ok-view.ensures ∙ c.requires.view) c.from.ensures c.loop-number-test.true

pub loop-number-preserved : goal.loop-number-preserved
loop-number-preserved c = founders_next c.args.header c.loop-number.number c.from.result c.in_ok-node.node c.in_ok-view.view _ _ c.from.ensures (c.in_ok-view.ensures ∙ c.requires.view) c.in_ok-node.ensures c.loop-number.invariant c.in_ok-put_in.ensures.ok
