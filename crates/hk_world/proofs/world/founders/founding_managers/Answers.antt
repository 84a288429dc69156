use Rattle.std.proofs.Common.{◌∙◌}
use Rattle.hk_world.proofs.Founded.{managers_next, founder_view}
use Rattle.hk_world.proofs.world.founders.founding_managers.Goals as goal

pub new-requires-clause-view : goal.new-requires-clause-view
new-requires-clause-view c = founder_view c.args.header c.in_ok-view.view c.requires.header (c.in_ok-view.ensures ∙ c.requires.view)

pub loop-number-preserved : goal.loop-number-preserved
loop-number-preserved c = managers_next c.args.header c.loop-number.number c.in_ok-manager.manager c.in_ok-view.view _ _ (c.in_ok-view.ensures ∙ c.requires.view) c.in_ok-manager.ensures c.loop-number.invariant c.in_ok-push.ensures.items
