use Rattle.hk_group.proofs.Views.{is_view}
use Rattle.hk_group.proofs.server.serve.Goals as goal

-- the first view of a group within its limits is a view
pub run-requires-clause-view : goal.run-requires-clause-view
run-requires-clause-view g c κs within = is_view c.args.group.now c.in-Ok.view c.requires c.in-Ok.ensures.exact
