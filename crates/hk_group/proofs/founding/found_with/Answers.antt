use Rattle.hk_group.proofs.Views.{is_view, has_member}
use Rattle.hk_group.proofs.founding.found_with.Goals as goal

pub founders-requires-clause-view : goal.founders-requires-clause-view
founders-requires-clause-view g c = is_view c.args.group.now c.args.view.now c.requires.group c.requires.view

pub founders-requires-clause-member : goal.founders-requires-clause-member
founders-requires-clause-member g c = has_member c.args.group.now c.args.view.now c.args.number c.from.result c.requires.view c.from.ensures c.requires.number
