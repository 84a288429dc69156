use Rattle.std.proofs.Common.{arith}
use Rattle.hk_world.proofs.Founded.{founder_view, founder_member}
use Rattle.hk_script.specs.Drawn.{group_of}
use Rattle.hk_storm.proofs.Concluding.{group_header}
use Rattle.hk_storm.proofs.founding.found_one.Goals as goal

pub founders-requires-clause-view : goal.founders-requires-clause-view
founders-requires-clause-view g c = founder_view (group_of c.args.nodes) c.args.view.now (group_header c.args.nodes (let below = c.requires.node in omega (arith, below)) c.requires.few) c.requires.view

pub founders-requires-clause-member : goal.founders-requires-clause-member
founders-requires-clause-member g c = founder_member (group_of c.args.nodes) c.args.view.now c.args.node c.from.result c.requires.view c.from.ensures c.requires.node
