use Rattle.std.proofs.Common.{rules}
use Rattle.hk_node.proofs.Finishing.{begin_kept, begin_put}
use Rattle.hk_node.proofs.node.Node.begin_first.Goals as goal

pub finish-requires-clause-node : goal.finish-requires-clause-node
finish-requires-clause-node c = begin_kept _ c.args.self.now c.in-Some.view c.args.key.now c.args.reply c.args.stamp c.args.kind c.args.content c.begin.new.self
    c.self.invariant.node c.self.view_is (search rules) c.requires.ready c.requires.within c.requires.later c.requires.leaves c.in_ok-out.ensures.row

pub finish-requires-clause-made : goal.finish-requires-clause-made
finish-requires-clause-made c = begin_put c.self.inside.id c.args.self.now c.in-Some.view c.args.key.now c.args.reply c.args.stamp c.args.kind c.args.content c.begin.new.self
    c.requires.later c.in_ok-out.ensures.row
