use Rattle.std.proofs.Common.{refl}
use Rattle.hk_node.specs.Stepped.{idle}
use Rattle.hk_node.proofs.Outs.{out_of_still}
use Rattle.hk_node.proofs.node.Node.idle.Goals as goal

pub returns : goal.returns
returns c = out_of_still c.args.self.now (idle c.args.self.now) c.replaces.result c.replaces.ensures.node refl c.replaces.ensures.letters c.replaces.ensures.replies
    c.replaces.ensures.installed c.replaces.ensures.undo c.replaces.ensures.report
