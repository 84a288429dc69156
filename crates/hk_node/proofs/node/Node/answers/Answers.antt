use Rattle.std.proofs.Common.{◌∙◌, refl}
use Rattle.hk_node.specs.Calls.{answers}
use Rattle.hk_node.proofs.Outs.{out_of_still}
use Rattle.hk_node.proofs.node.Node.answers.Goals as goal

pub returns : goal.returns
returns c = out_of_still c.args.self.now (answers c.args.self.now c.args.key.now c.args.call c.args.answer) c.tells.result c.tells.ensures.node refl
    (c.tells.ensures.letters ∙ c.new.ensures)
    (c.tells.ensures.replies ∙ c.one-told.ensures)
    c.tells.ensures.installed c.tells.ensures.undo c.tells.ensures.report
