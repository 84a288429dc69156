use Rattle.std.proofs.Common.{◌∙◌, rules}
use Rattle.hk_reply.proofs.Parts.{needs}
use Rattle.hk_reply.proofs.scan.literal.Goals as goal

pub returns-in_default : goal.returns-in_default
returns-in_default c = c.loop-wanted.invariant ∙ needs c.args.text.now c.loop-wanted.wanted-index c.loop-wanted.rest.now c.loop-wanted-test.true (search rules)
