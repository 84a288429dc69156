use Rattle.std.proofs.Common.{◌∙◌, sym, rules}
use Rattle.hk_reply.proofs.Parts.{number_turn}
use Rattle.hk_reply.proofs.scan.number_from.Goals as goal

pub loop-byte-preserved : goal.loop-byte-preserved
loop-byte-preserved c = (c.in-Some-longer.ensures.within, c.loop-byte.invariant.1 ∙ number_turn c.args.limit c.loop-byte.n c.in-Some.byte.now c.in-Some-longer.more c.args.tail c.loop-byte.rest.now c.in-Some.others.now (search rules) (sym c.ends.ensures ∙ c.if-ends.false) (sym c.in-Some-longer.ensures.exact))
