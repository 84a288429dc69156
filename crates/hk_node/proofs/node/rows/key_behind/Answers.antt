use Rattle.std.proofs.Common.{sym, ◌∙◌}
use Rattle.hk_node.proofs.Behind.{next_between}
use Rattle.hk_node.proofs.node.rows.key_behind.Goals as goal

pub returns-in-Some : goal.returns-in-Some
returns-in-Some c = next_between c.args.key.now c.args.rows.now.entries _ (sym (c.range.ensures.between tt) ∙ c.in-Some.ensures.steps)

pub returns-in-None : goal.returns-in-None
returns-in-None c = next_between c.args.key.now c.args.rows.now.entries _ (sym (c.range.ensures.between tt) ∙ c.in-None.ensures.steps.0)
