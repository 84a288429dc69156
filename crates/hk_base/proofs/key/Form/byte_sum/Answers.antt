use Rattle.std.proofs.Common.{◌∙◌}
use Rattle.hk_base.proofs.Sums.{short_sum}
use Rattle.hk_base.proofs.key.Form.byte_sum.Goals as goal

pub returns-in-Short : goal.returns-in-Short
returns-in-Short c = c.byte_sum.ensures ∙ short_sum _ _ _ c.in-Short.is c.requires
