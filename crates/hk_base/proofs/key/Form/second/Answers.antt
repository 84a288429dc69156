use Rattle.std.proofs.Common.{◌∙◌, ap, rules}
use Rattle.hk_base.specs.KeyForm.{in_key}
use Rattle.hk_base.proofs.Words.{kept_word}
use Rattle.hk_base.proofs.key.Form.second.Goals as goal

pub returns-in-Short : goal.returns-in-Short
returns-in-Short c = c.word.ensures ∙ kept_word 7 _ _ (ap in_key c.in-Short.is) c.requires (search rules)

pub returns-in-Long : goal.returns-in-Long
returns-in-Long c = c.word-in-Long.ensures ∙ kept_word 7 _ _ (ap in_key c.in-Long.is) c.requires (search rules)
