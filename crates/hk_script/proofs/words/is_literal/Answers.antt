use Rattle.std.proofs.Common.{rules, sym, ◌∙◌}
use Rattle.hk_script.proofs.Literal.{literal_read}
use Rattle.hk_script.proofs.words.is_literal.Goals as goal

pub returns : goal.returns
returns c = λ plain. literal_read c.args.word.now (search rules) (search rules) (sym c.all_plain.ensures ∙ plain)
