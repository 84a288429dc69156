use Rattle.std.proofs.Common.{◌++◌, ◌∙◌, ap, sym}
use Rattle.std.proofs.lemmas.Fmt.{decimal_digit}
use Rattle.hk_reply.proofs.print.put_digit.Goals as goal

pub returns-clause-printed : goal.returns-clause-printed
returns-clause-printed c = c.in_ok-push.ensures.items ∙ ap (λ text. c.args.out.now.items ++ text) (sym (decimal_digit c.args.n c.requires))
