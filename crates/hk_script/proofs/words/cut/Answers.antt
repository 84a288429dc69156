use Rattle.std.proofs.Common.{sym, subst}
use Rattle.hk_script.specs.Parts.{IsCut}
use Rattle.hk_script.proofs.Cuts.{cut_some, cut_none}
use Rattle.hk_script.proofs.words.cut.Goals as goal

pub returns-in_err-at : goal.returns-in_err-at
returns-in_err-at c = subst (λ r. IsCut r c.args.line.now) (sym c.from_residual.ensures) (cut_none c.args.line.now (sym c.in_err-at.ensures))

pub returns : goal.returns
returns c = rw (c.split_at.ensures.front, c.split_at-2.ensures.back) (cut_some c.args.line.now c.in_ok-at.at (sym c.in_ok-at.ensures))
