-- What a turn says of the register, `act` says.
use Rattle.std.proofs.Common.{Some, subst, sym, ap, ◌∙◌}
use Rattle.std.specs.Option.{option_copied, unwrap_or}
use Rattle.hk_base.specs.Register.{Acted}
use Rattle.hk_rmw.specs.declared.outcome.Turn.{Turn}
use Rattle.hk_rmw.specs.Turned.{acted_of}
use Rattle.hk_history.specs.Fold.{StepGives}
use Rattle.hk_history.specs.Folded.{register_in}
use Rattle.hk_history.proofs.Folds.{last_stays}
use Rattle.hk_history.proofs.folding.Folding.step.Goals as goal

pub returns-in-Ok-Change-clause-told : goal.returns-in-Ok-Change-clause-told
returns-in-Ok-Change-clause-told c =
    let P : Acted → Type 0 = λ done. StepGives c.args.self.now.last c.args.entry.now (option_copied c.args.given) done c.change.result in
    let newtag = unwrap_or c.args.entry.now.tag 0 in
    subst P (sym (ap (λ (t : Turn). acted_of t (register_in c.args.self.now) newtag) c.in-Ok-Change.field-0-is) ∙ c.in-Ok-Change.ensures newtag)
    (c.change.ensures.told (record { content = c.in-Ok-Change.content; tag = newtag }))

pub returns-in-Ok-Stay-clause-told : goal.returns-in-Ok-Stay-clause-told
returns-in-Ok-Stay-clause-told c =
    let P : Acted → Type 0 = λ done. StepGives c.args.self.now.last c.args.entry.now (option_copied c.args.given) done c.judged.result in
    let newtag = unwrap_or c.args.entry.now.tag 0 in
    subst P (sym (ap (λ (t : Turn). acted_of t (register_in c.args.self.now) newtag) c.in-Ok-Stay.field-0-is) ∙ c.in-Ok-Stay.ensures newtag) (c.judged.ensures (register_in c.args.self.now))

pub returns-in-Ok-Stay-clause-last : goal.returns-in-Ok-Stay-clause-last
returns-in-Ok-Stay-clause-last c = last_stays c.judged.result c.args.self.now.last c.args.entry.now (option_copied c.args.given) c.in-Ok-Stay.answer (register_in c.args.self.now) (c.judged.ensures (register_in c.args.self.now))
