use Rattle.std.proofs.Common.{subst, sym}
use Rattle.std.specs.Prelude.{Result}
use Rattle.hk_history.specs.declared.fault.CheckFault.{CheckFault}
use Rattle.hk_history.specs.declared.fault.Rule.TheVariants.{Lacking}
use Rattle.hk_history.specs.Rulings.{RuleGives}
use Rattle.hk_history.proofs.Ruled.{lacking_gives}
use Rattle.hk_history.proofs.case.Case.check_lacking.Goals as goal

pub returns : goal.returns
returns c = subst (λ (r : Result (Unit {0}) CheckFault). RuleGives Lacking r c.args.self.now.items.now c.args.self.now.order.now) (sym c.at_one.ensures) (lacking_gives c.args.self.now.items.now c.args.self.now.order.now c.least_lacking.result c.least_lacking.ensures)
