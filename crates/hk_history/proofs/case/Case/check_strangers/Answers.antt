use Rattle.std.proofs.Common.{subst, sym}
use Rattle.std.specs.Prelude.{Result}
use Rattle.hk_history.specs.declared.fault.CheckFault.{CheckFault}
use Rattle.hk_history.specs.declared.fault.Rule.TheVariants.{Stranger}
use Rattle.hk_history.specs.Rulings.{RuleGives}
use Rattle.hk_history.proofs.Ruled.{stranger_gives}
use Rattle.hk_history.proofs.case.Case.check_strangers.Goals as goal

pub returns : goal.returns
returns c = subst (λ (r : Result (Unit {0}) CheckFault). RuleGives Stranger r c.args.self.now.items.now c.args.self.now.order.now) (sym c.at_one.ensures) (stranger_gives c.args.self.now.items.now c.args.self.now.order.now c.least_stranger.result c.least_stranger.ensures)
