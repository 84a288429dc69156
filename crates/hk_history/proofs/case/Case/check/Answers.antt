-- Each check that fails tells the first breach, since those before it passed.
use Rattle.std.proofs.Common.{◌≡◌, sym, subst, Result, Err, rules}
use Rattle.hk_history.specs.declared.fault.CheckFault.{CheckFault}
use Rattle.hk_history.specs.declared.fault.Rule.TheVariants.{Twice, Void, Lacking, Early}
use Rattle.hk_history.specs.Breach.{IsChecked}
use Rattle.hk_history.proofs.Verdict.{rule_breach, keeps_below_1, keeps_below_2, keeps_below_3, keeps_below_4, verdict}
use Rattle.hk_history.proofs.case.Case.check.Goals as goal

pub returns-in_err-check_twice : goal.returns-in_err-check_twice
returns-in_err-check_twice c =
    let told : c.from_residual-in_err-check_twice.result ≡ Err c.in_err-check_twice.field-0.0 = search rules in
    subst (λ (r : Result (Unit {0}) CheckFault). IsChecked r c.args.self.now.items.now c.args.self.now.order.now) (sym told)
    (rule_breach Twice c.args.self.now.items.now c.args.self.now.order.now c.in_err-check_twice.field-0.0 c.in_err-check_twice.ensures (keeps_below_1 c.args.self.now.items.now c.args.self.now.order.now c.in_ok-check_strangers.ensures))

pub returns-in_err-check_void : goal.returns-in_err-check_void
returns-in_err-check_void c =
    let told : c.from_residual-in_err-check_void.result ≡ Err c.in_err-check_void.field-0.0 = search rules in
    subst (λ (r : Result (Unit {0}) CheckFault). IsChecked r c.args.self.now.items.now c.args.self.now.order.now) (sym told)
    (rule_breach Void c.args.self.now.items.now c.args.self.now.order.now c.in_err-check_void.field-0.0 c.in_err-check_void.ensures (keeps_below_2 c.args.self.now.items.now c.args.self.now.order.now c.in_ok-check_strangers.ensures c.in_ok-check_twice.ensures))

pub returns-in_err-check_lacking : goal.returns-in_err-check_lacking
returns-in_err-check_lacking c =
    let told : c.from_residual-in_err-check_lacking.result ≡ Err c.in_err-check_lacking.field-0.0 = search rules in
    subst (λ (r : Result (Unit {0}) CheckFault). IsChecked r c.args.self.now.items.now c.args.self.now.order.now) (sym told)
    (rule_breach Lacking c.args.self.now.items.now c.args.self.now.order.now c.in_err-check_lacking.field-0.0 c.in_err-check_lacking.ensures (keeps_below_3 c.args.self.now.items.now c.args.self.now.order.now c.in_ok-check_strangers.ensures c.in_ok-check_twice.ensures c.in_ok-check_void.ensures))

pub returns-in_err-check_early : goal.returns-in_err-check_early
returns-in_err-check_early c =
    let told : c.from_residual-in_err-check_early.result ≡ Err c.in_err-check_early.field-0.0 = search rules in
    subst (λ (r : Result (Unit {0}) CheckFault). IsChecked r c.args.self.now.items.now c.args.self.now.order.now) (sym told)
    (rule_breach Early c.args.self.now.items.now c.args.self.now.order.now c.in_err-check_early.field-0.0 c.in_err-check_early.ensures (keeps_below_4 c.args.self.now.items.now c.args.self.now.order.now c.in_ok-check_strangers.ensures c.in_ok-check_twice.ensures c.in_ok-check_void.ensures c.in_ok-check_lacking.ensures))

pub returns : goal.returns
returns c = verdict c.args.self.now.items.now c.args.self.now.order.now c.check_fold.result c.in_ok-check_strangers.ensures c.in_ok-check_twice.ensures c.in_ok-check_void.ensures c.in_ok-check_lacking.ensures c.in_ok-check_early.ensures c.check_fold.ensures
