use Rattle.std.proofs.Common.{refl, sym, ◌∙◌}
use Rattle.hk_history.proofs.Ruled.{early_none, early_both, early_some}
use Rattle.hk_history.proofs.case.Case.check_early.Goals as goal

pub returns-in_default : goal.returns-in_default
returns-in_default c = early_none c.args.self.now.items.now c.args.self.now.order.now c.requires.known (sym c.in_default.is ∙ c.least_overtaken.ensures)

pub unreachable-requires : goal.unreachable-requires
unreachable-requires c = early_both c.args.self.now.items.now c.args.self.now.order.now c.in-Some.first c.requires.history (sym c.in-Some.is ∙ c.least_overtaken.ensures) (sym c.in_default-least_overtaking.is ∙ c.least_overtaking.ensures)

pub returns : goal.returns
returns c =
    let e = early_some c.args.self.now.items.now c.args.self.now.order.now c.in-Some.first c.in-Some-least_overtaking.second c.requires.history c.requires.known
    (sym c.in-Some.is ∙ c.least_overtaken.ensures) (sym c.in-Some-least_overtaking.is ∙ c.least_overtaking.ensures) in
    (refl, e.0, e.1)
