use Rattle.std.proofs.Common.{sym, ◌∙◌}
use Rattle.hk_told.specs.Kept.{asks_in}
use Rattle.hk_told.proofs.Apart.{fewer_without, fewer_unwanted, given_up_told, left_unwanted}
use Rattle.hk_told.proofs.asks.Asks.give_up.Goals as goal

pub returns-then-is_told-clause-left : goal.returns-then-is_told-clause-left
returns-then-is_told-clause-left c = c.forget.ensures.gone ∙ given_up_told (asks_in c.args.self.now c.args.call) (sym c.is_told.ensures ∙ c.if-is_told.true)

pub returns-then-is_told-clause-fewer : goal.returns-then-is_told-clause-fewer
returns-then-is_told-clause-fewer c = fewer_without c.args.call (asks_in c.args.self.now) (asks_in c.forget.new.self) (sym c.is_told.ensures ∙ c.if-is_told.true) c.forget.ensures.gone c.forget.ensures.others

pub returns-else-is_told-clause-left : goal.returns-else-is_told-clause-left
returns-else-is_told-clause-left c = (left_unwanted c.args.call c.args.self.now c.leave.new.self (c.leave.ensures.there, c.leave.ensures.nobody) (sym c.is_told.ensures ∙ c.if-is_told.false)).0

pub returns-else-is_told-clause-others : goal.returns-else-is_told-clause-others
returns-else-is_told-clause-others c = (left_unwanted c.args.call c.args.self.now c.leave.new.self (c.leave.ensures.there, c.leave.ensures.nobody) (sym c.is_told.ensures ∙ c.if-is_told.false)).1

pub returns-else-is_told-clause-fewer : goal.returns-else-is_told-clause-fewer
returns-else-is_told-clause-fewer c = fewer_unwanted c.args.call c.args.self.now c.leave.new.self (c.leave.ensures.there, c.leave.ensures.nobody)
