use Rattle.std.proofs.Common.{sym, ◌∙◌}
use Rattle.hk_told.specs.Kept.{asks_in}
use Rattle.hk_told.proofs.Apart.{delivers_told, delivers_dropped, answered_left, answered_told}
use Rattle.hk_told.proofs.asks.Asks.deliver.Goals as goal

pub returns-then-is_left-clause-answered : goal.returns-then-is_left-clause-answered
returns-then-is_left-clause-answered c = c.forget.ensures.gone ∙ answered_left c.args.reply.answer (asks_in c.args.self.now c.args.reply.call) (sym c.is_left.ensures ∙ c.if-is_left.true)

pub returns-then-is_left-clause-delivers : goal.returns-then-is_left-clause-delivers
returns-then-is_left-clause-delivers c = delivers_dropped c.args.reply (asks_in c.args.self.now) (asks_in c.forget.new.self) (sym c.is_left.ensures ∙ c.if-is_left.true) c.forget.ensures.gone c.forget.ensures.others

pub returns-else-is_left-clause-answered : goal.returns-else-is_left-clause-answered
returns-else-is_left-clause-answered c = (answered_told c.args.reply c.args.self.now c.tell.new.self (c.tell.ensures.there, c.tell.ensures.nobody) (sym c.is_left.ensures ∙ c.if-is_left.false)).0

pub returns-else-is_left-clause-others : goal.returns-else-is_left-clause-others
returns-else-is_left-clause-others c = (answered_told c.args.reply c.args.self.now c.tell.new.self (c.tell.ensures.there, c.tell.ensures.nobody) (sym c.is_left.ensures ∙ c.if-is_left.false)).1

pub returns-else-is_left-clause-delivers : goal.returns-else-is_left-clause-delivers
returns-else-is_left-clause-delivers c = delivers_told c.args.reply c.args.self.now c.tell.new.self (c.tell.ensures.there, c.tell.ensures.nobody)
