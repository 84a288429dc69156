use Rattle.std.proofs.Common.{rules, ◌≡◌, Ok, sym, subst}
use Rattle.hk_base.specs.declared.memory.Memory.{Memory}
use Rattle.hk_outside.specs.declared.desk.DeskReply.{DeskReply}
use Rattle.hk_worker.specs.Asking.{AsksAtPost}
use Rattle.hk_worker.proofs.Earlier.{gives_answer, gives_unknown, gives_spent}
use Rattle.hk_worker.proofs.Sending.{sends_later}
use Rattle.hk_worker.proofs.post.Post.give_reply.Goals as goal

pub returns-in-Told-clause-told : goal.returns-in-Told-clause-told
returns-in-Told-clause-told g c = λ reading op before rose asked.
    gives_answer (g.C.DeskClock.was_read c.args.clock.now) reading c.args.key.now op before c.args.self.now c.give.new.self c.give.ensures.looked rose c.in-Told.answer c.give.result
    (λ call o old. c.give.ensures.given call o old)
    (subst (λ (r : DeskReply). AsksAtPost {E = Memory} c.args.key.now op before c.args.self.now (Ok r)) c.in-Told.is asked)

pub returns-in-Told-clause-sent : goal.returns-in-Told-clause-sent
returns-in-Told-clause-sent g c = λ places op before sent. sends_later places c.args.key.now op before c.args.self.now c.give.new.self c.give.ensures.looked c.args.reply c.in-Told.answer c.give.result c.in-Told.is sent

pub returns-in-Unknown-clause-told : goal.returns-in-Unknown-clause-told
returns-in-Unknown-clause-told g c = λ reading op before rose asked.
    gives_unknown (g.C.DeskClock.was_read c.args.clock.now) reading c.args.key.now op before c.args.self.now c.args.reply c.in-Unknown.turns c.in-Unknown.is rose asked

pub returns-in-Spent-clause-told : goal.returns-in-Spent-clause-told
returns-in-Spent-clause-told g c = λ reading op before rose asked.
    gives_spent (g.C.DeskClock.was_read c.args.clock.now) reading c.args.key.now op before c.args.self.now c.args.reply c.in-Spent.asks c.in-Spent.is asked
