use Rattle.std.proofs.Common.{rules, ◌≡◌, Ok, subst}
use Rattle.hk_base.specs.declared.memory.Memory.{Memory}
use Rattle.hk_outside.specs.declared.desk.Begun.{Begun}
use Rattle.hk_worker.specs.declared.asking.OpenAsk.{OpenAsk}
use Rattle.hk_worker.specs.Opening.{BeginsAtPost, BeginSends, OpenedSuits}
use Rattle.hk_worker.proofs.Earlier.{asks_earlier, waits_by_clock}
use Rattle.hk_worker.proofs.Sending.{begins_as_ask, ask_as_begins}
use Rattle.hk_worker.proofs.post.Post.give_begun.Goals as goal

pub returns-in-Told-clause-told : goal.returns-in-Told-clause-told
returns-in-Told-clause-told g c = λ reading op old before looked rose_before rose began.
    asks_earlier (g.C.DeskClock.was_read c.args.clock.now) reading c.args.key.now op old before c.give_reply.new.self looked {E = Memory} (Ok c.give_reply.result)
    (c.give_reply.ensures.told reading op before rose (subst (λ (b : Begun OpenAsk). BeginsAtPost {E = Memory} c.args.key.now op before c.args.self.now (Ok b)) c.in-Told.is began))

pub returns-in-Told-clause-sent : goal.returns-in-Told-clause-sent
returns-in-Told-clause-sent g c = λ places op before sent.
    ask_as_begins places c.args.key.now op before c.give_reply.new.self c.give_reply.result
    (c.give_reply.ensures.sent places op before
    (begins_as_ask places c.args.key.now op before c.args.self.now c.in-Told.reply (subst (λ (b : Begun OpenAsk). BeginSends {E = Memory} places c.args.key.now op before c.args.self.now (Ok b)) c.in-Told.is sent)))

pub returns-in-Told-clause-suits : goal.returns-in-Told-clause-suits
returns-in-Told-clause-suits g c = λ op suits. c.give_reply.ensures.suits op (subst (λ (b : Begun OpenAsk). OpenedSuits {E = Memory} op (Ok b)) c.in-Told.is suits)

pub returns-in-Waits-clause-told : goal.returns-in-Waits-clause-told
returns-in-Waits-clause-told g c = λ reading op old before looked rose_before rose began.
    waits_by_clock (g.C.DeskClock.was_read c.args.clock.now) reading c.args.key.now op old before c.args.self.now c.args.begun c.in-Waits.waits c.in-Waits.is looked rose_before began
