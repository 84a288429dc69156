use Rattle.std.proofs.Common.{◌≡◌, true, sym, ◌∙◌}
use Rattle.hk_group.specs.Led.{is_late}
use Rattle.hk_group.proofs.Led.{asked_later}
use Rattle.hk_group.proofs.desk.GroupDeskDesk.ask.Goals as goal

pub loop-again-preserved : goal.loop-again-preserved
loop-again-preserved g c =
    let late : is_late c.loop-again.told ≡ true = sym c.is_late.ensures ∙ c.if-not-is_late.false in (
      c.ask_once-told-in-loop-again.ensures.suits,
      asked_later c.args.self.now.clock c.loop-again.self.clock (λ k. g.C.DeskClock.was_read k.value) (λ k. g.C.Clock.reading k.value) c.args.key.now c.args.op.now c.args.self.now.post
          c.loop-again.self.post c.ask_once-told-in-loop-again.new.self.post c.loop-again.told c.ask_once-told-in-loop-again.result
          c.loop-again.invariant.2 c.loop-again.invariant.1 late c.ask_once-told-in-loop-again.ensures.told,
      c.ask_once-told-in-loop-again.ensures.clock ∙ c.loop-again.invariant.2,
    )
