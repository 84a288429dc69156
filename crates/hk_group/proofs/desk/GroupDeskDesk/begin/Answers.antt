use Rattle.std.proofs.Common.{◌≡◌, true, sym, ◌∙◌}
use Rattle.hk_group.specs.Led.{is_late_begun}
use Rattle.hk_group.proofs.Led.{begun_later}
use Rattle.hk_group.proofs.desk.GroupDeskDesk.begin.Goals as goal

pub loop-again-preserved : goal.loop-again-preserved
loop-again-preserved g c =
    let late : is_late_begun c.loop-again.begun ≡ true = sym c.is_late_begun.ensures ∙ c.if-not-is_late_begun.false in (
      c.begin_once-begun-in-loop-again.ensures.suits,
      begun_later c.args.self.now.clock c.loop-again.self.clock (λ k. g.C.DeskClock.was_read k.value) (λ k. g.C.Clock.reading k.value) c.args.key.now c.args.op.now c.args.self.now.post
          c.loop-again.self.post c.begin_once-begun-in-loop-again.new.self.post c.loop-again.begun c.begin_once-begun-in-loop-again.result
          c.loop-again.invariant.2 c.loop-again.invariant.1 late c.begin_once-begun-in-loop-again.ensures.told,
      c.begin_once-begun-in-loop-again.ensures.clock ∙ c.loop-again.invariant.2,
    )
