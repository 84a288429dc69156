use Rattle.std.proofs.Common.{◌≡◌}
use Rattle.hk_outside.specs.Desk.{BeginSuits}
use Rattle.hk_worker.specs.declared.asking.OpenAsk.{OpenAsk}
use Rattle.hk_group.specs.Led.{BeginsAgain}
use Rattle.hk_group.proofs.desk.GroupDeskDesk.begin.Given as goal

-- what was told last, by the same clock
abbrev pub invariant-loop-again : goal.invariant-loop-again
invariant-loop-again g l = BeginSuits (λ (w : OpenAsk). w.op) l.op l.begun
    × BeginsAgain (g.C.DeskClock.was_read l.fn.self.clock.value) (g.C.Clock.reading l.fn.self.clock.value) l.key l.op l.fn.self.post l.self.post l.begun × (l.self.clock ≡ l.fn.self.clock)
