use Rattle.std.proofs.Common.{◌≡◌}
use Rattle.hk_outside.specs.Desk.{Suits}
use Rattle.hk_group.specs.Led.{AsksAgain}
use Rattle.hk_group.proofs.desk.GroupDeskDesk.ask.Given as goal

-- what was told last, by the same clock
abbrev pub invariant-loop-again : goal.invariant-loop-again
invariant-loop-again g l = Suits l.op l.told × AsksAgain (g.C.DeskClock.was_read l.fn.self.clock.value) (g.C.Clock.reading l.fn.self.clock.value) l.key l.op l.fn.self.post l.self.post l.told
    × (l.self.clock ≡ l.fn.self.clock)
