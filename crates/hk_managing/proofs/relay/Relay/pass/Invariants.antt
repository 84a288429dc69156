use Rattle.hk_managing.proofs.Passing.{Passing}
use Rattle.hk_managing.proofs.relay.Relay.pass.Given as goal

-- those so far were passed on
abbrev pub invariant-loop-taken : goal.invariant-loop-taken
invariant-loop-taken g l = Passing l.now l._taken l.fn.office l.office l.fn.self.inlet l.self.inlet l.fn.self.outlet l.self.outlet
