use Rattle.std.proofs.Common.{sym, ap}
use Rattle.hk_due.specs.Keys.{OpenState}
use Rattle.hk_due.proofs.keys.OpenKeys.let_go.Goals as goal

pub returns-clause-here : goal.returns-clause-here
returns-clause-here c = record { there = c.remove.ensures.updates.1; whole = ap (λ (o : OpenState). o.whole) c.self.view_is }

pub returns-clause-others : goal.returns-clause-others
returns-clause-others c = λ other apart. rw (sym c.self.view_is) (c.remove.ensures.updates.2 other apart)
