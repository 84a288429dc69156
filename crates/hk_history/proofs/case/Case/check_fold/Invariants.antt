-- What the fold of what is left gives, the whole fold gives.
use Rattle.std.proofs.Common.{Result, drop, None}
use Rattle.hk_base.specs.Register.{first}
use Rattle.hk_history.specs.declared.fault.CheckFault.{CheckFault}
use Rattle.hk_history.specs.Fold.{FoldGives}
use Rattle.hk_history.specs.Folded.{register_in}
use Rattle.hk_history.proofs.case.Case.check_fold.Given as goal

abbrev pub invariant-loop-entry : goal.invariant-loop-entry
invariant-loop-entry l = (r : Result (Unit {0}) CheckFault) → FoldGives l.self.items.now (register_in l.folding) l.folding.last (drop l.entry-index l.self.order.now) r → FoldGives l.self.items.now first None l.self.order.now r
