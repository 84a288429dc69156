use Rattle.hk_managing.specs.Turns.{StayTold}
use Rattle.hk_managing.proofs.managing.ManagerJob.take_all.Given as goal

abbrev pub invariant-loop-taken : goal.invariant-loop-taken
invariant-loop-taken g l = StayTold l.fn.self.office l.fn.gathered.notes.items l.self.office l.gathered.notes.items
