use Rattle.std.proofs.Common.{◌∙◌}
use Rattle.hk_snap.proofs.cell_set.SnapReader.join.Goals as goal

pub invariant_of-self : goal.invariant_of-self
invariant_of-self g c = c.join_all.ensures.long ∙ c.self.invariant
