use Rattle.std.proofs.Common.{rules, refl}
use Rattle.hk_snap.proofs.Leasing.{begins}
use Rattle.hk_snap.proofs.lease_steps.new_cell.Goals as goal

pub ruled-requires : goal.ruled-requires
ruled-requires c = (search rules, (search rules, begins _ refl))
