use Rattle.std.proofs.Common.{rules}
use Rattle.hk_snap.proofs.Leasing.{looks_at}
use Rattle.hk_snap.proofs.lease_steps.load.Goals as goal

pub load_as-requires : goal.load_as-requires
load_as-requires g c = (search rules, (search rules, (c.requires.cell, looks_at _ _)))
