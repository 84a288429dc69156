use Rattle.std.proofs.Common.{rules}
use Rattle.hk_snap.proofs.Leasing.{raises}
use Rattle.hk_snap.proofs.lease_steps.raise.Goals as goal

pub swap_as-requires : goal.swap_as-requires
swap_as-requires g c = (search rules, (search rules, (c.requires.cell, raises _ _ _ _ c.requires.keeps c.requires.up.0 c.requires.up.1)))
