use Rattle.std.proofs.Common.{rules}
use Rattle.hk_snap.proofs.Leasing.{splits}
use Rattle.hk_snap.proofs.lease_steps.look.Goals as goal

pub split_pass-requires : goal.split_pass-requires
split_pass-requires c = (search rules, (search rules, (c.requires.cell, splits _ _)))
