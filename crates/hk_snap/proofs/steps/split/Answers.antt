use Rattle.std.proofs.Common.{rules}
use Rattle.hk_snap.proofs.Keeping.{splits}
use Rattle.hk_snap.proofs.steps.split.Goals as goal

pub split_pass-requires : goal.split_pass-requires
split_pass-requires c = (search rules, (search rules, (search rules, (c.requires.cell, splits _ _))))
