use Rattle.std.proofs.Common.{rules}
use Rattle.hk_snap.proofs.Keeping.{adds}
use Rattle.hk_snap.proofs.steps.put.Goals as goal

pub store_as-requires : goal.store_as-requires
store_as-requires g c = (search rules, (search rules, (search rules, (c.requires.cell, adds _ _ _ _ c.requires.publishes c.told-words c.requires.words c.requires.next c.requires.range))))
