use Rattle.std.proofs.Common.{rules}
use Rattle.hk_snap.proofs.Keeping.{loads}
use Rattle.hk_snap.proofs.Using.{loaded}
use Rattle.hk_snap.proofs.steps.load.Goals as goal

pub load_as-requires : goal.load_as-requires
load_as-requires g c = (search rules, (search rules, (search rules, (c.requires.cell, loads _ _))))

pub returns-clause-loaded : goal.returns-clause-loaded
returns-clause-loaded g c =
    let r = c.load_as.ensures.rule in
    let t = r.1 in
    (t.0, t.1, t.2, loaded _ r.0 c.load_as.new.room t.3 r.2, t.4, t.5, t.6)
