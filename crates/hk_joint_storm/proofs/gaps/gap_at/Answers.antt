use Rattle.hk_place.specs.Place.{place_of}
use Rattle.hk_joint_storm.proofs.gaps.gap_at.Goals as goal

pub returns : goal.returns
returns c = c.gap_of.ensures (place_of c.args.changes.now c.args.found.now) c.place.ensures
