use Rattle.hk_place.proofs.Cutting.{joint_reads_are_cuts, placed_reads_are_since}
use Rattle.hk_place.proofs.Showing.{found_were_shown}
use Rattle.hk_place.proofs.laws.joint_reads_are_cuts.Goals as goal

pub returns : goal.returns
returns c = record { cuts = joint_reads_are_cuts; found = found_were_shown; since = placed_reads_are_since }
