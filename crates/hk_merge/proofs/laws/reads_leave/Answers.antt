use Rattle.hk_merge.proofs.Leaves.{reads_are_answered, reads_are_of_the_row, others_stay}
use Rattle.hk_merge.proofs.laws.reads_leave.Goals as goal

pub returns : goal.returns
returns c = record { read = reads_are_answered; row = reads_are_of_the_row; others = others_stay }
