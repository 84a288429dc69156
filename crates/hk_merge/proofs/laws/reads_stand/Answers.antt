use Rattle.hk_merge.proofs.Asides.{events_keep_aside, asides_keep_reads}
use Rattle.hk_merge.proofs.laws.reads_stand.Goals as goal

pub returns : goal.returns
returns c = record {
  step = events_keep_aside c.reads_leave.ensures.others;
  list = asides_keep_reads c.reads_leave.ensures.row (events_keep_aside c.reads_leave.ensures.others);
}
