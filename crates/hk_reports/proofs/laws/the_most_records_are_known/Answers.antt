use Rattle.hk_reports.proofs.Known.{most_records_stay}
use Rattle.hk_reports.proofs.laws.the_most_records_are_known.Goals as goal

pub returns : goal.returns
returns c = most_records_stay
