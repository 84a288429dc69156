use Rattle.hk_reports.proofs.Lists.{report_is_last, others_stay}
use Rattle.hk_reports.proofs.laws.the_last_report_counts.Goals as goal

pub returns-clause-last : goal.returns-clause-last
returns-clause-last c = report_is_last

pub returns-clause-others : goal.returns-clause-others
returns-clause-others c = others_stay
