use Rattle.hk_lines.proofs.Joined.{pieces_join, skip_commutes, expect_commutes, step_stays}
use Rattle.hk_lines.proofs.pieces_do_not_matter.Goals as goal

pub returns-clause-join : goal.returns-clause-join
returns-clause-join c = pieces_join

pub returns-clause-skip : goal.returns-clause-skip
returns-clause-skip c = skip_commutes

pub returns-clause-expect : goal.returns-clause-expect
returns-clause-expect c = expect_commutes

pub returns-clause-stays : goal.returns-clause-stays
returns-clause-stays c = step_stays
