use Rattle.hk_assemble.proofs.Known.{knows_more}
use Rattle.hk_assemble.proofs.laws.letters_stay_known.Goals as goal

pub returns : goal.returns
returns c = knows_more c.sameness_is_equality.ensures.letter
