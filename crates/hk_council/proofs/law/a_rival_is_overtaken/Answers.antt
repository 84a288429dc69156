use Rattle.hk_council.proofs.Working.{overtaken}
use Rattle.hk_council.proofs.law.a_rival_is_overtaken.Goals as goal

pub returns : goal.returns
returns c = overtaken
