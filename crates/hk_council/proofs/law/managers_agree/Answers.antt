use Rattle.hk_council.proofs.Runs.{agreement}
use Rattle.hk_council.proofs.law.managers_agree.Goals as goal

pub returns : goal.returns
returns c = agreement
