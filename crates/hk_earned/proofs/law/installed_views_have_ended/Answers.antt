use Rattle.hk_earned.proofs.Beginning.{guarded}
use Rattle.hk_earned.proofs.law.installed_views_have_ended.Goals as goal

pub returns : goal.returns
returns c = λ s some lease low chain events run. guarded s some lease low chain events run
