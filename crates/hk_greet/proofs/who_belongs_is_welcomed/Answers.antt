use Rattle.hk_greet.proofs.Meeting.{meet}
use Rattle.hk_greet.proofs.who_belongs_is_welcomed.Goals as goal

pub returns : goal.returns
returns c = meet
