use Rattle.hk_due.proofs.Following.{following_keeps, open_keys_stay}
use Rattle.hk_due.proofs.laws.steps_keep_the_open_keys.Goals as goal

pub returns-clause-kept : goal.returns-clause-kept
returns-clause-kept c = following_keeps

pub returns-clause-stay : goal.returns-clause-stay
returns-clause-stay c = open_keys_stay
