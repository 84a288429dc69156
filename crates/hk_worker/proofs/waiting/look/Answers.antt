use Rattle.hk_locked.proofs.Keeping.{given_up_is_left}
use Rattle.hk_worker.proofs.waiting.look.Goals as goal

pub returns-in_default-clause-left : goal.returns-in_default-clause-left
returns-in_default-clause-left g c = given_up_is_left c.args.call c.look_on.new.self c.give_up.new.self c.give_up.ensures
