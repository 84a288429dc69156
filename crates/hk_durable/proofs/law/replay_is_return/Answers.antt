use Rattle.hk_durable.proofs.Replaying.{replay_is_return}
use Rattle.hk_durable.proofs.law.replay_is_return.Goals as goal

pub returns : goal.returns
returns c = replay_is_return
