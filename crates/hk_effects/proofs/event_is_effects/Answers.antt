use Rattle.hk_effects.proofs.event_is_effects.Goals as goal
use Rattle.hk_effects.proofs.Events.{event_is_effects}
use Rattle.hk_effects.proofs.Obligations.{all_owed}

pub returns : goal.returns
returns c = event_is_effects all_owed
