use Rattle.hk_ever_sent.proofs.Worlds.{worlds_send}
use Rattle.hk_ever_sent.proofs.laws.worlds_send_in_range.Goals as goal

pub returns : goal.returns
returns c = worlds_send c.worlds_stay_sound.ensures.start c.worlds_stay_sound.ensures.step
