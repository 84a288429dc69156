use Rattle.hk_key.proofs.Steps.{first_is_sound, begin_is_sound, replay_keeps_sound, inv_keeps_sound, ack_keeps_sound, val_keeps_sound, view_keeps_sound, copy_keeps_sound}
use Rattle.hk_key.proofs.laws.rows_stay_sound.Goals as goal

pub returns : goal.returns
returns c = record {
  first = first_is_sound;
  begin = begin_is_sound;
  replay = replay_keeps_sound;
  inv = inv_keeps_sound;
  ack = ack_keeps_sound;
  val = val_keeps_sound;
  view = view_keeps_sound;
  copy = copy_keeps_sound;
}
