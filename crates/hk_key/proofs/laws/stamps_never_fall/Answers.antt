use Rattle.hk_key.proofs.Rising.{begin_takes_stamp, replay_never_lowers, inv_never_lowers, ack_never_lowers, val_never_lowers, view_never_lowers, copy_never_lowers, resend_never_lowers}
use Rattle.hk_key.proofs.laws.stamps_never_fall.Goals as goal

pub returns : goal.returns
returns c = record {
  begin = begin_takes_stamp;
  replay = replay_never_lowers;
  inv = inv_never_lowers;
  ack = ack_never_lowers;
  val = val_never_lowers;
  view = view_never_lowers;
  copy = copy_never_lowers;
  resend = resend_never_lowers;
}
