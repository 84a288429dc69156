use Rattle.hk_key.proofs.Waiting.{begin_answers_or_waits, replay_answers_or_waits, inv_answers_or_waits, ack_answers_or_waits, val_answers_or_waits, view_answers_or_waits, resend_answers_or_waits}
use Rattle.hk_key.proofs.laws.calls_wait_or_are_answered.Goals as goal

pub returns : goal.returns
returns c = record {
  begin = begin_answers_or_waits;
  replay = replay_answers_or_waits;
  inv = inv_answers_or_waits;
  ack = ack_answers_or_waits;
  val = val_answers_or_waits;
  view = view_answers_or_waits;
  resend = resend_answers_or_waits;
}
