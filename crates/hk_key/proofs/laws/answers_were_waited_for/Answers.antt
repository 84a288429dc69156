use Rattle.hk_key.proofs.Answers.{inv_answers_waiting, ack_answers_waiting, view_answers_waiting, replay_answers_none, resend_answers_none, begin_answers_own}
use Rattle.hk_key.proofs.laws.answers_were_waited_for.Goals as goal

pub returns : goal.returns
returns c = record {
  inv = inv_answers_waiting;
  ack = ack_answers_waiting;
  view = view_answers_waiting;
  replay = replay_answers_none;
  resend = resend_answers_none;
  begin = begin_answers_own;
}
