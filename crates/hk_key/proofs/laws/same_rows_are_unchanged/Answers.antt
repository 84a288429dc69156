use Rattle.hk_key.proofs.SameNotes.{each_is_same}
use Rattle.hk_key.proofs.Unchanged.{same_after_inv, same_after_ack, same_after_val, same_after_view, same_after_copy, same_after_replay, resend_keeps_row, replay_changes, begin_changes}
use Rattle.hk_key.proofs.laws.same_rows_are_unchanged.Goals as goal

pub returns : goal.returns
returns c = record {
  each = each_is_same;
  inv = same_after_inv;
  ack = same_after_ack;
  val = same_after_val;
  view = same_after_view;
  copy = same_after_copy;
  replay = same_after_replay;
  resend = resend_keeps_row;
  replayed = replay_changes;
  begun = begin_changes;
}
