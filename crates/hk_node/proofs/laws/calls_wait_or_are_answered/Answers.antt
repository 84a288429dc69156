use Rattle.hk_node.proofs.Waits.{calls_are_taken, calls_wait_or_are_answered, waiting_is_untold}
use Rattle.hk_node.proofs.laws.calls_wait_or_are_answered.Goals as goal

pub returns : goal.returns
returns c = record {
  taken = calls_are_taken;
  waits = calls_wait_or_are_answered;
  untold = waiting_is_untold;
}
