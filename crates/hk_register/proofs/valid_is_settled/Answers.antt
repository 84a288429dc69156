use Rattle.hk_register.proofs.Runs.{reached_parts}
use Rattle.hk_register.proofs.valid_is_settled.Goals as goal

pub returns : goal.returns
returns c = λ V st r n is. rw is at ((reached_parts V st r).nodes n).phase
