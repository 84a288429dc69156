use Rattle.hk_register.proofs.Plays.{settled_rule_worked, two_increments_worked, aborted_in_effect_worked, val_kept_in_trans_worked, joiner_worked, deleted_and_added_worked}
use Rattle.hk_register.proofs.worked_runs.Goals as goal

pub returns-clause-settled_rule : goal.returns-clause-settled_rule
returns-clause-settled_rule c = settled_rule_worked

pub returns-clause-two_increments : goal.returns-clause-two_increments
returns-clause-two_increments c = two_increments_worked

pub returns-clause-aborted_in_effect : goal.returns-clause-aborted_in_effect
returns-clause-aborted_in_effect c = aborted_in_effect_worked

pub returns-clause-val_kept_in_trans : goal.returns-clause-val_kept_in_trans
returns-clause-val_kept_in_trans c = val_kept_in_trans_worked

pub returns-clause-joiner : goal.returns-clause-joiner
returns-clause-joiner c = joiner_worked

pub returns-clause-deleted_and_added : goal.returns-clause-deleted_and_added
returns-clause-deleted_and_added c = deleted_and_added_worked
