use Rattle.hk_manager.proofs.Kept.{keeps_managers, letters_in_range}
use Rattle.hk_manager.proofs.laws.steps_keep_managers.Goals as goal

pub returns-clause-manager : goal.returns-clause-manager
returns-clause-manager c = keeps_managers

pub returns-clause-letters : goal.returns-clause-letters
returns-clause-letters c = letters_in_range
