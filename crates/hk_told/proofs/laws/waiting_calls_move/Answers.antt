use Rattle.hk_told.proofs.Steps.{step_moves, calls_answer_or_start}
use Rattle.hk_told.proofs.laws.waiting_calls_move.Goals as goal

pub returns-clause-step : goal.returns-clause-step
returns-clause-step c = step_moves

pub returns-clause-call : goal.returns-clause-call
returns-clause-call c = calls_answer_or_start
