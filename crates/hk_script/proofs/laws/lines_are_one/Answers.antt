use Rattle.hk_script.proofs.Exact.{events_are_one, headers_are_one}
use Rattle.hk_script.proofs.laws.lines_are_one.Goals as goal

pub returns-clause-events : goal.returns-clause-events
returns-clause-events c = events_are_one

pub returns-clause-headers : goal.returns-clause-headers
returns-clause-headers c = headers_are_one
