use Rattle.hk_safety.proofs.Traces.{runs_legal}
use Rattle.hk_safety.proofs.laws.runs_are_legal.Goals as goal

pub returns : goal.returns
returns c = runs_legal c.orders_are_legal.ensures
