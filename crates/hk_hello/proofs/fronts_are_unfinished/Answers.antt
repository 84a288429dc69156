use Rattle.hk_hello.proofs.Hellos.{fronts}
use Rattle.hk_hello.proofs.fronts_are_unfinished.Goals as goal

pub returns : goal.returns
returns c = fronts
