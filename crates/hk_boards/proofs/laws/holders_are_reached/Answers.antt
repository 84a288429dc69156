use Rattle.hk_boards.proofs.Reached.{are_reached}
use Rattle.hk_boards.proofs.laws.holders_are_reached.Goals as goal

pub returns : goal.returns
returns c = are_reached
