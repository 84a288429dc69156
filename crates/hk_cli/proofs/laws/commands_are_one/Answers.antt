use Rattle.hk_cli.proofs.Exact.{commands_are_one}
use Rattle.hk_cli.proofs.laws.commands_are_one.Goals as goal

pub returns : goal.returns
returns c = commands_are_one
