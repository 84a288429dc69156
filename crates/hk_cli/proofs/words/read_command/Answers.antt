use Rattle.hk_cli.proofs.Exact.{command_read}
use Rattle.hk_cli.proofs.Ending.{in_range}
use Rattle.hk_cli.proofs.words.read_command.Goals as goal

pub returns : goal.returns
returns c = let told = command_read _ _ c.read.ensures in record { read = told; range = in_range _ _ told }
