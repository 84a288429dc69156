use Rattle.hk_hello.proofs.Hellos.{read_again}
use Rattle.hk_hello.proofs.hellos_are_read_again.Goals as goal

pub returns : goal.returns
returns c = read_again
