use Rattle.hk_hello.proofs.Greetings.{answer_again}
use Rattle.hk_hello.proofs.answers_are_read_again.Goals as goal

pub returns : goal.returns
returns c = answer_again
