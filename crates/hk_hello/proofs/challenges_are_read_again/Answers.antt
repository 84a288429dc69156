use Rattle.hk_hello.proofs.Greetings.{challenge_again}
use Rattle.hk_hello.proofs.challenges_are_read_again.Goals as goal

pub returns : goal.returns
returns c = challenge_again
