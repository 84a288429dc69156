use Rattle.hk_host_words.proofs.Single.{commands_one}
use Rattle.hk_host_words.proofs.host_commands_are_one.Goals as goal

pub returns : goal.returns
returns c = commands_one c.addresses_are_read_as_printed.ensures.one
