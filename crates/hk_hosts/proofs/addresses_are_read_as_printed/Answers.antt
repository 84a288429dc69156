use Rattle.hk_hosts.proofs.Splitting.{one_address, same_decides}
use Rattle.hk_hosts.proofs.Reading.{read_again}
use Rattle.hk_hosts.proofs.addresses_are_read_as_printed.Goals as goal

pub returns-clause-one : goal.returns-clause-one
returns-clause-one c = one_address

pub returns-clause-printed : goal.returns-clause-printed
returns-clause-printed c = read_again

pub returns-clause-same : goal.returns-clause-same
returns-clause-same c = same_decides
