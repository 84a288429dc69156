use Rattle.hk_reports.proofs.Bits.{bits_are_managers_up}
use Rattle.hk_reports.proofs.Known.{up_as_the_keeper_says}
use Rattle.hk_reports.proofs.laws.bits_are_managers_that_are_up.Goals as goal

pub returns-clause-bits : goal.returns-clause-bits
returns-clause-bits c = bits_are_managers_up

pub returns-clause-keeper : goal.returns-clause-keeper
returns-clause-keeper c = up_as_the_keeper_says
