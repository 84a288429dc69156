-- The numbers of a command's faults, and what comes of a host that tells no answer.
use Rattle.std.specs.Prelude.{ℕ}
use Rattle.hk_init.specs.declared.fault.NoAnswer.{NoAnswer}
use Rattle.hk_init.specs.declared.fault.NoAnswer.TheVariants as asks
use Rattle.hk_init.specs.declared.fault.CommandFault.{CommandFault}
use Rattle.hk_init.specs.declared.fault.CommandFault.TheVariants.{Memory, WriteFault, Unreachable, Denied, Refused, OtherLease, NoNode, Late, NotOpen, UnknownNode, StillMember}

-- the number that the process ends with: 12 where the group refuses, 13 where a host can't be had
abbrev pub number_of_fault : CommandFault → ℕ
number_of_fault Memory = 1
number_of_fault WriteFault = 4
number_of_fault (Unreachable place) = 13
number_of_fault (Denied place reason) = 12
number_of_fault (Refused text) = 12
number_of_fault (OtherLease place) = 12
number_of_fault NoNode = 12
number_of_fault Late = 12
number_of_fault (NotOpen place) = 13
number_of_fault (UnknownNode place) = 12
number_of_fault StillMember = 12

-- the host of a place told no answer
abbrev pub not_asked : ℕ → NoAnswer → CommandFault
not_asked place asks.Memory = Memory
not_asked place asks.Silent = Unreachable place
not_asked place (asks.Refused reason) = Denied place reason
