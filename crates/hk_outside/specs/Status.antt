-- The numbers of the statuses.
use Rattle.std.specs.Prelude.{ℕ}
use Rattle.hk_outside.specs.declared.status.Status.{Status}
use Rattle.hk_outside.specs.declared.status.Status.TheVariants.{Done, Memory, Usage, ReadFault, WriteFault, BadLine, TooLong, Gap, DoorFault, SpawnFault}

-- the status that the process ends with
abbrev pub number_of : Status → ℕ
number_of Done = 0
number_of Memory = 1
number_of Usage = 2
number_of ReadFault = 3
number_of WriteFault = 4
number_of BadLine = 5
number_of TooLong = 6
number_of Gap = 7
number_of DoorFault = 8
number_of SpawnFault = 9
