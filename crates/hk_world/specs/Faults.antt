-- What want of memory in a part of the world, and a refusal of a part, is to the world.
use Rattle.hk_clocks.specs.declared.fault.ClockFault.{ClockFault}
use Rattle.hk_clocks.specs.declared.fault.ClockFault.TheVariants as ClockFault
use Rattle.hk_manager.specs.declared.fault.ManagerFault.{ManagerFault}
use Rattle.hk_manager.specs.declared.fault.ManagerFault.TheVariants as ManagerFault
use Rattle.hk_world.specs.declared.fault.WorldFault.{WorldFault}
use Rattle.hk_world.specs.declared.fault.WorldFault.TheVariants.{Memory, Refused}
use Rattle.hk_world.specs.Steps.{clock_refusal, manager_refusal}

abbrev pub clock_fault : ClockFault → WorldFault
clock_fault ClockFault.Memory = Memory
clock_fault ClockFault.Live = Refused (clock_refusal ClockFault.Live)
clock_fault ClockFault.NotLive = Refused (clock_refusal ClockFault.NotLive)
clock_fault (ClockFault.ClockFalls clock) = Refused (clock_refusal (ClockFault.ClockFalls clock))
clock_fault (ClockFault.Skew to other) = Refused (clock_refusal (ClockFault.Skew to other))

abbrev pub manager_fault : ManagerFault → WorldFault
manager_fault ManagerFault.Memory = Memory
manager_fault (ManagerFault.Behind held) = Refused (manager_refusal (ManagerFault.Behind held))
manager_fault ManagerFault.NoSuchMember = Refused (manager_refusal ManagerFault.NoSuchMember)
manager_fault ManagerFault.LastMember = Refused (manager_refusal ManagerFault.LastMember)
manager_fault ManagerFault.Full = Refused (manager_refusal ManagerFault.Full)
manager_fault ManagerFault.NoNumbers = Refused (manager_refusal ManagerFault.NoNumbers)
manager_fault (ManagerFault.NotPast node end) = Refused (manager_refusal (ManagerFault.NotPast node end))
