-- What is told of a step.
use Rattle.std.specs.Prelude.{◌≡◌, Result, Ok, Err}
use Rattle.hk_clocks.specs.declared.fault.ClockFault.{ClockFault}
use Rattle.hk_clocks.specs.declared.fault.ClockFault.TheVariants.{Memory}
use Rattle.hk_clocks.specs.Clocks.{ClockState}
use Rattle.hk_clocks.specs.Steps.{ClockEvent, clock_step}

-- by what the definition makes of it: after a refusal, and after want of memory, the clocks are as they were
abbrev pub IsAnswerOf : Result Unit ClockFault → (old new : ClockState) → Result ClockState ClockFault → Type 0
IsAnswerOf (Ok _) old new made = made ≡ Ok new
IsAnswerOf (Err Memory) old new made = new ≡ old
IsAnswerOf (Err fault) old new made = (made ≡ Err fault) × (new ≡ old)

abbrev pub IsStepOf : Result Unit ClockFault → (old new : ClockState) → ClockEvent → Type 0
IsStepOf result old new event = IsAnswerOf result old new (clock_step old event)
