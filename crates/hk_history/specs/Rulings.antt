-- What the check of one rule tells.
use Rattle.std.specs.Prelude.{◌≡◌, ◌⊎◌, ℕ, ◌<◌, ◌≤◌, List, Option, Some, None, Result, Ok, Err, ⊤}
use Rattle.hk_history.specs.declared.event.Event.{Event}
use Rattle.hk_history.specs.declared.event.Entry.{Entry}
use Rattle.hk_history.specs.declared.fault.Rule.{Rule}
use Rattle.hk_history.specs.declared.fault.CheckFault.{CheckFault}
use Rattle.hk_history.specs.declared.fault.CheckFault.TheVariants.{Memory, Breach}
use Rattle.hk_history.specs.Breach.{Breaks}

-- nothing where no calls break the rule, and else those of the least numbers that do
abbrev pub RuleGives : Rule → Result (Unit {0}) CheckFault → List Event → List Entry → Type 0
RuleGives rule (Ok checked) history order = (c d : ℕ) → ¬ Breaks rule history order c d
RuleGives rule (Err Memory) history order = ⊤
RuleGives rule (Err (Breach told a b)) history order =
    (told ≡ rule) × Breaks rule history order a b × ((c d : ℕ) → Breaks rule history order c d → (a < c) ⊎ ((a ≡ c) × (b ≤ d)))

-- the rule, broken at one call, if at any
abbrev pub at_one : Rule → Option ℕ → Result (Unit {0}) CheckFault
at_one rule None = Ok tt
at_one rule (Some n) = Err (Breach rule n n)
