-- When a writer has ended, and why.
use Rattle.std.specs.Prelude.{◌≡◌, ℕ, Bool, true, false, Result, Err, ⊤, ◌⊎◌}
use Rattle.hk_outside.specs.Causes.{Rose}
use Rattle.hk_disk.specs.declared.writer.AppendFault.{AppendFault}
use Rattle.hk_disk.specs.declared.writer.AppendFault.TheVariants.{Ended}

abbrev pub is_ended : {A : Type 0} → Result A AppendFault → Bool
is_ended (Err Ended) = true
is_ended result = false

-- it has ended because it had, or because the file failed in this call
abbrev pub Explains : {A : Type 0} → Bool → ℕ → ℕ → Result A AppendFault → Type 0
Explains ended before now (Err Ended) = (ended ≡ true) ⊎ Rose before now
Explains ended before now result = ⊤
