-- The register that a turn is given.
use Rattle.std.specs.Prelude.{◌≡◌, ℕ, Option, Some, None}
use denote.Ref.{Bor}
use Rattle.hk_base.specs.declared.call.Content.{Content}
use Rattle.hk_base.specs.Register.{Register}

-- whether a register is the one that is given: it holds this content under this tag; or nothing, under any tag
abbrev pub IsGiven : Option (Bor Content × ℕ) → Register → Type 0
IsGiven None register = register.content ≡ None
IsGiven (Some held) register = register ≡ record { content = Some held.0.now; tag = held.1 }
