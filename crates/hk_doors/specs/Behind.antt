-- What doors before others tell of these, by how many connections are left behind and how often those doors failed.
use Rattle.std.specs.Prelude.{◌≡◌, ◌⊎◌, ℕ, Option, None, Some, Result, Ok, Err}
use Rattle.hk_outside.specs.Causes.{Rose}
use Rattle.hk_outside.specs.Counts.{Accepts}

-- A connection that is given is one less of those that the doors behind have left. Where none is given, their counts are as they were. A failure is one more of
-- theirs, or they gave none. Of doors that don't tell what is left the first and the last say nothing.
module _ {C E : Type 0} where
  abbrev pub ComesThrough : Option ℕ → Option ℕ → ℕ → ℕ → Result (Option C) E → Type 0
  ComesThrough left now faults since (Ok (Some conn)) = Accepts {C = C} {E = E} left now (Ok (Some conn))
  ComesThrough left now faults since (Ok None) = (now ≡ left) × (since ≡ faults)
  ComesThrough left now faults since (Err e) = Rose faults since ⊎ Accepts {C = C} {E = E} left now (Ok None)
