-- Counts of connections and jobs, where an object tells them.
use Rattle.std.specs.Prelude.{◌≡◌, ℕ, ◌+◌, ◌-◌, ◌^◌, min, Option, None, Some, Result, Ok, Err, ⊤}

-- connections left: one that comes takes one off, none comes only at 0, and a failure leaves the number
abbrev pub Accepts : {C E : Type 0} → Option ℕ → Option ℕ → Result (Option C) E → Type 0
Accepts None now result = ⊤
Accepts (Some before) now (Ok (Some conn)) = (left : ℕ) × (now ≡ Some left) × (before ≡ left + 1)
Accepts (Some before) now (Ok None) = (before ≡ 0) × (now ≡ Some 0)
Accepts (Some before) now (Err e) = now ≡ Some before

-- jobs taken: one more, as far as the count goes
abbrev pub IsOneMore : Option ℕ → Option ℕ → Type 0
IsOneMore None now = ⊤
IsOneMore (Some before) now = now ≡ Some (min (before + 1) (2 ^ 64 - 1))

-- a job that is taken adds one, and a refusal leaves the number
abbrev pub TakesJob : {E : Type 0} → Option ℕ → Option ℕ → Result (Unit {0}) E → Type 0
TakesJob before now (Ok taken) = IsOneMore before now
TakesJob None now (Err e) = ⊤
TakesJob (Some n) now (Err e) = now ≡ Some n
