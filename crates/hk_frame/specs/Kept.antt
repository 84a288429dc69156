-- What an error leaves of an output, until it is taken back.
use Rattle.std.specs.Prelude.{◌≡◌, ℕ, List, length, take}

-- what was there stands at the front still
abbrev pub IsKept : List ℕ → List ℕ → Type 0
IsKept before after = take (length before) after ≡ before
