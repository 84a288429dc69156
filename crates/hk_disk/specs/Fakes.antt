-- What is sure of a file in memory.
use Rattle.std.specs.Prelude.{◌≡◌, ℕ, ◌≤◌, List, length, take}

-- bytes that are no more than so many of the file's first ones
abbrev pub IsSureIn : ℕ → List ℕ → List ℕ → Type 0
IsSureIn sure file bytes = (length bytes ≤ sure) × (take (length bytes) file ≡ bytes)
