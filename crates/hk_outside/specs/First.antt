-- What stands in front of what a connection has left.
use Rattle.std.specs.Prelude.{ℕ, List, [], ◌∷◌, Option, None, Some}

-- the byte that was read before, until it is given
abbrev pub first_bytes : Option ℕ → List ℕ
first_bytes None = []
first_bytes (Some byte) = byte ∷ []
