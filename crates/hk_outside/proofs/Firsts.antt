-- A byte in front of what is left.
use Rattle.std.proofs.Common.{◌≡◌, ℕ, ◌<◌, List, [], ◌∷◌, length, take, Option, Some, None, refl, arith}
use Rattle.std.specs.Prelude.{slice_set}
use Rattle.std.specs.Io.KnownBytes.{prepend_known, Consumes}
use Rattle.hk_outside.specs.First.{first_bytes}

-- it is given, and what is left is what was behind it
pub first_given : (first : Option ℕ) (byte : ℕ) (left : Option (List ℕ)) (room : List ℕ) → first ≡ Some byte → 0 < length room → Consumes (prepend_known (first_bytes first) left) (prepend_known [] left) (take 1 (slice_set room 0 byte))
first_given first byte None room is some = tt
first_given first byte (Some bytes) [] is some = absurd (omega (arith, some))
first_given first byte (Some bytes) (r ∷ room) is some = rw is refl
