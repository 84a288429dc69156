-- The parts of a text that may be an address.
use Rattle.std.specs.Prelude.{◌≡◌, ◌≢◌, ◌<◌, ◌⊎◌, ℕ, List, [], ◌∷◌, ◌++◌, length, slice_index, decimal, Option, None, Some}
use Rattle.hk_hosts.specs.Addresses.{IsPort}

-- no byte is this one
abbrev pub Lacks : ℕ → List ℕ → Type 0
Lacks byte text = (i : ℕ) → i < length text → slice_index text i ≢ byte

abbrev pub EndsIn : ℕ → List ℕ → Type 0
EndsIn byte text = (front : List ℕ) × (text ≡ front ++ byte ∷ [])

-- What stands in front of the last colon, and what behind it; or the whole text where it has no colon. Where it ends in a
-- bracket its colons are a host's.
abbrev pub AreParts : List ℕ → Option (List ℕ) → List ℕ → Type 0
AreParts host None text = (host ≡ text) × (EndsIn 93 text ⊎ Lacks 58 text)
AreParts host (Some behind) text = (text ≡ host ++ 58 ∷ behind) × Lacks 58 behind × (EndsIn 93 text → ⊥)

-- the port that stands behind a host, or the usual one where none does
abbrev pub IsPortOf : Option (List ℕ) → ℕ → ℕ → Type 0
IsPortOf None usual port = port ≡ usual
IsPortOf (Some digits) usual port = digits ≡ decimal port

-- that port, or that none does
abbrev pub IsPortRead : Option ℕ → Option (List ℕ) → ℕ → Type 0
IsPortRead (Some port) behind usual = IsPort port × IsPortOf behind usual port
IsPortRead None behind usual = (port : ℕ) → IsPort port → IsPortOf behind usual port → ⊥
