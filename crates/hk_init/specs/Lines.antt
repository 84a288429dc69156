-- What the commands write.
use Rattle.std.specs.Prelude.{ℕ, ◌+◌, ◌/◌, ◌%◌, nat_lt, if◌then◌else◌, codes, List, [], ◌∷◌, ◌++◌}
use Rattle.std.specs.List.{flat_map}
use Rattle.std.specs.Int.{w64, to_be_bytes}

abbrev pub hex_digit : ℕ → ℕ
hex_digit n = if nat_lt n 10 then 48 + n else 87 + n

-- a byte as two digits
abbrev pub hex_byte : ℕ → List ℕ
hex_byte byte = hex_digit (byte / 16) ∷ hex_digit (byte % 16) ∷ []

-- a founding as 16 digits
abbrev pub hex_founding : ℕ → List ℕ
hex_founding founding = flat_map hex_byte (to_be_bytes w64 founding)

-- what `init` writes once the group is open
abbrev pub founded_line : ℕ → List ℕ
founded_line founding = codes "founded " ++ hex_founding founding ++ 10 ∷ []

-- the words with which the lines begin that a manager tells once it is open with this founding
abbrev pub open_words : List ℕ → ℕ → List ℕ
open_words group founding = codes "group " ++ group ++ codes " founding=" ++ hex_founding founding ++ codes " stage=open "
