-- The words of a status. A hyphen stands for what is not known.
use Rattle.std.specs.Prelude.{ℕ, ◌+◌, ◌/◌, ◌%◌, nat_lt, if◌then◌else◌, List, [], ◌∷◌, ◌++◌, Option, None, Some, codes, decimal}
use Rattle.std.specs.Int.{w64, to_be_bytes}
use Rattle.std.specs.List.{flat_map}
use Rattle.hk_inside.specs.declared.board.Stage.{Stage}
use Rattle.hk_inside.specs.declared.board.Stage.TheVariants as stages
use Rattle.hk_status.specs.declared.status.NodeShown.{NodeShown}
use Rattle.hk_status.specs.declared.status.NodeShown.TheVariants as shown

-- ---- numbers and texts

-- a name and a number, as " lease=" and 1000
abbrev pub field : List ℕ → ℕ → List ℕ
field name number = name ++ decimal number

abbrev pub number_text : Option ℕ → List ℕ
number_text None = codes "-"
number_text (Some number) = decimal number

-- the same, where the number may not be known
abbrev pub known_field : List ℕ → Option ℕ → List ℕ
known_field name number = name ++ number_text number

-- an address, which is not known where it is empty
abbrev pub address_text : List ℕ → List ℕ
address_text [] = codes "-"
address_text (byte ∷ bytes) = byte ∷ bytes

-- ---- foundings, as 16 digits of 4 bits each

-- 0 to 9, then a to f
abbrev pub hex_digit : ℕ → ℕ
hex_digit n = if nat_lt n 10 then 48 + n else 87 + n

abbrev pub hex_byte : ℕ → List ℕ
hex_byte byte = hex_digit (byte / 16) ∷ hex_digit (byte % 16) ∷ []

abbrev pub founding_text : Option ℕ → List ℕ
founding_text None = codes " founding=-"
founding_text (Some founding) = codes " founding=" ++ flat_map hex_byte (to_be_bytes w64 founding)

-- ---- stages and states

abbrev pub stage_text : Stage → List ℕ
stage_text stages.Empty = codes " stage=empty"
stage_text stages.Founded = codes " stage=founded"
stage_text stages.Open = codes " stage=open"

abbrev pub shown_text : NodeShown → List ℕ
shown_text shown.Seated = codes "seated"
shown_text shown.Copying = codes "copying"
shown_text shown.Ready = codes "ready"
shown_text shown.Leaving = codes "leaving"
shown_text shown.Gone = codes "gone"
