-- The words of a script. Each number and each list of bytes has one spelling.
use Rattle.std.specs.Prelude.{ℕ, ◌+◌, ◌/◌, ◌%◌, List, [], ◌∷◌, ◌++◌, Bool, ◌==◌, ◌&&◌, not, nat_le, nat_lt, if◌then◌else◌, codes, decimal}
use Rattle.std.specs.List.{flat_map}
use Rattle.hk_base.specs.declared.letter.Actor.{Actor}
use Rattle.hk_base.specs.declared.letter.Actor.TheVariants.{Node, Manager}

-- a byte that stands for itself: from `!` to `~`, but `%`
abbrev pub is_plain : ℕ → Bool
is_plain b = nat_le 33 b && (nat_le b 126 && not (b == 37))

-- `0` to `9`, `A` to `F`
abbrev pub hexadecimal : ℕ → ℕ
hexadecimal d = if nat_lt d 10 then 48 + d else 55 + d

-- any other byte is `%` and two upper-case hexadecimal digits
abbrev pub spelled : ℕ → List ℕ
spelled b = if is_plain b then b ∷ [] else 37 ∷ hexadecimal (b / 16) ∷ hexadecimal (b % 16) ∷ []

-- the word of some bytes: `-` stands for none, so that the one byte `-` is `%2D`
abbrev pub word_of : List ℕ → List ℕ
word_of [] = codes "-"
word_of (b ∷ []) = if b == 45 then codes "%2D" else spelled b
word_of (b ∷ c ∷ bytes) = flat_map spelled (b ∷ c ∷ bytes)

-- a node is its number, a manager `m` and its number
abbrev pub actor_word : Actor → List ℕ
actor_word (Node id) = decimal id.0
actor_word (Manager m) = codes "m" ++ decimal m
