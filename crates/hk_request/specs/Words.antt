-- The words of a line, and the numbers among them.
use Rattle.std.specs.Prelude.{ℕ, ◌^◌, List, length, filter, Bool, Option, None, Some, ◌==◌, not, nat_lt, nat_le, nat_eq, if◌then◌else◌}
use Rattle.std.specs.List.{list_all, slice_split}
use Rattle.std.specs.Cmp.Lexicographic.{pointwise}
use Rattle.std.specs.Char.{is_ascii_digit}
use Rattle.std.specs.Str.Parse.{digits_value}

abbrev pub is_space : ℕ → Bool
is_space b = b == 32

-- whether something stands between two spaces
abbrev pub is_word : List ℕ → Bool
is_word w = not (length w == 0)

-- the words between the spaces
abbrev pub words_of : List ℕ → List (List ℕ)
words_of line = filter is_word (slice_split is_space line)

-- whether a word is this text
abbrev pub is_text : List ℕ → List ℕ → Bool
is_text word text = pointwise nat_eq word text

-- the value of 1 to 20 decimal digits below 2 ^ 64, where it is at most the limit
unfoldable pub number_of : ℕ → List ℕ → Option ℕ
number_of limit word =
    if length word == 0 then None
    else (if nat_lt 20 (length word) then None
    else (if not (list_all is_ascii_digit word) then None
    else (if nat_lt (digits_value 10 word) (2 ^ 64) then (if nat_le (digits_value 10 word) limit then Some (digits_value 10 word) else None) else None)))
