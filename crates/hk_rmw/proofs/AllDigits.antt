-- Two words for one test of digits.
use Rattle.std.proofs.Common.{◌≡◌, ℕ, List, [], ◌∷◌, refl, ap, ◌&&◌}
use Rattle.std.specs.List.{list_all}
use Rattle.std.specs.Char.{is_ascii_digit}
use Rattle.std.specs.Str.{all_ascii_digits}

pub all_ascii_digits-list_all : (bytes : List ℕ) → list_all is_ascii_digit bytes ≡ all_ascii_digits bytes
all_ascii_digits-list_all [] = refl
all_ascii_digits-list_all (x ∷ xs) = ap (λ rest. is_ascii_digit x && rest) (all_ascii_digits-list_all xs)

pub ruleset all_digits = all_ascii_digits-list_all
