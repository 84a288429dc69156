-- The number that digits write, as std reads it.
use Rattle.std.proofs.Common.{◌≡◌, ℕ, ◌<◌, ◌^◌, true, not, ◌==◌, ◌&&◌, nat_lt, if◌then◌else◌, List, length, None, Some, Result, Ok, Err, rules, arith, inl, inr}
use Rattle.std.specs.List.{list_all}
use Rattle.std.specs.Char.{is_ascii_digit}
use Rattle.std.specs.Result.{result_ok, OkIff}
use Rattle.std.specs.Str.{IsUtf8}
use Rattle.std.specs.Str.Parse.{digits_value, ParsesUnsigned}
use Rattle.std.proofs.lemmas.Bool.Decides.{nat_tests}
use Rattle.std.proofs.lemmas.Bool.{cases_lt}
use Rattle.std.proofs.lemmas.Fmt.{IsAscii-from_digits}
use Rattle.std.proofs.lemmas.Str.{IsUtf8-from_ascii}
use Rattle.std.proofs.lemmas.Str.Parse.{IsNumeralModel, numerals_by_value, parse_digits}
use Rattle.hk_init.specs.HostNodes.{number_of}

are_digits : IsNumeralModel (λ ds. list_all is_ascii_digit ds ≡ true) (digits_value 10)
are_digits = numerals_by_value _ (search rules)

pub are_text : (bs : List ℕ) → list_all is_ascii_digit bs ≡ true → IsUtf8 bs
are_text bs digits = IsUtf8-from_ascii bs (IsAscii-from_digits bs (are_digits.to bs digits))

ok_below : {E : Type 0} (r : Result ℕ E) (n v : ℕ) → OkIff r ((0 < n) × (v < 2 ^ 16)) v → result_ok r ≡ (if not (n == 0) && nat_lt v 65536 then Some v else None)
ok_below (Ok x) n v h = grind (arith, nat_tests, h.0.0, h.0.1, h.1)
ok_below (Err e) n v h = elim (cases_lt 0 n) [ inl some ↦ (elim (cases_lt v 65536) [ inl fits ↦ absurd (h (some, fits)) | inr large ↦ grind (arith, nat_tests, large) ]) | inr none ↦ grind (arith, nat_tests, none) ]

pub number_read : {E : Type 0} (bs : List ℕ) (r : Result ℕ E) → ParsesUnsigned 16 10 bs r → list_all is_ascii_digit bs ≡ true → result_ok r ≡ number_of bs
number_read bs r h digits = rw digits (ok_below r (length bs) (digits_value 10 bs) (parse_digits are_digits 16 bs r h digits))
