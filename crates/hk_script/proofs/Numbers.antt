-- What digits are worth, one after the other.
use Rattle.std.proofs.Common.{◌≡◌, ℕ, ◌+◌, ◌*◌, ◌-◌, ◌<◌, ◌≤◌, ◌^◌, List, [], ◌∷◌, true, false, Some, None, nat_lt, if◌then◌else◌, refl, ap, subst, ◌∙◌, rules, arith}
use Rattle.std.specs.List.{list_all}
use Rattle.std.specs.Char.{is_ascii_digit, digit_value}
use Rattle.std.specs.Str.Parse.{digits_value, digits_value_after}
use Rattle.std.proofs.lemmas.Str.Parse.{IsNumeralModel, numerals_by_value}
use Rattle.std.proofs.lemmas.Bool.Decides.{nat_tests}
use Rattle.hk_script.proofs.Choices.{both}

pub are_digits : IsNumeralModel (λ ds. list_all is_ascii_digit ds ≡ true) (digits_value 10)
are_digits = numerals_by_value _ (search rules)

pub head_digit : (rest behind : List ℕ) (c : ℕ) → rest ≡ c ∷ behind → list_all is_ascii_digit rest ≡ true → is_ascii_digit c ≡ true
head_digit rest behind c is all = (both (is_ascii_digit c) (list_all is_ascii_digit behind) (subst (λ (ds : List ℕ). list_all is_ascii_digit ds ≡ true) is all)).0

-- ---- digit by digit
digit_worth : (c : ℕ) → is_ascii_digit c ≡ true → digit_value c ≡ c - 48
digit_worth c e =
    let t : nat_lt c 48 ≡ false = grind (arith, nat_tests, e) in
    let u : nat_lt c 58 ≡ true = grind (arith, nat_tests, e) in
    rw (t, u) refl

value_grows : (n : ℕ) (ds : List ℕ) → n ≤ digits_value_after 10 n ds
value_grows n [] = omega arith
value_grows n (d ∷ ds) = let h = value_grows (n * 10 + digit_value d) ds in omega (arith, h)

-- a digit more
pub worth_more : (all rest behind : List ℕ) (value c : ℕ) → rest ≡ c ∷ behind → is_ascii_digit c ≡ true → digits_value 10 all ≡ digits_value_after 10 value rest → digits_value 10 all ≡ digits_value_after 10 (value * 10 + (c - 48)) behind
worth_more all rest behind value c is digit e = e ∙ ap (digits_value_after 10 value) is ∙ ap (λ d. digits_value_after 10 (value * 10 + d) behind) (digit_worth c digit)

-- the digits so far are worth too much: so all are
pub worth_over : (all rest behind : List ℕ) (value c : ℕ) → rest ≡ c ∷ behind → is_ascii_digit c ≡ true → digits_value 10 all ≡ digits_value_after 10 value rest → ((value * 10 + (c - 48) < 2 ^ 64) → ⊥)
    → None ≡ (if nat_lt (digits_value 10 all) (2 ^ 64) then Some (digits_value 10 all) else None)
worth_over all rest behind value c is digit e over =
    let m = worth_more all rest behind value c is digit e in
    let h = value_grows (value * 10 + (c - 48)) behind in
    let large : 2 ^ 64 ≤ digits_value 10 all = omega (arith, m, h, over) in
    let t : nat_lt (digits_value 10 all) (2 ^ 64) ≡ false = grind (arith, nat_tests, large) in
    rw t refl

-- no digit is left
pub worth_all : (all rest : List ℕ) (value : ℕ) → rest ≡ [] → digits_value 10 all ≡ digits_value_after 10 value rest → value < 2 ^ 64 → Some value ≡ (if nat_lt (digits_value 10 all) (2 ^ 64) then Some (digits_value 10 all) else None)
worth_all all rest value is e fits =
    let same : digits_value 10 all ≡ value = e ∙ ap (digits_value_after 10 value) is in
    let t : nat_lt value (2 ^ 64) ≡ true = grind (arith, nat_tests, fits) in
    rw (same, t) refl
