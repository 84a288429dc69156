-- Numbers in decimal digits.
use Rattle.std.proofs.Common.{◌≡◌, ◌≢◌, ℕ, ◌<◌, ◌^◌, Bool, false, true≢false, List, Option, Some, None, is_some, Result, Ok, Err, sym, ap, ◌∙◌, decimal, arith}
use Rattle.std.specs.Prelude.{Decides}
use Rattle.std.specs.Option.{unwrap_or}
use Rattle.std.specs.Str.Parse.{ParsesUnsigned}
use Rattle.std.proofs.lemmas.Fmt.{parse-decimal, decimal_injective}

abbrev told : {E : Type 0} → Result ℕ E → Option ℕ
told (Ok n) = Some n
told (Err e) = None

read : {E : Type 0} (digits : List ℕ) (r : Result ℕ E) → ParsesUnsigned 32 10 digits r → (n : ℕ) → n < 2 ^ 32 → digits ≡ decimal n → told r ≡ Some n
read digits r p n lt text = ap told (parse-decimal 32 n digits r lt (omega (arith, lt)) text p)

pub no_number : {E : Type 0} (digits : List ℕ) (e : E) → ParsesUnsigned 32 10 digits (Err e) → (n : ℕ) → n < 2 ^ 32 → digits ≢ decimal n
no_number digits e p n lt text = true≢false (sym (ap is_some (read digits (Err e) p n lt text)))

-- what is read of digits is the same with any type of errors
module _ (digits : List ℕ) (m : ℕ) (p : ParsesUnsigned {E = ℕ} 32 10 digits (Ok m)) where
  own_number : (n : ℕ) → n < 2 ^ 32 → digits ≡ decimal n → m ≡ n
  own_number n lt text = ap (λ (o : Option ℕ). unwrap_or o 0) (read {E = ℕ} digits (Ok m) p n lt text)

  pub not_printed : (is : Bool) → Decides is (digits ≡ decimal m) → is ≡ false → (n : ℕ) → n < 2 ^ 32 → digits ≢ decimal n
  not_printed is d f n lt text = true≢false (sym (d.1 (text ∙ ap decimal (sym (own_number n lt text)))) ∙ f)

-- digits write one number
pub one_number : (text : List ℕ) (m n : ℕ) → m < 2 ^ 32 → n < 2 ^ 32 → text ≡ decimal m → text ≡ decimal n → m ≡ n
one_number text m n lt below e f = decimal_injective m n (omega (arith, lt)) (omega (arith, below)) (sym e ∙ f)
