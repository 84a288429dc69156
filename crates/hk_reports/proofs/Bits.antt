-- The bits of the managers that are up.
use Rattle.std.proofs.Common.{◌≡◌, ◌<◌, ◌≤◌, ◌+◌, ◌*◌, ◌/◌, ◌%◌, ◌==◌, ℕ, zero, suc, Bool, true, false, List, [], ◌∷◌, length, slice_index_or, refl, ap, ◌∙◌, arith}
use Rattle.hk_reports.specs.Hearing.{bit, bits_up, is_up_at}
use Rattle.hk_reports.specs.Laws.{has_bit, BitsAreManagersUp}

abbrev one : Bool → ℕ
one true = 1
one false = 0

one_is : (b : Bool) → (one b == 1) ≡ b
one_is true = refl
one_is false = refl

one_few : (b : Bool) → one b ≤ 1
one_few true = omega arith
one_few false = omega arith

bit_is : (b : Bool) (value : ℕ) → bit b value ≡ one b * value
bit_is true value = omega arith
bit_is false value = omega arith

-- the lowest one first
abbrev bits_of : List Bool → ℕ
bits_of [] = 0
bits_of (b ∷ bs) = one b + 2 * bits_of bs

odd : (b rest : ℕ) → b ≤ 1 → (b + 2 * rest) % 2 ≡ b
odd b rest few = omega (arith, few)

half : (b rest : ℕ) → b ≤ 1 → (b + 2 * rest) / 2 ≡ rest
half b rest few = omega (arith, few)

bit_of : (bs : List Bool) (place : ℕ) → place < length bs → has_bit place (bits_of bs) ≡ slice_index_or bs place false
bit_of [] place there = absurd (omega (arith, there))
bit_of (b ∷ bs) zero there = ap (λ (n : ℕ). n == 1) (odd (one b) (bits_of bs) (one_few b)) ∙ one_is b
bit_of (b ∷ bs) (suc place) there = ap (has_bit place) (half (one b) (bits_of bs) (one_few b)) ∙ bit_of bs place (omega (arith, there))

abbrev ups : (ℕ → Bool) → List Bool
ups up = up 0 ∷ up 1 ∷ up 2 ∷ up 3 ∷ up 4 ∷ up 5 ∷ up 6 ∷ up 7 ∷ up 8 ∷ []

ups_are : (up : ℕ → Bool) → bits_up up ≡ bits_of (ups up)
ups_are up =
    omega (arith, bit_is (up 0) 1, bit_is (up 1) 2, bit_is (up 2) 4, bit_is (up 3) 8, bit_is (up 4) 16, bit_is (up 5) 32, bit_is (up 6) 64, bit_is (up 7) 128, bit_is (up 8) 256)

up_at : (up : ℕ → Bool) (place : ℕ) → place < 9 → slice_index_or (ups up) place false ≡ up place
up_at up zero few = refl
up_at up (suc zero) few = refl
up_at up (suc (suc zero)) few = refl
up_at up (suc (suc (suc zero))) few = refl
up_at up (suc (suc (suc (suc zero)))) few = refl
up_at up (suc (suc (suc (suc (suc zero))))) few = refl
up_at up (suc (suc (suc (suc (suc (suc zero)))))) few = refl
up_at up (suc (suc (suc (suc (suc (suc (suc zero))))))) few = refl
up_at up (suc (suc (suc (suc (suc (suc (suc (suc zero)))))))) few = refl
up_at up (suc (suc (suc (suc (suc (suc (suc (suc (suc n))))))))) few = absurd (omega (arith, few))

pub bits_are_managers_up : BitsAreManagersUp
bits_are_managers_up now own lease place s few =
    let up = λ (k : ℕ). is_up_at now own lease s.came k in
    ap (has_bit place) (ups_are up) ∙ bit_of (ups up) place few ∙ up_at up place few
