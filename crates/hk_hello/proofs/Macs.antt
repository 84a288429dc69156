-- Blocks byte by byte, and digests of texts one behind the other.
use Rattle.std.proofs.Common.{◌≡◌, ℕ, ◌<◌, List, length, get_or, sym, ◌∙◌, arith}
use Rattle.std.specs.Prelude.{bit_xor, map}
use Rattle.std.proofs.lemmas.List.{length-map, get_or-map}
use Rattle.std.proofs.lemmas.Grind.{same_number_lists}
use Rattle.hk_hello.specs.Mac.{masked}

-- a list of masked bytes is the masked list
pub masked_is : (mask : ℕ) (xs ys : List ℕ) → length ys ≡ length xs → ((k : ℕ) → k < length xs → get_or ys k 0 ≡ bit_xor (get_or xs k 0) mask) → ys ≡ masked mask xs
unfolding masked
masked_is mask xs ys same each =
    let len : length (map (λ b. bit_xor b mask) xs) ≡ length xs = length-map xs (λ b. bit_xor b mask) in
    same_number_lists ys (map (λ b. bit_xor b mask) xs) (same ∙ sym len) (λ k h. each k (omega (arith, same, h)) ∙ sym (get_or-map (λ b. bit_xor b mask) xs k 0 0 (omega (arith, same, h))))
