-- Bytes in words of eight, the first byte lowest.
use Rattle.std.specs.Prelude.{ℕ, zero, suc, ◌+◌, ◌-◌, ◌/◌, ◌%◌, ◌<◌, min, List, [], ◌∷◌, ◌++◌, length, take, drop, replicate, slice_index}
use Rattle.std.specs.Int.{from_le_bytes, to_le_bytes, w64}

-- the first eight bytes, and zeros where there are fewer
abbrev pub eight : List ℕ → List ℕ
eight bytes = take 8 bytes ++ replicate (8 - length bytes) 0

-- so many words of the bytes
abbrev pub words_from : ℕ → List ℕ → List ℕ
words_from zero bytes = []
words_from (suc n) bytes = from_le_bytes w64 (eight bytes) ∷ words_from n (drop 8 bytes)

unfoldable pub packed : ℕ → List ℕ → List ℕ
packed n bytes = words_from n bytes

abbrev pub unpacked : List ℕ → List ℕ
unpacked [] = []
unpacked (word ∷ words) = to_le_bytes w64 word ++ unpacked words

-- how many words so many bytes take
abbrev pub words_for : ℕ → ℕ
words_for n = n / 8 + min 1 (n % 8)

-- the first so many of the bytes that stand in the words
abbrev pub bytes_in : ℕ → List ℕ → List ℕ
bytes_in n words = take n (unpacked (take (words_for n) words))

-- bytes are below 256
abbrev pub AreBytes : List ℕ → Type 0
AreBytes bytes = (i : ℕ) → slice_index bytes i < 256
