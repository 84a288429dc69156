-- What was words_from is unpacked.
use Rattle.std.proofs.Common.{◌≡◌, ℕ, zero, suc, ◌+◌, ◌*◌, ◌-◌, ◌/◌, ◌<◌, ◌≤◌, List, [], ◌∷◌, ◌++◌, length, get_or, take, drop, set, replicate, refl, sym, ap, ◌∙◌, subst, arith, append_assoc, length-append, length-drop}
use Rattle.std.specs.Int.{from_le_bytes, to_le_bytes, w64}
use Rattle.std.proofs.lemmas.Nat.{le_bytes_8}
use Rattle.std.proofs.lemmas.List.{append-nil, drop-drop, drop_all, take_at}
use Rattle.std.proofs.lemmas.Grind.{div_ceil_times}
use mathlib.Core.List.{IsPrefix}
use Rattle.std.proofs.lemmas.Slice.{take-put_mid}
use Rattle.std.proofs.Math.Seq.{take-suc, drop-length}
use Rattle.std.specs.Simd.{first_chunks}
use borrow.Rule.Slice.PartMut.{put_mid}
use Rattle.hk_snap.specs.Packed.{words_from, packed, unpacked, words_for, eight, AreBytes}

zero_byte : (n i : ℕ) → get_or (replicate n 0) i 0 < 256
zero_byte zero i = omega arith
zero_byte (suc n) zero = omega arith
zero_byte (suc n) (suc i) = zero_byte n i

-- eight bytes, each below 256
eight_wide : (bytes : List ℕ) → length (eight bytes) ≡ 8
eight_wide [] = refl
eight_wide (a ∷ []) = refl
eight_wide (a ∷ b ∷ []) = refl
eight_wide (a ∷ b ∷ c ∷ []) = refl
eight_wide (a ∷ b ∷ c ∷ d ∷ []) = refl
eight_wide (a ∷ b ∷ c ∷ d ∷ e ∷ []) = refl
eight_wide (a ∷ b ∷ c ∷ d ∷ e ∷ f ∷ []) = refl
eight_wide (a ∷ b ∷ c ∷ d ∷ e ∷ f ∷ g ∷ []) = refl
eight_wide (a ∷ b ∷ c ∷ d ∷ e ∷ f ∷ g ∷ h ∷ rest) = let none : 8 - length (a ∷ b ∷ c ∷ d ∷ e ∷ f ∷ g ∷ h ∷ rest) ≡ 0 = omega arith in rw none refl

take_byte : (n : ℕ) (bytes zs : List ℕ) → AreBytes bytes → ((i : ℕ) → get_or zs i 0 < 256) → (i : ℕ) → get_or (take n bytes ++ zs) i 0 < 256
take_byte zero bytes zs all z i = z i
take_byte (suc n) [] zs all z i = z i
take_byte (suc n) (b ∷ bytes) zs all z zero = all zero
take_byte (suc n) (b ∷ bytes) zs all z (suc i) = take_byte n bytes zs (λ j. all (suc j)) z i

pub packs_on : (words rest : List ℕ) (n k : ℕ) → k < n → length words ≡ n → take (k + 1) (set words k (from_le_bytes w64 (eight rest))) ++ words_from (n - (k + 1)) (drop 8 rest) ≡ take k words ++ words_from (n - k) rest
packs_on [] rest n k below long = absurd (omega arith)
packs_on (x ∷ xs) rest zero k below long = absurd (omega arith)
packs_on (x ∷ xs) rest (suc n) zero below long = let e : suc n - (0 + 1) ≡ n = omega arith in let f : suc n - 0 ≡ suc n = omega arith in rw (e, f) refl
packs_on (x ∷ xs) rest (suc n) (suc k) below long = let e : suc n - (suc k + 1) ≡ n - (k + 1) = omega arith in let f : suc n - suc k ≡ n - k = omega arith in let g : suc k + 1 ≡ suc (k + 1) = omega arith in rw (e, f, g) (ap (λ l. x ∷ l) (packs_on xs rest n k (omega arith) (omega arith)))

-- where no byte is left, the words are zeros
zeros_from : (n : ℕ) → words_from n [] ≡ replicate n 0
zeros_from zero = refl
zeros_from (suc n) = ap (λ l. 0 ∷ l) (zeros_from n)

-- each chunk of eight is what stands at its place
chunk_at : (n k : ℕ) (xs other : List ℕ) → k < n → get_or (first_chunks 8 n xs) k other ≡ take 8 (drop (8 * k) xs)
chunk_at zero k xs other below = absurd (omega arith)
chunk_at (suc n) zero xs other below = refl
chunk_at (suc n) (suc k) xs other below =
    let more : 8 + 8 * k ≡ 8 * suc k = omega arith in
    chunk_at n k (drop 8 xs) other (omega arith) ∙ ap (take 8) (drop-drop (8 * k) 8 xs ∙ ap (λ j. drop j xs) more)

whole_eight : (bytes : List ℕ) → 8 ≤ length bytes → eight bytes ≡ take 8 bytes
whole_eight bytes wide = let none : 8 - length bytes ≡ 0 = omega (arith, wide) in rw none (append-nil (take 8 bytes))

-- one chunk more is packed
pub packs_chunk : (words bytes other : List ℕ) (chunks : List (List ℕ)) (word n k : ℕ) → k < n → length words ≡ n → k < length bytes / 8 → chunks ≡ first_chunks 8 (length bytes / 8) bytes → word ≡ from_le_bytes w64 (get_or chunks k other)
    → take (k + 1) (set words k word) ++ words_from (n - (k + 1)) (drop (8 * (k + 1)) bytes) ≡ take k words ++ words_from (n - k) (drop (8 * k) bytes)
packs_chunk words bytes other chunks word n k below long within are is =
    let rest = drop (8 * k) bytes in
    let wide : 8 ≤ length rest = rw (length-drop (8 * k) bytes) (omega (arith, within)) in
    let chunk : word ≡ from_le_bytes w64 (eight rest) = is ∙ ap (from_le_bytes w64) (ap (λ c. get_or c k other) are ∙ (chunk_at (length bytes / 8) k bytes other within ∙ sym (whole_eight rest wide))) in
    let more : 8 * k + 8 ≡ 8 * (k + 1) = omega arith in
    let next : drop (8 * (k + 1)) bytes ≡ drop 8 rest = sym (drop-drop 8 (8 * k) bytes ∙ ap (λ j. drop j bytes) more) in
    rw (chunk, next) (packs_on words rest n k below long)

-- a word for fewer than eight bytes, and zeros behind it
pub packs_rest : (words zeros bytes : List ℕ) (word m : ℕ) → 0 < length words → m ≡ length words - 1 → length bytes < 8 → word ≡ from_le_bytes w64 (eight bytes) → zeros ≡ replicate m 0
    → put_mid 1 m (set words 0 word) zeros ≡ packed (length words) bytes
unfolding packed
packs_rest [] zeros bytes word m some only few is none = absurd (omega arith)
packs_rest (x ∷ xs) zeros bytes word m some only few is none =
    let wide : m ≡ length xs = omega (arith, only) in
    let behind : replicate m 0 ≡ words_from (length xs) (drop 8 bytes) = ap (λ j. replicate j 0) wide ∙ sym (ap (words_from (length xs)) (drop_all 8 bytes (omega (arith, few))) ∙ zeros_from (length xs)) in
    let past : drop m xs ≡ [] = ap (λ j. drop j xs) wide ∙ drop-length xs in
    (λ i. is i ∷ ((none ∙ behind) i ++ past i)) ∙ ap (λ l. from_le_bytes w64 (eight bytes) ∷ l) (append-nil (words_from (length xs) (drop 8 bytes)))

take_front : (xs ys : List ℕ) → take (length xs) (xs ++ ys) ≡ xs
take_front [] ys = refl
take_front (x ∷ xs) ys = ap (λ l. x ∷ l) (take_front xs ys)

word_back : (bytes : List ℕ) → AreBytes bytes → to_le_bytes w64 (from_le_bytes w64 (eight bytes)) ≡ eight bytes
word_back bytes all = le_bytes_8 (eight bytes) (from_le_bytes w64 (eight bytes)) (eight_wide bytes) (take_byte 8 bytes (replicate (8 - length bytes) 0) all (zero_byte (8 - length bytes))) refl

unpacks_from : (n : ℕ) (bytes : List ℕ) → AreBytes bytes → length bytes ≤ 8 * n → take (length bytes) (unpacked (words_from n bytes)) ≡ bytes
unpacks_from zero [] all fits = refl
unpacks_from zero (b ∷ bytes) all fits = absurd (omega arith)
unpacks_from (suc n) bytes all fits = subst (λ (w : List ℕ). take (length bytes) (w ++ unpacked (words_from n (drop 8 bytes))) ≡ bytes) (sym (word_back bytes all)) (go bytes all fits (unpacks_from n))
  where
    go : (bs : List ℕ) → AreBytes bs → length bs ≤ 8 * suc n → ((cs : List ℕ) → AreBytes cs → length cs ≤ 8 * n → take (length cs) (unpacked (words_from n cs)) ≡ cs) → take (length bs) (eight bs ++ unpacked (words_from n (drop 8 bs))) ≡ bs
    go [] all' fits' again = refl
    go (a ∷ []) all' fits' again = refl
    go (a ∷ b ∷ []) all' fits' again = refl
    go (a ∷ b ∷ c ∷ []) all' fits' again = refl
    go (a ∷ b ∷ c ∷ d ∷ []) all' fits' again = refl
    go (a ∷ b ∷ c ∷ d ∷ e ∷ []) all' fits' again = refl
    go (a ∷ b ∷ c ∷ d ∷ e ∷ f ∷ []) all' fits' again = refl
    go (a ∷ b ∷ c ∷ d ∷ e ∷ f ∷ g ∷ []) all' fits' again = refl
    go (a ∷ b ∷ c ∷ d ∷ e ∷ f ∷ g ∷ h ∷ rest) all' fits' again =
        let none : 8 - length (a ∷ b ∷ c ∷ d ∷ e ∷ f ∷ g ∷ h ∷ rest) ≡ 0 = omega arith in
        rw none (ap (λ l. a ∷ b ∷ c ∷ d ∷ e ∷ f ∷ g ∷ h ∷ l) (again rest (λ i. all' (suc (suc (suc (suc (suc (suc (suc (suc i))))))))) (omega arith)))

unpacked_more : (words : List ℕ) (word : ℕ) → unpacked (words ++ word ∷ []) ≡ unpacked words ++ to_le_bytes w64 word
unpacked_more [] word = append-nil (to_le_bytes w64 word)
unpacked_more (x ∷ words) word = ap (λ l. to_le_bytes w64 x ++ l) (unpacked_more words word) ∙ sym (append_assoc (to_le_bytes w64 x) (unpacked words) (to_le_bytes w64 word))

-- one word more is unpacked
pub unpacks_on : (words room bytes : List ℕ) (k n : ℕ) → k < length words → length room ≡ 8 * length words → take (8 * k) room ≡ unpacked (take k words) → bytes ≡ to_le_bytes w64 (get_or words k 0) → length bytes ≡ 8 → take (8 * (k + 1)) (put_mid (8 * k) n room bytes) ≡ unpacked (take (k + 1) words)
unpacks_on words room bytes k n below wide done is eight_of =
    let one : k + 1 ≡ suc k = omega arith in
    let more : take (k + 1) words ≡ take k words ++ get_or words k 0 ∷ [] = ap (λ j. take j words) one ∙ take-suc words k 0 below in
    take-put_mid (8 * k) n room bytes (8 * (k + 1)) (omega (arith, eight_of)) (omega (arith, below, wide))
    ∙ ((λ i. done i ++ is i) ∙ (sym (unpacked_more (take k words) (get_or words k 0)) ∙ ap unpacked (sym more)))

pub unpacks : (n : ℕ) (bytes : List ℕ) → AreBytes bytes → length bytes ≤ 8 * n → take (length bytes) (unpacked (packed n bytes)) ≡ bytes
unfolding packed
unpacks n bytes all fits = unpacks_from n bytes all fits

length_words : (n : ℕ) (bytes : List ℕ) → length (words_from n bytes) ≡ n
length_words zero bytes = refl
length_words (suc n) bytes = ap suc (length_words n (drop 8 bytes))

pub length_packed : (n : ℕ) (bytes : List ℕ) → length (packed n bytes) ≡ n
unfolding packed
length_packed n bytes = length_words n bytes

-- so many words are enough for the bytes
pub enough : (n : ℕ) → n ≤ 8 * words_for n
enough n = let d = (div_ceil_times n 8 (omega arith)).0 in omega (arith, d)

-- a head of nine words, then so many, and then so many again, put one after the other
joins_up : (old head key small : List ℕ) (k : ℕ) → length head ≡ 9 → length key ≡ k
    → (w x y rest : List ℕ) → w ≡ head ++ drop 9 old → x ≡ take 9 w ++ key ++ drop (9 + k) w → y ≡ take (9 + k) x ++ small ++ rest → IsPrefix (head ++ key ++ small) y
joins_up old head key small k lh lk w x y rest ew ex ey =
    let t9 : take 9 w ≡ head = ap (take 9) ew ∙ take_at head (drop 9 old) 9 lh in
    let front : x ≡ (head ++ key) ++ drop (9 + k) w = ex ∙ ap (λ h. h ++ key ++ drop (9 + k) w) t9 in
    let lf : length (head ++ key) ≡ 9 + k = length-append head key ∙ omega (arith, lh, lk) in
    let t : take (9 + k) x ≡ head ++ key = ap (take (9 + k)) front ∙ take_at (head ++ key) (drop (9 + k) w) (9 + k) lf in
    (rest, sym (ey ∙ ap (λ h. h ++ small ++ rest) t))

pub assembles : (old head key small : List ℕ) (k m : ℕ) → k ≡ words_for (length key) → m ≡ words_for (length small) → length head ≡ 9 → (w x y rest : List ℕ) → w ≡ head ++ drop 9 old
    → x ≡ take 9 w ++ packed k key ++ drop (9 + k) w → y ≡ take (9 + k) x ++ packed m small ++ rest → IsPrefix (head ++ packed (words_for (length key)) key ++ packed (words_for (length small)) small) y
assembles old head key small k m ek em lh w x y rest ew ex ey =
    subst (λ (z : ℕ × ℕ). IsPrefix (head ++ packed z.0 key ++ packed z.1 small) y) (λ i. (ek i, em i))
    (joins_up old head (packed k key) (packed m small) k lh (length_packed k key) w x y rest ew ex ey)
