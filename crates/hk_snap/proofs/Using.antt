-- A store and a load of the words in use.
use Rattle.std.proofs.Common.{◌≡◌, ℕ, ◌+◌, ◌<◌, List, [], ◌∷◌, ◌++◌, length, take, drop, get_or, Option, Some, None, refl, sym, ap, ◌∙◌, arith, length-append}
use Rattle.std.proofs.lemmas.List.{take_at, take-append-drop}
use mathlib.Core.List.{IsPrefix}
use Rattle.hk_seq.specs.Steps.{in_use, over, HasInUse}
use Rattle.hk_snap.specs.declared.snapshot.Snapshot.{Snapshot}
use Rattle.hk_snap.specs.Packed.{packed, words_for}
use Rattle.hk_snap.specs.Layout.{used, head_words, data_in, words_of, no_words, words_at}
use Rattle.hk_snap.proofs.Packing.{length_packed}
use Rattle.hk_snap.proofs.Packing.{length_packed}

-- the first word of those in use tells how many they are
pub used_words : (s : Snapshot) → length (words_of s) ≡ used (length s.key) (length (data_in s.shape))
unfolding words_of
used_words s =
    let k : ℕ = words_for (length s.key) in let d : ℕ = words_for (length (data_in s.shape)) in
    length-append (head_words s ++ packed k s.key) (packed d (data_in s.shape))
    ∙ ((λ i. length-append (head_words s) (packed k s.key) i + length_packed d (data_in s.shape) i) ∙ ap (λ (n : ℕ). 9 + n + d) (length_packed k s.key))

first_word : (s : Snapshot) → get_or (words_of s) 0 0 ≡ used (length s.key) (length (data_in s.shape))
unfolding words_of
first_word s = refl

-- the words in use tell their own number
pub own_number : (shown : Option Snapshot) → get_or (words_at shown) 0 0 ≡ length (words_at shown)
unfolding no_words
own_number None = refl
own_number (Some s) = first_word s ∙ sym (used_words s)

pub some_words : (shown : Option Snapshot) → 0 < length (words_at shown)
unfolding no_words
some_words None = omega arith
some_words (Some s) = omega (arith, used_words s)

pub first_of_front : (front words : List ℕ) → 0 < length front → IsPrefix front words → get_or words 0 0 ≡ get_or front 0 0
first_of_front [] words some p = absurd (omega arith)
first_of_front (x ∷ front) words some p = ap (λ l. get_or l 0 0) (sym p.1)

-- a front that tells its own length is just the words in use
pub uses : (front words : List ℕ) → 0 < length front → get_or front 0 0 ≡ length front → length words ≡ 166 → IsPrefix front words
    → (in_use 166 words ≡ length front) × (take (in_use 166 words) words ≡ front)
uses front words some own long p =
    let first : get_or words 0 0 ≡ length front = first_of_front front words some p ∙ own in
    let all : length front + length p.0 ≡ 166 = sym (length-append front p.0) ∙ (ap length p.1 ∙ long) in
    let same : in_use 166 words ≡ length front = omega (arith, first, all) in
    (same, (λ i. take (same i) (sym p.1 i)) ∙ take_at front p.0 (length front) refl)

-- what is stored over other words
pub stored : (s : Snapshot) (new old : List ℕ) → length new ≡ 166 → IsPrefix (words_of s) new → IsPrefix (words_of s) (over 166 new old)
stored s new old long p =
    let u = uses (words_of s) new (some_words (Some s)) (own_number (Some s)) long p in
    (drop (in_use 166 new) old, ap (λ l. l ++ drop (in_use 166 new) old) (sym u.1))

-- what a room has of the words that are loaded
pub loaded : (shown : Option Snapshot) (x room : List ℕ) → IsPrefix (words_at shown) x → HasInUse 166 room x → IsPrefix (words_at shown) room
loaded shown x room p has =
    let u = uses (words_at shown) x (some_words shown) (own_number shown) has.0 p in
    let front : take (in_use 166 x) room ≡ words_at shown = has.1 ∙ u.1 in
    (drop (in_use 166 x) room, ap (λ l. l ++ drop (in_use 166 x) room) (sym front) ∙ take-append-drop (in_use 166 x) room)
