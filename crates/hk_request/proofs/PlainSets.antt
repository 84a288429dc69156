-- That a line that sets a key, with one space before each word, is read so.
use Rattle.std.proofs.Common.{◌≡◌, ◌≢◌, ℕ, ◌+◌, ◌-◌, ◌<◌, ◌≤◌, slice_index, List, [], ◌∷◌, ◌++◌, length, take, drop, Bool, true, false, Some, None, refl, ap, sym, ◌∙◌, arith}
use Rattle.std.specs.Prelude.{Ok, ◌&&◌, codes, if◌then◌else◌}
use Rattle.std.specs.Char.{is_ascii_digit}
use Rattle.std.specs.List.{list_all, position_or_len, slice_split, onto_first}
use Rattle.std.proofs.lemmas.Bool.Decides.{nat_tests}
use Rattle.std.proofs.lemmas.List.{take-append-drop, take_all, length-drop}
use Rattle.std.proofs.lemmas.List.Sums.{position_or_len_is}
use Rattle.std.proofs.lemmas.List.Splits.{slice_split-cons_no, slice_split_first}
use Rattle.memchr.specs.Find.{IsFirstByte, is_byte}
use Rattle.hk_request.specs.declared.request.Verb.TheVariants as verb
use Rattle.hk_request.specs.declared.request.Head.{Head}
use Rattle.hk_request.specs.Words.{is_space, is_word, words_of}
use Rattle.hk_request.specs.Commands.{command_of}
use Rattle.hk_request.specs.Reading.{store_of, untagged_of, asked_of, head_of_words, head_of}
use Rattle.hk_request.proofs.Lines.{store_found}

-- ---- the word before the first space
first_space : (bytes : List ℕ) (at : ℕ) → IsFirstByte (is_byte 32) bytes (Some at) → position_or_len is_space bytes ≡ at
first_space bytes at first = position_or_len_is is_space bytes at 0 (let lt = first.0.high in omega (arith, lt)) (λ k lt. fails (is_space (slice_index bytes k)) (first.0.before k (omega arith) lt)) (λ lt. first.1)
  where
    fails : (b : Bool) → (b ≡ true → ⊥) → b ≡ false
    fails true never = absurd (never refl)
    fails false never = refl

kept : (test : Bool) (w : List ℕ) (ws : List (List ℕ)) → test ≡ true → (if test then w ∷ ws else ws) ≡ w ∷ ws
kept true w ws e = refl
kept false w ws e = absurd (cc)

pub word_split : (bytes : List ℕ) (at : ℕ) → IsFirstByte (is_byte 32) bytes (Some at) → at ≢ 0 → words_of bytes ≡ take at bytes ∷ words_of (take (length bytes - (at + 1)) (drop (at + 1) bytes))
word_split bytes at first some =
    let all : take (length bytes - (at + 1)) (drop (at + 1) bytes) ≡ drop (at + 1) bytes = take_all _ (drop (at + 1) bytes) (rw (length-drop (at + 1) bytes) (omega arith)) in
    let place : position_or_len is_space bytes ≡ at = first_space bytes at first in
    let high : at < length bytes = first.0.high in
    let parts : slice_split is_space bytes ≡ take at bytes ∷ slice_split is_space (drop (at + 1) bytes) = rw place at (slice_split_first is_space bytes 0 (rw place high)) in
    let word : is_word (take at bytes) ≡ true = grind (arith, nat_tests, high, some) in
    rw (all, parts) (kept (is_word (take at bytes)) (take at bytes) (words_of (drop (at + 1) bytes)) word)

-- ---- digits alone are one word
both : (a b : Bool) → (a && b) ≡ true → (a ≡ true) × (b ≡ true)
both true true h = (refl, refl)
both true false h = absurd (cc)
both false b h = absurd (cc)

digit_is_no_space : (b : ℕ) → is_ascii_digit b ≡ true → is_space b ≡ false
digit_is_no_space b h = grind (arith, nat_tests, h)

one_part : (w : List ℕ) → list_all is_ascii_digit w ≡ true → slice_split is_space w ≡ w ∷ []
one_part [] h = refl
one_part (b ∷ w) h =
    let digits = both (is_ascii_digit b) (list_all is_ascii_digit w) h in
    slice_split-cons_no is_space b w (digit_is_no_space b digits.0) ∙ ap (onto_first b) (one_part w digits.1)

digits_alone : (w : List ℕ) → list_all is_ascii_digit w ≡ true → 0 < length w → words_of w ≡ w ∷ []
digits_alone w digits some =
    let word : is_word w ≡ true = grind (arith, nat_tests, some) in
    rw (one_part w digits) (kept (is_word w) w [] word)

-- ---- the line
front_is : (line : List ℕ) → 4 ≤ length line → slice_index line 0 ≡ 115 → slice_index line 1 ≡ 101 → slice_index line 2 ≡ 116 → slice_index line 3 ≡ 32 → take 4 line ≡ codes "set "
front_is [] le g e t s = absurd (omega (arith, le))
front_is (a ∷ []) le g e t s = absurd (omega (arith, le))
front_is (a ∷ b ∷ []) le g e t s = absurd (omega (arith, le))
front_is (a ∷ b ∷ c ∷ []) le g e t s = absurd (omega (arith, le))
front_is (a ∷ b ∷ c ∷ d ∷ rest) le g e t s = rw (g, e, t, s) refl

words_behind : (line words : List ℕ) → 4 ≤ length line → slice_index line 0 ≡ 115 → slice_index line 1 ≡ 101 → slice_index line 2 ≡ 116 → slice_index line 3 ≡ 32 → words ≡ take (length line - 4) (drop 4 line)
    → words_of line ≡ codes "set" ∷ words_of words
words_behind line words le s e t sp w =
    let behind : words ≡ drop 4 line = w ∙ take_all _ (drop 4 line) (rw (length-drop 4 line) (omega arith)) in
    let whole : line ≡ codes "set " ++ words = sym (take-append-drop 4 line) ∙ rw (front_is line le s e t sp, behind) refl in
    rw whole refl

set_read : (words : List (List ℕ)) (k f e b : List ℕ) (head : Head) → words ≡ codes "set" ∷ k ∷ f ∷ e ∷ b ∷ [] → store_of verb.Set k f e b None false ≡ Ok head → head_of_words words ≡ Ok head
unfolding head_of_words command_of asked_of untagged_of
set_read words k f e b head is stored = rw is stored

pub plain_set : (line words key flags behind expiry more bytes : List ℕ) (head : Head)
    → 4 ≤ length line → slice_index line 0 ≡ 115 → slice_index line 1 ≡ 101 → slice_index line 2 ≡ 116 → slice_index line 3 ≡ 32 → words ≡ take (length line - 4) (drop 4 line)
    → words_of words ≡ key ∷ words_of behind → words_of behind ≡ flags ∷ words_of more → words_of more ≡ expiry ∷ words_of bytes
    → store_of verb.Set key flags expiry bytes None false ≡ Ok head → head_of line ≡ Ok head
unfolding head_of
plain_set line words key flags behind expiry more bytes head le s e t sp w first second third stored =
    let size = store_found verb.Set key flags expiry bytes None false head stored in
    let last : words_of bytes ≡ bytes ∷ [] = digits_alone bytes size.size_word.digits size.size_word.some in
    let all : words_of line ≡ codes "set" ∷ key ∷ flags ∷ expiry ∷ bytes ∷ [] = words_behind line words le s e t sp w ∙ rw (first, second, third, last) refl in
    rw (set_read (words_of line) key flags expiry bytes head all stored) refl
