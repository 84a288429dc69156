-- A word of bytes that stand for themselves spells just those.
use Rattle.std.proofs.Common.{◌≡◌, ℕ, ◌<◌, ◌≤◌, ◌/◌, ◌%◌, List, [], ◌∷◌, ◌++◌, length, Bool, true, false, cond, Some, nat_le, ◌==◌, not, ◌&&◌, codes, refl, sym, ap, subst, ◌∙◌, arith}
use Rattle.std.specs.List.{list_all, flat_map}
use Rattle.std.proofs.lemmas.Bool.{false≢true}
use Rattle.std.proofs.lemmas.Bool.Decides.{nat_tests}
use Rattle.hk_script.specs.Words.{is_plain, hexadecimal, spelled, word_of}
use Rattle.hk_script.specs.Parts.{bytes_of, is_text}
use Rattle.hk_script.proofs.Choices.{both}
use Rattle.hk_script.proofs.Spelled.{AreBytes}
use Rattle.hk_script.proofs.Spelling.{bytes_again}

pub plain_spelled : (b : ℕ) → is_plain b ≡ true → spelled b ≡ b ∷ []
plain_spelled b e = ap (λ (p : Bool). cond p (b ∷ []) (37 ∷ hexadecimal (b / 16) ∷ hexadecimal (b % 16) ∷ [])) e

plain_is_byte : (b : ℕ) → is_plain b ≡ true → b < 256
plain_is_byte b e =
    let t = both (nat_le 33 b) (nat_le b 126 && not (b == 37)) e in
    let u = both (nat_le b 126) (not (b == 37)) t.1 in
    let below : b ≤ 126 = (let p = u.0 in grind (arith, nat_tests, p)) in
    omega arith

pub plain_are_bytes : (bytes : List ℕ) → list_all is_plain bytes ≡ true → AreBytes bytes
plain_are_bytes [] e = tt
plain_are_bytes (b ∷ bytes) e =
    let t = both (is_plain b) (list_all is_plain bytes) e in
    (plain_is_byte b t.0, plain_are_bytes bytes t.1)

pub plain_word : (bytes : List ℕ) → list_all is_plain bytes ≡ true → flat_map spelled bytes ≡ bytes
plain_word [] e = refl
plain_word (b ∷ bytes) e =
    let t = both (is_plain b) (list_all is_plain bytes) e in
    ap (λ (front : List ℕ). front ++ flat_map spelled bytes) (plain_spelled b t.0) ∙ ap (λ (rest : List ℕ). b ∷ rest) (plain_word bytes t.1)

one_word : (d : Bool) (b : ℕ) → (b == 45) ≡ d → is_plain b ≡ true → is_text (b ∷ []) (codes "-") ≡ false → cond d (codes "%2D") (spelled b) ≡ b ∷ []
one_word true b is plain other = absurd (let same : b ≡ 45 = grind (arith, nat_tests, is) in false≢true (sym (subst (λ k. is_text (k ∷ []) (codes "-") ≡ false) same other)))
one_word false b is plain other = plain_spelled b plain

is_word : (word : List ℕ) → (length word == 0) ≡ false → is_text word (codes "-") ≡ false → list_all is_plain word ≡ true → word_of word ≡ word
is_word [] some other plain = absurd (false≢true (sym some))
is_word (b ∷ []) some other plain = one_word (b == 45) b refl (both (is_plain b) (list_all is_plain []) plain).0 other
is_word (b ∷ c ∷ bytes) some other plain = plain_word (b ∷ c ∷ bytes) plain

-- what such a word is read as
pub literal_read : (word : List ℕ) → (length word == 0) ≡ false → is_text word (codes "-") ≡ false → list_all is_plain word ≡ true → bytes_of word ≡ Some word
literal_read word some other plain = subst (λ (w : List ℕ). bytes_of w ≡ Some word) (is_word word some other plain) (bytes_again word (plain_are_bytes word plain))
