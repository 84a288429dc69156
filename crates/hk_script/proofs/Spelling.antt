-- The parts of a line, each by its word: what is read is spelled so, and what is spelled so is read.
use Rattle.std.proofs.Common.{◌≡◌, ℕ, ◌+◌, ◌/◌, ◌%◌, ◌<◌, ◌≤◌, ◌^◌, inl, inr, List, [], ◌∷◌, ◌++◌, length, get_or, Bool, true, false, cond, not, Option, Some, None, nat_lt, nat_le, ◌==◌, if◌then◌else◌, codes, decimal, refl, sym, ap, subst, ◌∙◌, arith, eq-eqb, append-nil}
use Rattle.std.specs.List.{list_all, flat_map}
use Rattle.std.specs.Char.{is_ascii_digit}
use Rattle.std.specs.Str.Parse.{digits_value}
use Rattle.std.proofs.lemmas.Bool.{false≢true, cases_lt}
use Rattle.std.proofs.lemmas.Bool.Decides.{nat_tests}
use Rattle.std.proofs.lemmas.Fmt.{decimal-digits_value, digits_decimal, digits_value-decimal, decimal_nonempty, first_decimal, decimal_digit}
use Rattle.hk_script.specs.Words.{is_plain, hexadecimal, spelled, word_of}
use Rattle.hk_script.specs.Reading.{IsNumberRead}
use Rattle.hk_script.specs.Parts.{number_of, has_spare_zero, unspelled, byte_at, escaped_at, escape_of, digit_of, bytes_of, is_text, is_space}
use Rattle.hk_script.proofs.Numbers.{are_digits}
use Rattle.hk_script.proofs.Choices.{chosen, held, failed, some_same, both, not_false, text_is, no_some}
use Rattle.hk_script.proofs.Spaces.{NoSpace, digits_no_space, no_space_append, plain_not_space}
use Rattle.hk_script.proofs.Spelled.{AreBytes, unspelled_takes, unspelled_again, spelled_long}

pub record IsPart {A : Type 0} (V : A → Type 0) (spell : A → List ℕ) (read : List ℕ → Option A) : Type 0 where
  pub takes : (w : List ℕ) (x : A) → read w ≡ Some x → V x × (w ≡ spell x)
  pub again : (x : A) → V x → read (spell x) ≡ Some x
  pub spaceless : (x : A) → V x → NoSpace (spell x)

-- ---- numbers
length_zero : {A : Type 0} (xs : List A) → (length xs == 0) ≡ false → 0 < length xs
length_zero xs e = grind (arith, nat_tests, e)

lone_zero : (b : Bool) (word : List ℕ) → (length word == 1) ≡ b → (if b then false else (get_or word 0 0 == 48)) ≡ false → get_or word 0 0 ≡ 48 → length word ≡ 1
lone_zero true word e z first = grind (arith, nat_tests, e)
lone_zero false word e z first = absurd (false≢true (sym z ∙ eq-eqb _ _ first))

pub number_takes : (limit : ℕ) (word : List ℕ) (n : ℕ) → number_of limit word ≡ Some n → (n ≤ limit) × (word ≡ decimal n)
unfolding number_of
number_takes limit word n e =
    let a = failed (length word == 0) _ n e in
    let b = failed (not (list_all is_ascii_digit word)) _ n a.1 in
    let c = failed (has_spare_zero word) _ n b.1 in
    let d = held (nat_lt (digits_value 10 word) (2 ^ 64)) _ n c.1 in
    let f = held (nat_le (digits_value 10 word) limit) _ n d.1 in
    let value : digits_value 10 word ≡ n = some_same _ _ f.1 in
    let below : digits_value 10 word < 2 ^ 64 = grind (arith, nat_tests, d.0) in
    let within : digits_value 10 word ≤ limit = grind (arith, nat_tests, f.0) in
    (omega arith, sym (decimal-digits_value are_digits word (not_false _ b.0) (length_zero word a.0) (lone_zero (length word == 1) word refl c.0) below) ∙ ap decimal value)

spare_some : (b : Bool) (first : ℕ) → 48 < first → (if b then false else (first == 48)) ≡ false
spare_some true first lt = refl
spare_some false first lt = grind (arith, nat_tests)

zero_spare : has_spare_zero (decimal 0) ≡ false
zero_spare = rw (decimal_digit 0 (omega arith)) refl

spare : (n : ℕ) → n < 2 ^ 64 → has_spare_zero (decimal n) ≡ false
spare n lt = elim (cases_lt 0 n) [
  | inl some ↦ spare_some (length (decimal n) == 1) (get_or (decimal n) 0 0) (first_decimal n some lt)
  | inr none ↦ let zero_is : 0 ≡ n = omega arith in subst (λ k. has_spare_zero (decimal k) ≡ false) zero_is zero_spare
]

pub number_again : (limit n : ℕ) → n ≤ limit → limit < 2 ^ 64 → number_of limit (decimal n) ≡ Some n
unfolding number_of
number_again limit n le lt =
    let small : n < 2 ^ 64 = omega arith in
    let some : (length (decimal n) == 0) ≡ false = (let p = decimal_nonempty n small in grind (arith, nat_tests, p)) in
    let digits : list_all is_ascii_digit (decimal n) ≡ true = digits_decimal are_digits n small in
    let zero_free : has_spare_zero (decimal n) ≡ false = spare n small in
    let value : digits_value 10 (decimal n) ≡ n = digits_value-decimal are_digits n small in
    let below : nat_lt n (2 ^ 64) ≡ true = grind (arith, nat_tests) in
    let within : nat_le n limit ≡ true = grind (arith, nat_tests) in
    rw (some, digits, zero_free, value, below, within) refl

pub number_told : (o : Option ℕ) (limit : ℕ) (word : List ℕ) → limit < 2 ^ 64 → o ≡ number_of limit word → IsNumberRead o limit word
number_told (Some n) limit word lt e = number_takes limit word n (sym e)
number_told None limit word lt e = λ n le is. no_some n (e ∙ ap (number_of limit) is ∙ number_again limit n le lt)

pub number_part : (limit : ℕ) → limit < 2 ^ 64 → IsPart (λ n. n ≤ limit) decimal (number_of limit)
number_part limit lt = record {
  takes = number_takes limit;
  again = λ n le. number_again limit n le lt;
  spaceless = λ n le. let small : n < 2 ^ 64 = omega arith in digits_no_space (decimal n) (digits_decimal are_digits n small);
}

-- ---- bytes
dash_is : (bytes : List ℕ) → unspelled 1 (codes "-") ≡ Some bytes → bytes ≡ 45 ∷ []
unfolding unspelled byte_at
dash_is bytes e = sym (some_same (45 ∷ []) bytes e)

many_takes : (word bytes : List ℕ) → (length word == 0) ≡ false → is_text word (codes "-") ≡ false → unspelled (length word) word ≡ Some bytes → AreBytes bytes × (word ≡ word_of bytes)
many_takes word bytes some no_dash e =
    let t = unspelled_takes (length word) word bytes e in
    (t.0, t.1 ∙ is_word bytes (subst (λ w. (length w == 0) ≡ false) t.1 some) (subst (λ w. is_text w (codes "-") ≡ false) t.1 no_dash))
  where
    one_word : (d : Bool) (b : ℕ) → (b == 45) ≡ d → is_text (spelled b ++ []) (codes "-") ≡ false → spelled b ++ [] ≡ cond d (codes "%2D") (spelled b)
    one_word true b is other = absurd (let same : b ≡ 45 = grind (arith, nat_tests, is) in false≢true (sym (subst (λ k. is_text (spelled k ++ []) (codes "-") ≡ false) same other)))
    one_word false b is other = append-nil (spelled b)

    is_word : (bytes : List ℕ) → (length (flat_map spelled bytes) == 0) ≡ false → is_text (flat_map spelled bytes) (codes "-") ≡ false → flat_map spelled bytes ≡ word_of bytes
    is_word [] some other = absurd (false≢true (sym some))
    is_word (b ∷ []) some other = one_word (b == 45) b refl other
    is_word (b ∷ c ∷ bytes) some other = refl

pub bytes_takes : (word bytes : List ℕ) → bytes_of word ≡ Some bytes → AreBytes bytes × (word ≡ word_of bytes)
unfolding bytes_of
bytes_takes word bytes e =
    let a = failed (length word == 0) _ bytes e in
    elim (chosen (is_text word (codes "-")) _ _ (Some bytes) a.1) [
      | inl dash ↦ subst (λ bs. AreBytes bs × (word ≡ word_of bs)) (some_same [] bytes dash.1) (tt, text_is word (codes "-") dash.0)
      | inr other ↦ elim (chosen (is_text word (codes "%2D")) _ _ (Some bytes) other.1) [
        | inl spelled ↦ subst (λ bs. AreBytes bs × (word ≡ word_of bs)) (some_same (45 ∷ []) bytes spelled.1) ((omega arith, tt), text_is word (codes "%2D") spelled.0)
        | inr plain ↦ many_takes word bytes a.0 other.0 plain.1
      ]
    ]

escaped_dash : (bytes : List ℕ) → unspelled 3 (codes "%2D") ≡ Some bytes → ⊥
unfolding unspelled byte_at escaped_at escape_of digit_of
escaped_dash bytes e = no_some bytes e

ruled_out : (b : Bool) → (b ≡ true → ⊥) → b ≡ false
ruled_out true f = absurd (f refl)
ruled_out false f = refl

-- a spelling that is read is read as one of no other kind
spelling_again : (word bytes : List ℕ) → 0 < length word → (bytes ≡ 45 ∷ [] → ⊥) → unspelled (length word) word ≡ Some bytes → bytes_of word ≡ Some bytes
unfolding bytes_of
spelling_again word bytes lt other e =
    let some : (length word == 0) ≡ false = grind (arith, nat_tests) in
    let no_dash : is_text word (codes "-") ≡ false = ruled_out (is_text word (codes "-")) (λ t. other (dash_is bytes (subst (λ w. unspelled (length w) w ≡ Some bytes) (text_is word (codes "-") t) e))) in
    let no_escape : is_text word (codes "%2D") ≡ false = ruled_out (is_text word (codes "%2D")) (λ t. escaped_dash bytes (subst (λ w. unspelled (length w) w ≡ Some bytes) (text_is word (codes "%2D") t) e)) in
    rw (some, no_dash, no_escape) e

many_again : (bytes : List ℕ) → AreBytes bytes → 0 < length bytes → (bytes ≡ 45 ∷ [] → ⊥) → bytes_of (flat_map spelled bytes) ≡ Some bytes
many_again bytes all lt other =
    let long = spelled_long bytes in
    spelling_again (flat_map spelled bytes) bytes (omega (arith, long)) other (unspelled_again (length (flat_map spelled bytes)) bytes all long)

one_byte_again : (d : Bool) (b : ℕ) → (b == 45) ≡ d → b < 256 → bytes_of (cond d (codes "%2D") (spelled b)) ≡ Some (b ∷ [])
unfolding bytes_of
one_byte_again true b is lt = let same : 45 ≡ b = grind (arith, nat_tests, is) in ap (λ k. Some (k ∷ [])) same
one_byte_again false b is lt = ap bytes_of (sym (append-nil (spelled b))) ∙ many_again (b ∷ []) (lt, tt) (omega arith) (λ e. false≢true (sym is ∙ ap (λ bs. get_or bs 0 0 == 45) e))

pub bytes_again : (bytes : List ℕ) → AreBytes bytes → bytes_of (word_of bytes) ≡ Some bytes
unfolding bytes_of
bytes_again [] all = refl
bytes_again (b ∷ []) all = one_byte_again (b == 45) b refl all.0
bytes_again (b ∷ c ∷ bytes) all = many_again (b ∷ c ∷ bytes) all (grind arith) (λ e. absurd (let l : length (b ∷ c ∷ bytes) ≡ 1 = ap length e in grind (arith, l)))

hex_no_space : (d : ℕ) → is_space (hexadecimal d) ≡ false
hex_no_space d = at (nat_lt d 10)
  where
    at : (t : Bool) → is_space (if t then 48 + d else 55 + d) ≡ false
    at true = grind (arith, nat_tests)
    at false = grind (arith, nat_tests)

spelled_no_space : (p : Bool) (b : ℕ) → is_plain b ≡ p → NoSpace (cond p (b ∷ []) (37 ∷ hexadecimal (b / 16) ∷ hexadecimal (b % 16) ∷ []))
spelled_no_space true b p = (plain_not_space b (both (nat_le 33 b) _ p).0, tt)
spelled_no_space false b p = (refl, (hex_no_space (b / 16), (hex_no_space (b % 16), tt)))

all_no_space : (bytes : List ℕ) → NoSpace (flat_map spelled bytes)
all_no_space [] = tt
all_no_space (b ∷ bytes) = no_space_append (spelled b) (flat_map spelled bytes) (spelled_no_space (is_plain b) b refl) (all_no_space bytes)

one_no_space : (d : Bool) (b : ℕ) → NoSpace (cond d (codes "%2D") (spelled b))
one_no_space true b = (refl, (refl, (refl, tt)))
one_no_space false b = spelled_no_space (is_plain b) b refl

pub word_no_space : (bytes : List ℕ) → NoSpace (word_of bytes)
word_no_space [] = (refl, tt)
word_no_space (b ∷ []) = one_no_space (b == 45) b
word_no_space (b ∷ c ∷ bytes) = all_no_space (b ∷ c ∷ bytes)

pub bytes_part : IsPart AreBytes word_of bytes_of
bytes_part = record { takes = bytes_takes; again = bytes_again; spaceless = λ bytes all. word_no_space bytes }
