-- Keys are ordered as their words are, and behind equal words as the bytes there.
use Rattle.std.proofs.Common.{◌≡◌, ◌≢◌, ℕ, zero, suc, ◌+◌, ◌*◌, ◌<◌, ◌≤◌, Bool, true, false, cond, List, [], ◌∷◌, ◌++◌, ◌-◌, min, Some, None, length, take, drop, replicate, refl, sym, ap, ◌∙◌, subst, arith, slice_index}
use Rattle.std.specs.Ordering.{nat_cmp, ordering_then}
use Rattle.std.specs.declared.cmp.Ordering.{Ordering}
use Rattle.std.specs.declared.cmp.Ordering.TheVariants.{Less, Equal, Greater}
use Rattle.std.specs.Int.{from_be_bytes, w64}
use Rattle.std.specs.Cmp.{nat_cmp_is}
use Rattle.std.specs.Cmp.Lexicographic.{slice_cmp}
use Rattle.std.specs.List.{AllByRecursion, position_from}
use Rattle.std.proofs.Math.Dec.{ltb}
use Rattle.std.proofs.lemmas.Bool.{true≢false, ltb-true, ltb-false}
use Rattle.std.proofs.lemmas.Iterator.Adapters.{position_from-zero}
use Rattle.std.proofs.lemmas.List.{drop_all, drop-drop, length-take, get_or-take, append-nil}
use Rattle.std.proofs.lemmas.Option.{none-some}
use Rattle.hk_base.specs.declared.key.Form.{Form}
use Rattle.hk_base.specs.declared.key.Form.TheVariants.{Short}
use Rattle.hk_base.specs.KeyBytes.{is_bad_byte}
use Rattle.hk_base.specs.KeyForm.{shown, in_key, IsFront, HasRoom, IsKept, digits_after, word_at}

-- a byte that is not 0
abbrev pub IsDigit : ℕ → Type 0
IsDigit byte = (1 ≤ byte) × (byte < 256)

less : (a b : ℕ) → a < b → nat_cmp a b ≡ Less
less a b p = sym (nat_cmp_is a b Less p)

greater : (a b : ℕ) → b < a → nat_cmp a b ≡ Greater
greater a b p = sym (nat_cmp_is a b Greater p)

equal : (a : ℕ) → nat_cmp a a ≡ Equal
equal a = sym (nat_cmp_is a a Equal refl)

-- a lesser number stays lesser, whatever bytes follow
below : (k n m : ℕ) (a b : List ℕ) → n < m → AllByRecursion IsDigit a → digits_after k n a < digits_after k m b
below zero n m a b p d = p
below (suc k) n m [] [] p d = below k (n * 256) (m * 256) [] [] (omega (arith, p)) tt
below (suc k) n m [] (y ∷ ys) p d = below k (n * 256) (m * 256 + y) [] ys (omega (arith, p)) tt
below (suc k) n m (x ∷ xs) [] p d = below k (n * 256 + x) (m * 256) xs [] (omega (arith, p, d.0.1)) d.1
below (suc k) n m (x ∷ xs) (y ∷ ys) p d = below k (n * 256 + x) (m * 256 + y) xs ys (omega (arith, p, d.0.1)) d.1

-- what the digits tell, and then what stands behind them
abbrev told : ℕ → ℕ → List ℕ → List ℕ → Ordering
told k n a b = ordering_then (nat_cmp (digits_after k n a) (digits_after k n b)) (slice_cmp nat_cmp (drop k a) (drop k b))

decided : (k n : ℕ) (a b : List ℕ) → AllByRecursion IsDigit a → AllByRecursion IsDigit b → slice_cmp nat_cmp a b ≡ told k n a b
decided zero n a b d e = rw (equal n) refl
decided (suc k) n [] [] d e = rw (equal (digits_after k (n * 256) [])) refl
decided (suc k) n [] (y ∷ ys) d e =
    rw (less _ _ (below k (n * 256) (n * 256 + y) [] ys (omega (arith, e.0.0)) tt)) refl
decided (suc k) n (x ∷ xs) [] d e =
    rw (greater _ _ (below k (n * 256) (n * 256 + x) [] xs (omega (arith, d.0.0)) tt)) refl
decided (suc k) n (x ∷ xs) (y ∷ ys) d e = first (decided k (n * 256 + x) xs ys d.1 e.1) (ltb x y) refl
  where
    second : slice_cmp nat_cmp xs ys ≡ told k (n * 256 + x) xs ys → y ≤ x → (more : Bool) → ltb y x ≡ more → slice_cmp nat_cmp (x ∷ xs) (y ∷ ys) ≡ told (suc k) n (x ∷ xs) (y ∷ ys)
    second behind le true t =
        let more = ltb-true y x t in
        rw (greater x y more, greater _ _ (below k (n * 256 + y) (n * 256 + x) ys xs (omega (arith, more)) e.1)) refl
    second behind le false t =
        let same : x ≡ y = omega (arith, le, ltb-false y x t) in
        subst (λ (z : ℕ). slice_cmp nat_cmp (x ∷ xs) (z ∷ ys) ≡ told (suc k) n (x ∷ xs) (z ∷ ys)) same (rw (equal x) behind)

    first : slice_cmp nat_cmp xs ys ≡ told k (n * 256 + x) xs ys → (fewer : Bool) → ltb x y ≡ fewer → slice_cmp nat_cmp (x ∷ xs) (y ∷ ys) ≡ told (suc k) n (x ∷ xs) (y ∷ ys)
    first behind true t =
        let fewer = ltb-true x y t in
        rw (less x y fewer, less _ _ (below k (n * 256 + x) (n * 256 + y) xs ys (omega (arith, fewer)) d.1)) refl
    first behind false t = second behind (ltb-false x y t) (ltb y x) refl

good : (byte : ℕ) → is_bad_byte byte ≡ false → 1 ≤ byte
good zero e = absurd (true≢false e)
good (suc byte) e = omega arith

digits_by : (i : ℕ) (bytes : List ℕ) → position_from is_bad_byte i bytes ≡ None → ((j : ℕ) → slice_index bytes j < 256) → AllByRecursion IsDigit bytes
digits_by i [] e small = tt
digits_by i (x ∷ xs) e small = by_test (is_bad_byte x) refl e (λ more. digits_by (i + 1) xs more (λ j. small (suc j)))
  where
    by_test : (bad : Bool) → is_bad_byte x ≡ bad → cond bad (Some i) (position_from is_bad_byte (i + 1) xs) ≡ None →
        (position_from is_bad_byte (i + 1) xs ≡ None → AllByRecursion IsDigit xs) → AllByRecursion IsDigit (x ∷ xs)
    by_test true t e rest = absurd (none-some i (sym e))
    by_test false t e rest = ((good x t, small 0), rest e)

pub digits : (form : Form) → IsKept form → AllByRecursion IsDigit (shown form)
digits form f = digits_by 0 (shown form) (sym (position_from-zero is_bad_byte (shown form)) ∙ f.key.clean) f.small

-- so are those behind some of them
digits_behind : (k : ℕ) (bytes : List ℕ) → AllByRecursion IsDigit bytes → AllByRecursion IsDigit (drop k bytes)
digits_behind zero bytes d = d
digits_behind (suc k) [] d = tt
digits_behind (suc k) (x ∷ xs) d = digits_behind k xs d.1

none_added : (n : ℕ) → n ≡ n + 0
none_added n = omega arith

pub digits_step : (k n place : ℕ) (bytes : List ℕ) → digits_after (suc k) n (drop place bytes) ≡ digits_after k (n * 256 + slice_index bytes place) (drop (suc place) bytes)
digits_step k n zero [] = ap (λ (z : ℕ). digits_after k z []) (none_added (n * 256))
digits_step k n (suc place) [] = ap (λ (z : ℕ). digits_after k z []) (none_added (n * 256))
digits_step k n zero (x ∷ xs) = refl
digits_step k n (suc place) (x ∷ xs) = digits_step k n place xs

-- a digit more
digit_more : (k n : ℕ) (bytes : List ℕ) → digits_after (suc k) n bytes ≡ digits_after k n bytes * 256 + slice_index bytes k
digit_more zero n [] = none_added (n * 256)
digit_more zero n (x ∷ xs) = refl
digit_more (suc k) n [] = digit_more k (n * 256) []
digit_more (suc k) n (x ∷ xs) = digit_more k (n * 256 + x) xs

small_at : (bytes : List ℕ) (i : ℕ) → AllByRecursion IsDigit bytes → slice_index bytes i < 256
small_at [] i d = omega arith
small_at (x ∷ xs) zero d = d.0.1
small_at (x ∷ xs) (suc i) d = small_at xs i d.1

-- equal digits but for the last one
but_last : (k n : ℕ) (a b : List ℕ) → AllByRecursion IsDigit a → AllByRecursion IsDigit b → digits_after (suc k) n a ≡ digits_after (suc k) n b → digits_after k n a ≡ digits_after k n b
but_last k n a b d e same = by_digits (digits_after k n a) (digits_after k n b) (slice_index a k) (slice_index b k) (small_at a k d) (small_at b k e) (sym (digit_more k n a) ∙ same ∙ digit_more k n b)
  where
    by_digits : (p q x y : ℕ) → x < 256 → y < 256 → p * 256 + x ≡ q * 256 + y → p ≡ q
    by_digits p q x y small small' same = omega (arith, small, small', same)

apart : (p q : ℕ) (behind : Ordering) → p ≢ q → ordering_then (nat_cmp p q) behind ≡ nat_cmp p q
apart p q behind differ = first (ltb p q) refl
  where
    second : q ≤ p → (more : Bool) → ltb q p ≡ more → ordering_then (nat_cmp p q) behind ≡ nat_cmp p q
    second le true t = rw (greater p q (ltb-true q p t)) refl
    second le false t =
        let same : p ≡ q = omega (arith, le, ltb-false q p t) in
        absurd (differ same)

    first : (fewer : Bool) → ltb p q ≡ fewer → ordering_then (nat_cmp p q) behind ≡ nat_cmp p q
    first true t = rw (less p q (ltb-true p q t)) refl
    first false t = second (ltb-false p q t) (ltb q p) refl

alike : (p q : ℕ) (behind : Ordering) → p ≡ q → ordering_then (nat_cmp p q) behind ≡ behind
alike p q behind same = subst (λ (z : ℕ). ordering_then (nat_cmp p z) behind ≡ behind) same (rw (equal p) refl)

nothing_behind : (o : Ordering) → ordering_then o Equal ≡ o
nothing_behind Less = refl
nothing_behind Equal = refl
nothing_behind Greater = refl

-- by one word of two lists
module _ (place : ℕ) (a b : List ℕ) (d : AllByRecursion IsDigit a) (e : AllByRecursion IsDigit b) where
  by_word : slice_cmp nat_cmp (drop place a) (drop place b) ≡ ordering_then (nat_cmp (word_at place a) (word_at place b)) (slice_cmp nat_cmp (drop 8 (drop place a)) (drop 8 (drop place b)))
  unfolding word_at
  by_word = decided 8 0 (drop place a) (drop place b) (digits_behind place a d) (digits_behind place b e)

  word_decides : word_at place a ≢ word_at place b → nat_cmp (word_at place a) (word_at place b) ≡ slice_cmp nat_cmp (drop place a) (drop place b)
  word_decides differ = sym (by_word ∙ apart (word_at place a) (word_at place b) _ differ)

  behind_word : word_at place a ≡ word_at place b → slice_cmp nat_cmp (drop (place + 8) a) (drop (place + 8) b) ≡ slice_cmp nat_cmp (drop place a) (drop place b)
  behind_word same = sym (by_word ∙ alike (word_at place a) (word_at place b) _ same ∙ rw (drop-drop 8 place a, drop-drop 8 place b) refl)

  -- from the last byte of an equal word on
  from_last_byte : word_at place a ≡ word_at place b → slice_cmp nat_cmp (drop (place + 7) a) (drop (place + 7) b) ≡ slice_cmp nat_cmp (drop place a) (drop place b)
  unfolding word_at
  from_last_byte same = sym (decided 7 0 (drop place a) (drop place b) left right ∙ alike _ _ _ (but_last 7 0 (drop place a) (drop place b) left right same) ∙ rw (drop-drop 7 place a, drop-drop 7 place b) refl)
    where
      left : AllByRecursion IsDigit (drop place a)
      left = digits_behind place a d

      right : AllByRecursion IsDigit (drop place b)
      right = digits_behind place b e

-- two keys, by the words that were read of them
module _ (mine theirs : Form) (f : IsKept mine) (g : IsKept theirs) (p q : ℕ) (first : p ≡ word_at 0 (shown mine)) (first' : q ≡ word_at 0 (shown theirs)) where
  abbrev a : List ℕ
  a = shown mine

  abbrev b : List ℕ
  b = shown theirs

  d : AllByRecursion IsDigit a
  d = digits mine f

  e : AllByRecursion IsDigit b
  e = digits theirs g

  pub first_decides : p ≢ q → nat_cmp p q ≡ slice_cmp nat_cmp (shown mine) (shown theirs)
  first_decides differ = rw (first, first') (word_decides 0 a b d e (λ same. differ (first ∙ same ∙ sym first')))

  module _ (same : p ≡ q) (r s : ℕ) (second : r ≡ word_at 7 (shown mine)) (second' : s ≡ word_at 7 (shown theirs)) where
    behind_first : slice_cmp nat_cmp (drop 7 a) (drop 7 b) ≡ slice_cmp nat_cmp a b
    behind_first = from_last_byte 0 a b d e (sym first ∙ same ∙ first')

    pub second_decides : r ≢ s → nat_cmp r s ≡ slice_cmp nat_cmp (shown mine) (shown theirs)
    second_decides differ = rw (second, second') (word_decides 7 a b d e (λ same'. differ (second ∙ same' ∙ sym second'))) ∙ behind_first

    module _ (same' : r ≡ s) where
      equal_words : word_at 7 a ≡ word_at 7 b
      equal_words = sym second ∙ same' ∙ second'

      pub third_decides : (t u : ℕ) → t ≡ word_at 14 (shown mine) → u ≡ word_at 14 (shown theirs) → length (shown mine) ≤ 22 → length (shown theirs) ≤ 22 → nat_cmp t u ≡ slice_cmp nat_cmp (shown mine) (shown theirs)
      third_decides t u third third' few few' = rw (third, third') (sym (by_word 14 a b d e ∙ rw (drop-drop 8 14 a, drop-drop 8 14 b, drop_all 22 a few, drop_all 22 b few') (nothing_behind _))) ∙ from_last_byte 7 a b d e equal_words ∙ behind_first

      pub rest_decides : slice_cmp nat_cmp (drop 15 (shown mine)) (drop 15 (shown theirs)) ≡ slice_cmp nat_cmp (shown mine) (shown theirs)
      rest_decides = behind_word 7 a b d e equal_words ∙ behind_first

-- ---- how a word is read
digit_read : (k n place next byte : ℕ) (bytes : List ℕ) → next ≡ place + 1 → byte ≡ slice_index bytes place → digits_after (suc k) n (drop place bytes) ≡ digits_after k (n * 256 + byte) (drop next bytes)
digit_read k n place next byte bytes on is =
    let on' : next ≡ suc place = on ∙ sym (suc_is place) in
    rw (on', is) (digits_step k n place bytes)
  where
    suc_is : (m : ℕ) → suc m ≡ m + 1
    suc_is m = omega arith

pub word_of : (place : ℕ) (bytes : List ℕ) (a b c d e f g h : ℕ) → a ≡ slice_index bytes place → b ≡ slice_index bytes (place + 1) → c ≡ slice_index bytes (place + 2) → d ≡ slice_index bytes (place + 3) → e ≡ slice_index bytes (place + 4) → f ≡ slice_index bytes (place + 5) → g ≡ slice_index bytes (place + 6) → h ≡ slice_index bytes (place + 7) → from_be_bytes w64 (a ∷ b ∷ c ∷ d ∷ e ∷ f ∷ g ∷ h ∷ []) ≡ word_at place bytes
unfolding word_at
word_of place bytes a b c d e f g h at0 at1 at2 at3 at4 at5 at6 at7 = weighed a b c d e f g h ∙ sym (
    digit_read 7 0 place (place + 1) a bytes (omega arith) at0
    ∙ digit_read 6 _ (place + 1) (place + 2) b bytes (omega arith) at1
    ∙ digit_read 5 _ (place + 2) (place + 3) c bytes (omega arith) at2
    ∙ digit_read 4 _ (place + 3) (place + 4) d bytes (omega arith) at3
    ∙ digit_read 3 _ (place + 4) (place + 5) e bytes (omega arith) at4
    ∙ digit_read 2 _ (place + 5) (place + 6) f bytes (omega arith) at5
    ∙ digit_read 1 _ (place + 6) (place + 7) g bytes (omega arith) at6
    ∙ digit_read 0 _ (place + 7) (place + 8) h bytes (omega arith) at7)
  where
    weighed : (a b c d e f g h : ℕ) → from_be_bytes w64 (a ∷ b ∷ c ∷ d ∷ e ∷ f ∷ g ∷ h ∷ []) ≡ (((((((0 * 256 + a) * 256 + b) * 256 + c) * 256 + d) * 256 + e) * 256 + f) * 256 + g) * 256 + h
    weighed a b c d e f g h = omega arith

pub same_word : (place : ℕ) (array bytes : List ℕ) → IsFront array bytes → place + 8 ≤ length array → word_at place array ≡ word_at place bytes
same_word place array bytes front room = sym (word_of place array _ _ _ _ _ _ _ _ refl refl refl refl refl refl refl refl) ∙ word_of place bytes _ _ _ _ _ _ _ _ (front place (omega (arith, room))) (at 1 (omega arith)) (at 2 (omega arith)) (at 3 (omega arith)) (at 4 (omega arith)) (at 5 (omega arith)) (at 6 (omega arith)) (at 7 (omega arith))
  where
    at : (i : ℕ) → i < 8 → slice_index array (place + i) ≡ slice_index bytes (place + i)
    at i p = front (place + i) (omega (arith, p, room))

-- the words of what stands in the key are those of its bytes
pub kept_word : (place : ℕ) (form : Form) (array : List ℕ) → in_key form ≡ array → IsKept form → place + 8 ≤ length array → word_at place array ≡ word_at place (shown form)
kept_word place form array is kept room = same_word place array (shown form) (subst (λ (xs : List ℕ). IsFront xs (shown form)) is kept.front) room

pub short_length : (form : Form) (bytes : List ℕ) (len : ℕ) → form ≡ Short bytes len → IsKept form → length (shown form) ≤ 22
short_length form bytes len is kept = rw (ap shown is, length-take len bytes) (least len (length bytes) (subst HasRoom is kept.room))
  where
    least : (m n : ℕ) → m ≤ 22 → min m n ≤ 22
    least m n le = omega (arith, le)

pub front_taken : (bytes front items : List ℕ) → front ≡ take 15 bytes ++ replicate (15 - length (take 15 bytes)) 0 → items ≡ bytes → 22 < length bytes → IsFront front items
front_taken bytes front items padded same more i p =
    let whole : length (take 15 bytes) ≡ 15 = length-take 15 bytes ∙ min-below (length bytes) (omega (arith, more)) in
    let plain : front ≡ take 15 bytes = padded ∙ rw (whole) (append-nil (take 15 bytes)) in
    rw (plain, same) (get_or-take 15 bytes i 0 (subst (λ (z : ℕ). i < z) (ap length plain ∙ whole) p))
  where
    min-below : (n : ℕ) → 15 ≤ n → min 15 n ≡ 15
    min-below n le = omega (arith, le)
