-- How bytes are cut into lines: a line with its feed stands before the lines of the rest, and bytes without a feed are one line or none.
use Rattle.std.proofs.Common.{◌≡◌, ◌⊎◌, inl, inr, ℕ, zero, suc, ◌+◌, ◌-◌, ◌<◌, ◌≤◌, List, [], ◌∷◌, ◌++◌, length, take, drop, Bool, true, false, if◌then◌else◌, refl, sym, ap, ◌∙◌, arith, append_assoc, append-nil}
use Rattle.std.specs.Prelude.{◌==◌, slice_index, cond}
use Rattle.std.specs.List.{slice_split, onto_first, AllByRecursion}
use Rattle.std.proofs.lemmas.Bool.Decides.{nat_tests}
use Rattle.hk_drill.specs.Transcript.{is_feed, without_last_feed, lines_of}
use Rattle.hk_drill.specs.Progress.{HasNoFeed, with_feeds}

-- ---- bytes without a feed
pub no_feed_more : (xs ys : List ℕ) → HasNoFeed xs → HasNoFeed ys → HasNoFeed (xs ++ ys)
no_feed_more [] ys h k = k
no_feed_more (x ∷ xs) ys h k = (h.0, no_feed_more xs ys h.1 k)

split_at : (x : ℕ) (xs : List ℕ) (b : Bool) → is_feed x ≡ b → slice_split is_feed (x ∷ xs) ≡ cond b ([] ∷ slice_split is_feed xs) (onto_first x (slice_split is_feed xs))
split_at x xs b e = ap (λ t. cond t ([] ∷ slice_split is_feed xs) (onto_first x (slice_split is_feed xs))) e

split_none : (xs : List ℕ) → HasNoFeed xs → slice_split is_feed xs ≡ xs ∷ []
split_none [] h = refl
split_none (x ∷ xs) h = split_at x xs false h.0 ∙ ap (onto_first x) (split_none xs h.1)

split_line : (xs rest : List ℕ) → HasNoFeed xs → slice_split is_feed (xs ++ 10 ∷ rest) ≡ xs ∷ slice_split is_feed rest
split_line [] rest h = split_at 10 rest true refl
split_line (x ∷ xs) rest h = split_at x (xs ++ 10 ∷ rest) false h.0 ∙ ap (onto_first x) (split_line xs rest h.1)

-- ---- the feed that ends the last line
abbrev unless_feed : List ℕ → ℕ → Bool → List ℕ
unless_feed xs n b = if b then take n xs else xs

last_at : (xs : List ℕ) (n : ℕ) → length xs ≡ suc n → without_last_feed xs ≡ unless_feed xs n (slice_index xs n == 10)
last_at xs n e =
    let k : length xs - 1 ≡ n = omega (arith, e) in
    ap (λ m. unless_feed xs m (slice_index xs m == 10)) k

last_cons : (x y : ℕ) (ys : List ℕ) → without_last_feed (x ∷ y ∷ ys) ≡ x ∷ without_last_feed (y ∷ ys)
last_cons x y ys =
    last_at (x ∷ y ∷ ys) (suc (length ys)) refl ∙ at (slice_index (y ∷ ys) (length ys) == 10) ∙ ap (λ (zs : List ℕ). x ∷ zs) (sym (last_at (y ∷ ys) (length ys) refl))
  where
    at : (b : Bool) → unless_feed (x ∷ y ∷ ys) (suc (length ys)) b ≡ x ∷ unless_feed (y ∷ ys) (length ys) b
    at true = refl
    at false = refl

last_behind : (xs : List ℕ) (y : ℕ) (ys : List ℕ) → without_last_feed (xs ++ y ∷ ys) ≡ xs ++ without_last_feed (y ∷ ys)
last_behind [] y ys = refl
last_behind (x ∷ []) y ys = last_cons x y ys
last_behind (x ∷ z ∷ xs) y ys = last_cons x z (xs ++ y ∷ ys) ∙ ap (λ (zs : List ℕ). x ∷ zs) (last_behind (z ∷ xs) y ys)

last_feed : (xs : List ℕ) → without_last_feed (xs ++ 10 ∷ []) ≡ xs
last_feed xs = last_behind xs 10 [] ∙ append-nil xs

-- bytes that end without a feed
last_none : (x : ℕ) (xs : List ℕ) → HasNoFeed (x ∷ xs) → without_last_feed (x ∷ xs) ≡ x ∷ xs
last_none x [] h = ap (unless_feed (x ∷ []) 0) h.0
last_none x (y ∷ ys) h = last_cons x y ys ∙ ap (λ (zs : List ℕ). x ∷ zs) (last_none y ys h.1)

-- ---- lines
pub some_bytes : (x : ℕ) (xs : List ℕ) → (length (x ∷ xs) == 0) ≡ false
some_bytes x xs = grind (arith, nat_tests)

lines_cons : (x : ℕ) (xs : List ℕ) → lines_of (x ∷ xs) ≡ slice_split is_feed (without_last_feed (x ∷ xs))
lines_cons x xs = ap (λ b. if b then [] else slice_split is_feed (without_last_feed (x ∷ xs))) (some_bytes x xs)

lines_some : (xs : List ℕ) (y : ℕ) (ys : List ℕ) → lines_of (xs ++ y ∷ ys) ≡ slice_split is_feed (without_last_feed (xs ++ y ∷ ys))
lines_some [] y ys = lines_cons y ys
lines_some (x ∷ xs) y ys = lines_cons x (xs ++ y ∷ ys)

-- a line and its feed in front of the rest
pub line_first : (line rest : List ℕ) → HasNoFeed line → lines_of (line ++ 10 ∷ rest) ≡ line ∷ lines_of rest
line_first line [] h = lines_some line 10 [] ∙ ap (slice_split is_feed) (last_feed line) ∙ split_none line h
line_first line (y ∷ ys) h =
    lines_some line 10 (y ∷ ys) ∙ ap (slice_split is_feed) (last_behind line 10 (y ∷ ys) ∙ ap (λ (zs : List ℕ). line ++ zs) (last_cons 10 y ys))
    ∙ split_line line (without_last_feed (y ∷ ys)) h ∙ ap (λ (ls : List (List ℕ)). line ∷ ls) (sym (lines_cons y ys))

-- lines with their feeds in front of the rest
pub lines_first : (lines : List (List ℕ)) (rest : List ℕ) → AllByRecursion HasNoFeed lines → lines_of (with_feeds lines ++ rest) ≡ lines ++ lines_of rest
lines_first [] rest h = refl
lines_first (line ∷ lines) rest h =
    ap lines_of (append_assoc line (10 ∷ with_feeds lines) rest) ∙ line_first line (with_feeds lines ++ rest) h.0 ∙ ap (λ (ls : List (List ℕ)). line ∷ ls) (lines_first lines rest h.1)

-- bytes without a feed are one line
pub line_alone : (x : ℕ) (xs : List ℕ) → HasNoFeed (x ∷ xs) → lines_of (x ∷ xs) ≡ (x ∷ xs) ∷ []
line_alone x xs h = lines_cons x xs ∙ ap (slice_split is_feed) (last_none x xs h) ∙ split_none (x ∷ xs) h

-- ---- the first feed
-- bytes are free of feeds, or a front of them is and a feed follows
pub record Found (bytes : List ℕ) : Type 0 where
  pub line : List ℕ
  pub rest : List ℕ
  pub same : bytes ≡ line ++ 10 ∷ rest
  pub none : HasNoFeed line

found_at : (x : ℕ) (xs : List ℕ) (b : Bool) → is_feed x ≡ b → HasNoFeed xs ⊎ Found xs → HasNoFeed (x ∷ xs) ⊎ Found (x ∷ xs)
found_at x xs true e later = inr (record { line = []; rest = xs; same = (let feed : x ≡ 10 = grind (arith, nat_tests, e) in ap (λ y. y ∷ xs) feed); none = tt })
found_at x xs false e (inl none) = inl (e, none)
found_at x xs false e (inr f) = inr (record { line = x ∷ f.line; rest = f.rest; same = ap (λ (ys : List ℕ). x ∷ ys) f.same; none = (e, f.none) })

find_feed : (xs : List ℕ) → HasNoFeed xs ⊎ Found xs
find_feed [] = inl tt
find_feed (x ∷ xs) = found_at x xs (is_feed x) refl (find_feed xs)

-- whatever comes behind a part of a line that has a byte, the first line begins with it
pub part_first : (x : ℕ) (part more : List ℕ) → HasNoFeed (x ∷ part)
    → (end : List ℕ) × (later : List (List ℕ)) × (lines_of ((x ∷ part) ++ more) ≡ ((x ∷ part) ++ end) ∷ later)
part_first x part more h = at (find_feed more)
  where
    at : HasNoFeed more ⊎ Found more → (end : List ℕ) × (later : List (List ℕ)) × (lines_of ((x ∷ part) ++ more) ≡ ((x ∷ part) ++ end) ∷ later)
    at (inl none) = (more, [], line_alone x (part ++ more) (no_feed_more (x ∷ part) more h none))
    at (inr f) = (
      f.line,
      lines_of f.rest,
      ap (λ (ys : List ℕ). lines_of ((x ∷ part) ++ ys)) f.same
          ∙ ap lines_of (sym (append_assoc (x ∷ part) f.line (10 ∷ f.rest)))
          ∙ line_first ((x ∷ part) ++ f.line) f.rest (no_feed_more (x ∷ part) f.line h f.none),
    )

-- ---- a feed that was found
pub take_drop : (n : ℕ) (xs : List ℕ) → xs ≡ take n xs ++ drop n xs
take_drop zero xs = refl
take_drop (suc n) [] = refl
take_drop (suc n) (x ∷ xs) = ap (λ (ys : List ℕ). x ∷ ys) (take_drop n xs)

not_true : (b : Bool) → (b ≡ true → ⊥) → b ≡ false
not_true true no_truth = absurd (no_truth refl)
not_true false no_truth = refl

-- no byte of a front is a feed
pub front_none : (xs : List ℕ) (k : ℕ) → k ≤ length xs → ((j : ℕ) → j < k → is_feed (slice_index xs j) ≡ true → ⊥) → HasNoFeed (take k xs)
front_none xs zero within none = tt
front_none [] (suc k) within none = absurd (omega (arith, within))
front_none (x ∷ xs) (suc k) within none =
    (not_true (is_feed x) (none 0 (omega arith)), front_none xs k (omega (arith, within)) (λ j less. none (suc j) (omega (arith, less))))

-- the bytes up to the feed
pub with_feed : (xs : List ℕ) (k : ℕ) → k < length xs → is_feed (slice_index xs k) ≡ true → take (k + 1) xs ≡ take k xs ++ 10 ∷ []
with_feed xs k within e = let next : k + 1 ≡ suc k = omega arith in ap (λ n. take n xs) next ∙ at xs k within e
  where
    at : (xs : List ℕ) (k : ℕ) → k < length xs → is_feed (slice_index xs k) ≡ true → take (suc k) xs ≡ take k xs ++ 10 ∷ []
    at [] k within e = absurd (omega (arith, within))
    at (x ∷ xs) zero within e = let feed : x ≡ 10 = grind (arith, nat_tests, e) in ap (λ y. y ∷ []) feed
    at (x ∷ xs) (suc k) within e = ap (λ (ys : List ℕ). x ∷ ys) (at xs k (omega (arith, within)) e)

-- no byte of all is a feed
pub none_of : (xs : List ℕ) → ((j : ℕ) → j < length xs → is_feed (slice_index xs j) ≡ true → ⊥) → HasNoFeed xs
none_of [] none = tt
none_of (x ∷ xs) none = (not_true (is_feed x) (none 0 (omega arith)), none_of xs (λ j less. none (suc j) (omega (arith, less))))
