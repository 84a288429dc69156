-- A line is cut at its first space.
use Rattle.std.proofs.Common.{◌≡◌, ℕ, ◌+◌, ◌<◌, ◌≤◌, List, [], ◌∷◌, length, take, drop, Bool, true, false, cond, Some, None, nat_lt, refl, sym, ap, ◌∙◌, arith, position}
use Rattle.std.specs.List.{position_or_len}
use Rattle.std.proofs.lemmas.Bool.Decides.{nat_tests}
use Rattle.std.proofs.lemmas.List.Splits.{length-slice_split, slice_split_none, slice_split_first}
use Rattle.std.proofs.lemmas.List.Sums.{fails_before_first}
use Rattle.hk_script.specs.Parts.{fields, is_space}
use Rattle.hk_script.specs.Lines.{header_of_words, header_of}
use Rattle.hk_script.proofs.Choices.{held, no_some, some_same}

pub cut_some : (line : List ℕ) (i : ℕ) → position is_space line ≡ Some i → fields line ≡ take i line ∷ fields (drop (i + 1) line)
cut_some line i e =
    let h = held (nat_lt (position_or_len is_space line) (length line)) (Some (position_or_len is_space line)) i e in
    let lt : position_or_len is_space line < length line = (let t = h.0 in grind (arith, nat_tests, t)) in
    let is : position_or_len is_space line ≡ i = some_same (position_or_len is_space line) i h.1 in
    slice_split_first is_space line 0 lt ∙ ap (λ k. take k line ∷ fields (drop (k + 1) line)) is

none_within : (b : Bool) (n : ℕ) → cond b (Some n) None ≡ None → b ≡ false
none_within true n e = absurd (no_some n (sym e))
none_within false n e = refl

pub cut_none : (line : List ℕ) → position is_space line ≡ None → fields line ≡ line ∷ []
cut_none line e =
    let f = none_within (nat_lt (position_or_len is_space line) (length line)) (position_or_len is_space line) e in
    let le : length line ≤ position_or_len is_space line = grind (arith, nat_tests, f) in
    slice_split_none is_space line (λ k d lt. fails_before_first is_space line k d (omega (arith, le, lt)))

-- nine words are no header
fields_some : (line : List ℕ) → 1 ≤ length (fields line)
fields_some line = let l = length-slice_split is_space line in omega (arith, l)

too_long : (a n b c d l e s : List ℕ) (more : List (List ℕ)) → 1 ≤ length more → header_of_words (a ∷ n ∷ b ∷ c ∷ d ∷ l ∷ e ∷ s ∷ more) ≡ None
unfolding header_of_words
too_long a n b c d l e s [] lt = absurd (grind (arith, lt))
too_long a n b c d l e s (x ∷ more) lt = refl

pub too_many : (line a n b c d l e s rest : List ℕ) → fields line ≡ a ∷ n ∷ b ∷ c ∷ d ∷ l ∷ e ∷ s ∷ fields rest → header_of line ≡ None
too_many line a n b c d l e s rest is = ap header_of_words is ∙ too_long a n b c d l e s (fields rest) (fields_some rest)

pub behind : {us ws vs : List (List ℕ)} (a : List ℕ) → us ≡ ws → vs ≡ a ∷ us → vs ≡ a ∷ ws
behind a e f = f ∙ ap (λ us. a ∷ us) e
