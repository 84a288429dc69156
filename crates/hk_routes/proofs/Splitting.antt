-- Outlets that are split one after the other.
use Rattle.std.proofs.Common.{◌≡◌, ◌<◌, ◌+◌, ℕ, zero, suc, List, [], ◌∷◌, ◌++◌, map, take, drop, length, slice_set, slice_index_or, Result, Ok, Err, OnErr, sym, ap, ◌∙◌, add-one, arith}
use Rattle.hk_base.specs.declared.letter.Actor.{Actor}
use Rattle.hk_link.specs.Ends.{End}
use Rattle.hk_routes.specs.Outlets.{old_half, new_half, way_of}

abbrev Way : Type 0
Way = Actor × End

-- those below a place were split, and the others not yet
abbrev pub halfway : ℕ → List Way → List Way
halfway i xs = map old_half (take i xs) ++ drop i xs

old_next : (xs : List Way) (i : ℕ) (x : Way) → i < length xs → x ≡ slice_index_or (halfway i xs) i x → slice_set (halfway i xs) i (old_half x) ≡ halfway (suc i) xs
old_next [] i x low is = absurd (omega (arith, low))
old_next (z ∷ zs) zero x low is = ap (λ (w : Way). old_half w ∷ zs) is
old_next (z ∷ zs) (suc i) x low is = ap (λ (l : List Way). old_half z ∷ l) (old_next zs i x (omega (arith, low)) is)

new_next : (xs : List Way) (i : ℕ) (x : Way) → i < length xs → x ≡ slice_index_or (halfway i xs) i x → map new_half (take i xs) ++ new_half x ∷ [] ≡ map new_half (take (suc i) xs)
new_next [] i x low is = absurd (omega (arith, low))
new_next (z ∷ zs) zero x low is = ap (λ (w : Way). new_half w ∷ []) is
new_next (z ∷ zs) (suc i) x low is = ap (λ (l : List Way). new_half z ∷ l) (new_next zs i x (omega (arith, low)) is)

same_ways : (xs : List Way) (i : ℕ) (x y : Way) → i < length xs → x ≡ slice_index_or (halfway i xs) i x → way_of y ≡ way_of x → map way_of (slice_set (halfway i xs) i y) ≡ map way_of xs
same_ways [] i x y low is same = absurd (omega (arith, low))
same_ways (z ∷ zs) zero x y low is same = ap (λ (w : Way). w ∷ map way_of zs) (same ∙ ap way_of is)
same_ways (z ∷ zs) (suc i) x y low is same = ap (λ (l : List Way). way_of z ∷ l) (same_ways zs i x y (omega (arith, low)) is same)

module _ (xs ys : List Way) (i : ℕ) (x y : Way) (low : i < length xs) (so_far : ys ≡ halfway i xs) (is : x ≡ slice_index_or ys i x) where
  at : x ≡ slice_index_or (halfway i xs) i x
  at = is ∙ ap (λ (l : List Way). slice_index_or l i x) so_far

  pub olds_next : y ≡ old_half x → slice_set ys i y ≡ halfway (i + 1) xs
  olds_next half = ap (λ (l : List Way). slice_set l i y) so_far ∙ ap (λ (w : Way). slice_set (halfway i xs) i w) half ∙ old_next xs i x low at ∙ ap (λ (n : ℕ). halfway n xs) (sym (add-one i))

  pub news_next : (more more' : List Way) (half : Way) → more ≡ map new_half (take i xs) → more' ≡ more ++ half ∷ [] → half ≡ new_half x → more' ≡ map new_half (take (i + 1) xs)
  news_next more more' half front grown is_half =
      grown ∙ ap (λ (l : List Way). l ++ half ∷ []) front ∙ ap (λ (w : Way). map new_half (take i xs) ++ w ∷ []) is_half ∙ new_next xs i x low at ∙
      ap (λ (n : ℕ). map new_half (take n xs)) (sym (add-one i))

  pub ways_stay : way_of y ≡ way_of x → map way_of (slice_set ys i y) ≡ map way_of xs
  ways_stay same = ap (λ (l : List Way). map way_of (slice_set l i y)) so_far ∙ same_ways xs i x y low at same

pub on_err : {T E P : Type 0} (r : Result T E) → P → OnErr r P
on_err (Ok x) is = tt
on_err (Err e) is = is
