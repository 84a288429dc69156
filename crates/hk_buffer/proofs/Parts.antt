-- The parts of a buffer.
use Rattle.std.proofs.Common.{◌≡◌, ℕ, ◌+◌, ◌-◌, ◌≤◌, List, [], ◌++◌, length, take, drop, refl, ap, ◌∙◌, sym, arith, append-nil, length-append, length-take, length-drop}
use Rattle.std.proofs.lemmas.List.{drop-append-le, take_all, take-take, drop-take, take_at, drop_at}
use Rattle.std.proofs.Math.Seq.{take-add}
use Rattle.std.proofs.Math.ListN.{drop_of_length-le}

-- a buffer whose tail from e on was written over
abbrev pub over : List ℕ → ℕ → List ℕ → List ℕ
over xs e w = take e xs ++ (w ++ drop (length w) (drop e xs))

over_long : (xs : List ℕ) (e : ℕ) (w : List ℕ) → e ≤ length xs → length xs ≤ length (over xs e w)
over_long xs e w h = grind (arith, h, length-append, length-take, length-drop)

pub refilled : (xs : List ℕ) (n e : ℕ) (w : List ℕ) → length xs ≡ n → e ≤ length xs → take n (over xs e w ++ drop (length (over xs e w)) xs) ≡ take e xs ++ take (length (drop e xs)) (w ++ drop (length w) (drop e xs))
refilled xs n e w whole h =
    let none : drop (length (over xs e w)) xs ≡ [] = drop_of_length-le xs (over_long xs e w h) in
    let k : e + length (drop e xs) ≡ n = grind (arith, h, whole, length-drop) in
    let l : length (take e xs) ≡ e = grind (arith, h, length-take) in
    let front : take e (over xs e w) ≡ take e xs = take_at (take e xs) (w ++ drop (length w) (drop e xs)) e l in
    let back : drop e (over xs e w) ≡ w ++ drop (length w) (drop e xs) = drop_at (take e xs) (w ++ drop (length w) (drop e xs)) e l in
    let split : take (e + length (drop e xs)) (over xs e w) ≡ take e (over xs e w) ++ take (length (drop e xs)) (drop e (over xs e w)) = take-add _ _ _ in
    rw (none, append-nil (over xs e w)) ((rw k at split) ∙ rw (front, back) refl)

-- the whole tail
pub tail_is : (xs ys : List ℕ) (n e : ℕ) → length xs ≡ n → ys ≡ take (n - e) (drop e xs) → ys ≡ drop e xs
tail_is xs ys n e whole p = p ∙ take_all (n - e) (drop e xs) (grind (arith, whole, length-drop))

pub front_stays : (xs ys zs : List ℕ) (e : ℕ) → e ≤ length xs → ys ≡ take e xs ++ zs → take e ys ≡ take e xs
front_stays xs ys zs e h p = ap (take e) p ∙ take_at (take e xs) zs e (grind (arith, h, length-take))

pub back_is : (xs ys zs : List ℕ) (e : ℕ) → e ≤ length xs → ys ≡ take e xs ++ zs → drop e ys ≡ zs
back_is xs ys zs e h p = ap (drop e) p ∙ drop_at (take e xs) zs e (grind (arith, h, length-take))

-- what is left moves to the front
pub moved : (xs ys : List ℕ) (s e : ℕ) → s ≤ e → ys ≡ drop s xs → take (e - s) ys ≡ drop s (take e xs)
moved xs ys s e h p =
    let n : s + (e - s) ≡ e = omega (arith, h) in
    let split : drop s (take (s + (e - s)) xs) ≡ take (e - s) (drop s xs) = drop-take s (e - s) xs in
    ap (take (e - s)) p ∙ sym (rw n at split)

-- some of the tail comes
pub come : (xs : List ℕ) (s e n : ℕ) → s ≤ e → e ≤ length xs → drop s (take (e + n) xs) ≡ drop s (take e xs) ++ take n (drop e xs)
come xs s e n h k =
    let split : take (e + n) xs ≡ take e xs ++ take n (drop e xs) = take-add _ _ _ in
    rw split (drop-append-le s (take e xs) (take n (drop e xs)) (grind (arith, h, k, length-take)))

-- the front of a longer front
pub front_of_front : (xs ys : List ℕ) (e n : ℕ) → e ≤ n → ys ≡ take n xs → take e ys ≡ take e xs
front_of_front xs ys e n h p = ap (take e) p ∙ take-take e n xs h
