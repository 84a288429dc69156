-- What a cutter drops of what comes.
use Rattle.std.proofs.Common.{◌≡◌, ℕ, zero, suc, ◌-◌, ◌<◌, ◌≤◌, min, List, [], ◌++◌, length, drop, refl, arith}
use Rattle.std.proofs.Math.ListN.{drop_of_length-le}

drop_past : (d n : ℕ) (xs : List ℕ) → length xs ≤ n → drop (min d n) xs ≡ drop d xs
drop_past d n xs h = grind (arith, h, drop_of_length-le)

-- a piece comes, and its first d bytes are dropped
pub come : (unread piece : List ℕ) (d n : ℕ) → length piece ≡ n → (0 < d → unread ≡ []) → drop (min d n) (unread ++ piece) ≡ unread ++ drop d piece
come unread piece zero n h f = let z : min 0 n ≡ 0 = omega arith in rw z refl
come unread piece (suc d) n h f =
    let none : unread ≡ [] = f (omega arith) in
    rw none (drop_past (suc d) n piece (omega (arith, h)))

-- how many are to be dropped yet
pub less_dropped : (d n : ℕ) (piece : List ℕ) → length piece ≡ n → d - min d n ≡ d - length piece
less_dropped d n piece h = rw h (omega arith)
