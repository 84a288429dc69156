-- The nodes of which a report tells are few, and in range.
use Rattle.std.proofs.Common.{◌≡◌, ◌<◌, ◌≤◌, ℕ, zero, suc, Bool, true, false, cond, List, [], ◌∷◌, ◌++◌, take, length, Option, None, Some, All, IfSome, refl, arith}
use Rattle.std.specs.List.{filter, AllByRecursion}
use Rattle.std.proofs.lemmas.Bool.{ltb-true}
use Rattle.std.proofs.lemmas.List.Elements.{All-from_recursion, All-take}
use Rattle.hk_inside.specs.declared.report.NodeSeen.{NodeSeen}
use Rattle.hk_inside.specs.Parts.{IsSeenInRange}
use Rattle.hk_channel.specs.Reporting.{is_age, fits, nodes_told}

below : (n : ℕ) (xs : List NodeSeen) → length (take n xs) ≤ n
below zero xs = omega arith
below (suc n) [] = omega arith
below (suc n) (x ∷ xs) = let rest = below n xs in omega (arith, rest)

pub few : (asks unacknowledged : List NodeSeen) → length (nodes_told asks unacknowledged) < 256
few asks unacknowledged = let most = below 255 (filter fits (asks ++ unacknowledged)) in omega (arith, most)

in_range : (s : NodeSeen) → fits s ≡ true → IsSeenInRange s
in_range s e = by s.age_of_ask e
  where
    by : (age : Option ℕ) → is_age age ≡ true → IfSome age (λ n. n < 4294967295)
    by None e = tt
    by (Some n) e = ltb-true n 4294967295 e

fitting : (seen : List NodeSeen) → AllByRecursion IsSeenInRange (filter fits seen)
fitting [] = tt
fitting (s ∷ seen) = at (fits s) refl (fitting seen)
  where
    at : (b : Bool) → fits s ≡ b → AllByRecursion IsSeenInRange (filter fits seen) → AllByRecursion IsSeenInRange (cond b (s ∷ filter fits seen) (filter fits seen))
    at true e rest = (in_range s e, rest)
    at false e rest = rest

pub all_in_range : (asks unacknowledged : List NodeSeen) → All IsSeenInRange (nodes_told asks unacknowledged)
all_in_range asks unacknowledged =
    let seen : List NodeSeen = filter fits (asks ++ unacknowledged) in
    All-take IsSeenInRange 255 seen (All-from_recursion IsSeenInRange seen (fitting (asks ++ unacknowledged)))
