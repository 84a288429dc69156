-- What is left is the same where the whole is.
use Rattle.std.proofs.Common.{◌≡◌, drop, length}
use Rattle.std.specs.Cmp.Lexicographic.{pointwise}
use Rattle.hk_merge.specs.Same.{same_letter}
use Rattle.hk_merge.proofs.same.same_letters.Given as goal

abbrev pub invariant-loop-place : goal.invariant-loop-place
invariant-loop-place l = (length l.a ≡ length l.b) × (pointwise same_letter (drop l.place l.a) (drop l.place l.b) ≡ pointwise same_letter l.a l.b)
