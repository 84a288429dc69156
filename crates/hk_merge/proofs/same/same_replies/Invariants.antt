-- What is left is the same where the whole is.
use Rattle.std.proofs.Common.{◌≡◌, drop, length}
use Rattle.std.specs.Cmp.Lexicographic.{pointwise}
use Rattle.hk_merge.specs.Same.{same_reply}
use Rattle.hk_merge.proofs.same.same_replies.Given as goal

abbrev pub invariant-loop-place : goal.invariant-loop-place
invariant-loop-place l = (length l.a ≡ length l.b) × (pointwise same_reply (drop l.place l.a) (drop l.place l.b) ≡ pointwise same_reply l.a l.b)
