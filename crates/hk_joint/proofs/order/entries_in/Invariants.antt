use Rattle.std.proofs.Common.{◌≡◌, ◌++◌, map, drop}
use Rattle.hk_joint.proofs.order.entries_in.Given as goal

abbrev pub invariant-loop-at : goal.invariant-loop-at
invariant-loop-at l = l.entries ++ map (λ p. p.entry) (drop l.at-index l.placed) ≡ map (λ p. p.entry) l.placed
