use Rattle.std.proofs.Common.{◌≡◌, ◌++◌, map}
use Rattle.std.specs.List.{range_with_len}
use Rattle.hk_base.specs.declared.letter.Actor.TheVariants.{Node, Manager}
use Rattle.hk_base.specs.View.{counted}
use Rattle.hk_world.specs.Start.{founding_paces}
use Rattle.hk_world.proofs.world.founders.founding_clocks.Given as goal

-- so far they are those of the founders, and of the managers so far
abbrev pub invariant-loop-number : goal.invariant-loop-number
invariant-loop-number l = l.clocks ≡ record { skew = l.fn.header.skew; paces = founding_paces (map (λ id. Node id) (counted 0 l.fn.header.nodes) ++ map (λ m. Manager m) (range_with_len 0 l.number)) }
