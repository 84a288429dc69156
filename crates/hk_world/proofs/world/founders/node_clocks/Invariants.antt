use Rattle.std.proofs.Common.{◌≡◌, map}
use Rattle.hk_base.specs.declared.letter.Actor.TheVariants.{Node}
use Rattle.hk_base.specs.View.{counted}
use Rattle.hk_world.specs.Start.{founding_paces}
use Rattle.hk_world.proofs.world.founders.node_clocks.Given as goal

-- so far they are the clocks so far
abbrev pub invariant-loop-number : goal.invariant-loop-number
invariant-loop-number l = l.clocks ≡ record { skew = l.fn.header.skew; paces = founding_paces (map (λ id. Node id) (counted 0 l.number)) }
