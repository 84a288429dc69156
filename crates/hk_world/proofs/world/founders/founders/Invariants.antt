use Rattle.std.proofs.Common.{◌≡◌, map}
use Rattle.hk_base.specs.View.{counted}
use Rattle.hk_world.specs.Start.{founding_process}
use Rattle.hk_world.proofs.world.founders.founders.Given as goal

-- so far they are the founders so far
abbrev pub invariant-loop-number : goal.invariant-loop-number
invariant-loop-number l = l.processes.entries ≡ map (λ id. (id, founding_process l.header id)) (counted 0 l.number)
