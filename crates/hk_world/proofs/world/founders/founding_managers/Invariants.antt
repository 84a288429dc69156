use Rattle.std.proofs.Common.{◌≡◌, map}
use Rattle.std.specs.List.{range_with_len}
use Rattle.hk_world.specs.Start.{founding_manager}
use Rattle.hk_world.proofs.world.founders.founding_managers.Given as goal

-- so far they are the managers so far
abbrev pub invariant-loop-number : goal.invariant-loop-number
invariant-loop-number l = l.managers.items ≡ map (λ m. founding_manager l.header m) (range_with_len 0 l.number)
