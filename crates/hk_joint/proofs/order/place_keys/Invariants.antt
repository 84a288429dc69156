use Rattle.std.proofs.Common.{◌≡◌, ◌++◌, flat_map, drop}
use Rattle.hk_safety.specs.Placed.{placed}
use Rattle.hk_joint.proofs.order.place_keys.Given as goal

abbrev pub invariant-loop-key : goal.invariant-loop-key
invariant-loop-key l = l.order.items ++ flat_map (placed l.run) (drop l.key-index l.key-items) ≡ flat_map (placed l.run) l.key-items
