use Rattle.std.proofs.Common.{◌≡◌}
use Rattle.hk_peer.proofs.pass.put.Given as goal

abbrev pub invariant-loop : goal.invariant-loop
invariant-loop g l = (goal.iterator-loop g).can_next l.iterator' × (goal.iterator-loop g).is_finite l.iterator' × (l.outlet ≡ l.fn.outlet) × (l.unput ≡ l.fn.parcel)
