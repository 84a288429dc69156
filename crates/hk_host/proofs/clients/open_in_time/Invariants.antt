use Rattle.std.proofs.Common.{◌≡◌}
use Rattle.hk_host.proofs.clients.open_in_time.Given as goal

-- no connection was taken
abbrev pub invariant-loop : goal.invariant-loop
invariant-loop g l =
    (goal.iterator-loop g).can_next l.iterator' × (goal.iterator-loop g).is_finite l.iterator'
    × (g.D.DoorsAt.left l.doors ≡ g.D.DoorsAt.left l.fn.doors)
