use Rattle.hk_accept.proofs.Counting.{StaysLeft}
use Rattle.hk_accept.proofs.accept.next_connection.Given as goal

abbrev pub invariant-loop : goal.invariant-loop
invariant-loop g l =
    (goal.iterator-loop g).can_next l.iterator' × (goal.iterator-loop g).is_finite l.iterator'
    × StaysLeft (g.D.Doors.left l.fn.doors) (g.D.Doors.left l.doors)
