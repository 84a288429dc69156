-- Jobs that were started before others.
use Rattle.std.proofs.Common.{ℕ, ◌+◌, ◌≤◌, Option, Some, None, subst, arith}
use Rattle.hk_accept.specs.Serving.{Taken, HasServed}
use Rattle.hk_group.specs.Jobs.{HasServedBeside}

taken_both : (a b c : Option ℕ) (m n : ℕ) → Taken a b m → Taken b c n → Taken a c (m + n)
taken_both None b c m n first second = tt
taken_both (Some f) b c m n first second =
    let at = subst (λ (o : Option ℕ). Taken o c n) first.1 second in
    let before = first.2 in
    let now = at.2 in
    (at.0, at.1, omega (arith, before, now))

-- what two lists of jobs were started before
pub served_beside : (left left' a b c d : Option ℕ) (e f g h : ℕ) (first second conns : ℕ) → Taken a b first → Taken b c second → e ≤ f → f ≤ g → HasServed left left' c d g h conns
    → HasServedBeside (first + second) left left' a d e h conns
served_beside left left' a b c d e f g h first second conns one two later later_then served =
    record { between = c; began = g; started = taken_both a b c first second one two; later = omega (arith, later, later_then); served = served }
