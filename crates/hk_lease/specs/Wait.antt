-- How long a manager waits for a lease that it granted.
use Rattle.std.specs.Prelude.{ℕ, ◌+◌, ◌*◌, ◌<◌, ◌≤◌}
use Rattle.std.specs.Int.{div_ceil}

-- the lease and a tenth of it, rounded up
abbrev pub wait : ℕ → ℕ
wait lease = lease + div_ceil lease 10

-- The shortest time in whole milliseconds that is not below eleven tenths of the lease: so long a clock goes at most that
-- runs a tenth faster than the node's, while the node's goes by the lease.
pub record IsWait (lease time : ℕ) : Type 0 where
  pub enough : 11 * lease ≤ 10 * time
  pub shortest : 10 * time < 11 * lease + 10
