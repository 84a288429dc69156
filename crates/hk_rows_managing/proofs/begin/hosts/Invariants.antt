use Rattle.std.proofs.Common.{◌≡◌, length}
use Rattle.hk_rows_managing.proofs.begin.hosts.Given as goal

-- so many so far
abbrev pub invariant-loop-host : goal.invariant-loop-host
invariant-loop-host l = length l.hosts ≡ l._host
