use Rattle.std.proofs.Common.{◌-◌, length}
use Rattle.hk_log.proofs.Standing.{Scanned}
use Rattle.hk_log.proofs.scan.scan.Given as goal

abbrev pub invariant-loop-starts : goal.invariant-loop-starts
invariant-loop-starts l = Scanned l.records l.starts.items l.check.0 l.place l.file

abbrev pub decreases-loop-starts : goal.decreases-loop-starts
decreases-loop-starts l = length l.file - l.place
