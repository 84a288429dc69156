use Rattle.std.proofs.Common.{◌≡◌, drop}
use Rattle.hk_log.specs.Logs.{holds_record}
use Rattle.hk_log.proofs.records.holds_record.Given as goal

abbrev pub invariant-loop-place : goal.invariant-loop-place
invariant-loop-place l = holds_record (drop l.place l.bytes) ≡ holds_record l.bytes
