use Rattle.std.proofs.Common.{◌≡◌, ◌-◌}
use Rattle.hk_fields.proofs.Many.{with_front}
use Rattle.hk_fields.specs.Fields.{many, host_at}
use Rattle.hk_fields.proofs.hosts.many_hosts.Given as goal

abbrev pub invariant-loop : goal.invariant-loop
invariant-loop l = with_front l.hosts (many host_at (l.count - l.counter) l.rest) ≡ many host_at l.count l.bytes
