use Rattle.std.proofs.Common.{◌≡◌, ◌-◌}
use Rattle.hk_fields.specs.Fields.{many}
use Rattle.hk_fields.proofs.Many.{with_front}
use Rattle.hk_inside.specs.Reading.{seen_at}
use Rattle.hk_inside.proofs.reports.many_nodes.Given as goal

abbrev pub invariant-loop : goal.invariant-loop
invariant-loop l = with_front l.nodes (many seen_at (l.count - l.counter) l.rest) ≡ many seen_at l.count l.bytes
