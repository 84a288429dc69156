use Rattle.std.proofs.Common.{◌≡◌, ◌-◌}
use Rattle.hk_frame.specs.Reading.{members_of}
use Rattle.hk_frame.proofs.Loops.{with_front}
use Rattle.hk_frame.proofs.parts.members_of.Given as goal

abbrev pub invariant-loop : goal.invariant-loop
invariant-loop l = with_front l.members (members_of l.next l.least (l.count - l.counter) l.rest) ≡ members_of l.next 0 l.count l.bytes
