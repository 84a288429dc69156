use Rattle.std.proofs.Common.{◌≡◌, ◌-◌}
use Rattle.hk_frame.specs.Reading.{items_of}
use Rattle.hk_frame.proofs.Loops.{with_front}
use Rattle.hk_frame.proofs.parts.items_of.Given as goal

abbrev pub invariant-loop : goal.invariant-loop
invariant-loop l = with_front l.items (items_of (l.count - l.counter) l.rest) ≡ items_of l.count l.bytes
