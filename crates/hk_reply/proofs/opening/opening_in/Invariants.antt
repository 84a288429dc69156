use Rattle.std.proofs.Common.{◌≡◌, ◌+◌, drop, length}
use Rattle.hk_reply.specs.Openings.{opening_in}
use Rattle.hk_reply.proofs.opening.opening_in.Given as goal

abbrev pub invariant-loop-opening : goal.invariant-loop-opening
invariant-loop-opening l = opening_in l.openings (length l.bytes + 1) l.bytes ≡ opening_in (drop l.opening-index l.openings) l.least l.bytes
