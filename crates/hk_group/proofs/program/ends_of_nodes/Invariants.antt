use Rattle.std.proofs.Common.{◌≡◌, ◌+◌, length}
use Rattle.hk_worker.specs.Founding.{AreNamed}
use Rattle.hk_group.proofs.program.ends_of_nodes.Given as goal

-- those that are left are named, and the others have ends
abbrev pub invariant-loop-one : goal.invariant-loop-one
invariant-loop-one g l = AreNamed g.P.Places.places l.one-iterator.rest.items × (length l.all_ends.items + length l.one-iterator.rest.items ≡ length l.fn.founded.items)
