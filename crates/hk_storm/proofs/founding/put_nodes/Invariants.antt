-- the list has the names of the cells of those that are left
use Rattle.hk_worker.specs.Founding.{AreNamed}
use Rattle.hk_storm.proofs.founding.put_nodes.Given as goal

abbrev pub invariant-loop-one : goal.invariant-loop-one
invariant-loop-one g l = AreNamed g.P.Places.places l.one-iterator.rest.items
