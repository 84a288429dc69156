use Rattle.crossbeam_utils.specs.Seq.{Stays}
use Rattle.hk_seq.proofs.cell.WordCell+V+P+N+A.load_as.Given as goal

abbrev pub invariant-loop : goal.invariant-loop
invariant-loop g l = Stays l.initial.pass l.pass
