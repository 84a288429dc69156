use Rattle.crossbeam_utils.specs.Seq.{Stays}
use Rattle.hk_seq.specs.Steps.{IsWriting}
use Rattle.hk_seq.proofs.cell.WordCell+V+P+N+A.store_as.Given as goal

abbrev pub invariant-loop-i : goal.invariant-loop-i
invariant-loop-i g l = Stays l.fn.pass l.pass × IsWriting l.version l.fn.new l.i l.pass.me.0.stage
