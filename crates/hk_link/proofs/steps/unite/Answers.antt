use Rattle.crossbeam_queue.specs.Passes.{view}
use Rattle.hk_link.proofs.Moves.{united_at}
use Rattle.hk_link.proofs.steps.unite.Goals as goal

pub returns-clause-known : goal.returns-clause-known
returns-clause-known c = united_at (view c.args.pass.now) (view c.args.other.now) (view c.part-taker.result) (view c.join.new.pass) c.requires.apart c.part-taker.ensures.known.1 c.join.ensures.known
