use Rattle.std.proofs.lemmas.Result.{on_ok_weaker}
use Rattle.hk_locked.proofs.locked.LockedShard.meet.Goals as goal

pub returns-clause-met : goal.returns-clause-met
returns-clause-met g c = on_ok_weaker c.meet_cell.result (λ met. met c.args.key.now c.cell_of.ensures.cell) c.meet_cell.ensures.met
