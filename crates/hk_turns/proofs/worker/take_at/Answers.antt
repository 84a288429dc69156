use Rattle.hk_turns.proofs.Taking.{take_told}
use Rattle.hk_turns.proofs.worker.take_at.Goals as goal

pub returns : goal.returns
returns g c =
    take_told c.args.place c.args.inlets.now.items c.index_mut.result.now c.take.new.self c.take.result c.index_mut.ensures.value c.requires c.take.ensures.link c.take.ensures.taken
