use Rattle.hk_turns.proofs.Taking.{takes_parcel}
use Rattle.hk_turns.proofs.worker.Worker.take.Goals as goal

pub returns-clause-taken : goal.returns-clause-taken
returns-clause-taken g c =
    takes_parcel (record { node = c.self.inside.node; inlets = c.self.inside.inlets.items; requests = c.self.inside.requests; round = c.self.inside.round }) c.args.self.now
    c.take_first.new.inlets.items c.take_first.result c.self.view_is c.take_first.ensures.taken
