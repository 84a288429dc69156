use Rattle.hk_locked.proofs.Making.{is_owed}
use Rattle.hk_locked.proofs.locked.LockedShard.due_of_key.Goals as goal

pub returns : goal.returns
returns g c =
    is_owed (record { node = c.self.inside.node; number = c.self.inside.number; skew = c.self.inside.skew; shard = c.self.inside.shard; asks = c.self.inside.asks; open_keys = c.self.inside.open_keys })
    c.args.self.now c.part.result.now c.args.key.now c.due_of_key.result c.self.view_is c.part.ensures.part c.due_of_key.ensures
