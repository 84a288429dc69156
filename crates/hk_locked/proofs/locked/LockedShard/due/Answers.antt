use Rattle.std.specs.Option.{option_copied}
use Rattle.hk_locked.proofs.Making.{is_due}
use Rattle.hk_locked.proofs.locked.LockedShard.due.Goals as goal

pub returns : goal.returns
returns g c =
    is_due (record { node = c.self.inside.node; number = c.self.inside.number; skew = c.self.inside.skew; shard = c.self.inside.shard; asks = c.self.inside.asks; open_keys = c.self.inside.open_keys })
    c.args.self.now c.part.result.now (option_copied c.args.after) c.args.before c.due.result c.self.view_is c.part.ensures.part c.due.ensures
