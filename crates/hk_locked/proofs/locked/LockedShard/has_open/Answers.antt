use Rattle.hk_locked.proofs.Making.{not_false, is_quiet}
use Rattle.hk_locked.proofs.locked.LockedShard.has_open.Goals as goal

pub returns : goal.returns
returns g c = λ closed.
    let none = c.is_empty.ensures (not_false c.is_empty.result closed) in
    is_quiet g.P.Places.places (record { node = c.self.inside.node; number = c.self.inside.number; skew = c.self.inside.skew; shard = c.self.inside.shard; asks = c.self.inside.asks; open_keys = c.self.inside.open_keys })
    c.args.self.now c.self.view_is c.self.invariant none.0 none.1
