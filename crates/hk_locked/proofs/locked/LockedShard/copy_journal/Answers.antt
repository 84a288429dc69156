use Rattle.std.proofs.Common.{◌∙◌}
use Rattle.hk_locked.proofs.Making.{is_journal}
use Rattle.hk_locked.proofs.locked.LockedShard.copy_journal.Goals as goal

pub returns : goal.returns
returns g c =
    is_journal (record { node = c.self.inside.node; number = c.self.inside.number; skew = c.self.inside.skew; shard = c.self.inside.shard; asks = c.self.inside.asks; open_keys = c.self.inside.open_keys })
    c.args.self.now c.as_slice.result.now c.share_journal.result c.self.view_is (c.as_slice.ensures ∙ c.journal.ensures) c.share_journal.ensures
