use Rattle.std.proofs.Common.{ap, sym, ◌∙◌}
use Rattle.hk_node.specs.Calls.{lease_end}
use Rattle.hk_locked.specs.Locked.{ReaderState}
use Rattle.hk_locked.specs.Steps.{is_short}
use Rattle.hk_locked.proofs.Making.{short_met}
use Rattle.hk_locked.proofs.locked.LockedShard.tick.Goals as goal

pub returns-clause-short : goal.returns-clause-short
returns-clause-short g c =
    short_met c.args.length c.raise.new.self c.args.reader.now c.meet_lease.new.reader c.is_short-short.result c.in_ok-meet_lease.ensures.met
    (c.is_short-short.ensures ∙ ap (λ (r : ReaderState). is_short c.args.length r.skew (lease_end c.raise.new.self.shard.part) c.raise.new.self.shard.part.clock) c.reader.view_is)
    ∙ ap (λ (r : ReaderState). is_short c.args.length r.skew r.lease.end r.lease.now) (sym c.reader-2.view_is)
