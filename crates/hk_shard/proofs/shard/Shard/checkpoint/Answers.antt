use Rattle.std.proofs.Common.{ap, ◌∙◌}
use Rattle.hk_shard.specs.Replaced.{before_all}
use Rattle.hk_shard.specs.Shard.{ShardState, checkpointed}
use Rattle.hk_shard.proofs.Keeping.{checkpoint_by, checkpoint_is}
use Rattle.hk_shard.proofs.shard.Shard.checkpoint.Goals as goal

pub invariant_of-self : goal.invariant_of-self
invariant_of-self c =
    let kept = checkpoint_by _ c.replace.new.dest c.clear.new.self.items c.self.invariant.0 (c.replace.ensures.after ∙ c.empty_journal-next.ensures) c.clear.ensures.items in
    (kept.0, kept.1, c.self.invariant.2, c.self.invariant.3)

pub returns-clause-anew : goal.returns-clause-anew
returns-clause-anew c =
    let s : ShardState = record {
      base = before_all c.self.inside.replaced.items c.self.inside.part;
      journal = c.self.inside.journal;
      part = c.self.inside.part;
      last = c.self.inside.last;
      ends = c.self.inside.writer;
      lease = c.self.inside.keeper;
    } in
    checkpoint_is s c.replace.new.dest c.clear.new.self.items (c.replace.ensures.after ∙ c.empty_journal-next.ensures) c.clear.ensures.items ∙ ap checkpointed c.self.view_is
