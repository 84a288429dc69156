use Rattle.std.proofs.Common.{ap, ◌∙◌}
use Rattle.hk_snap.specs.Ends.{Reader, names}
use Rattle.hk_shard.specs.Shard.{ShardState}
use Rattle.hk_shard.proofs.Keeping.{split_unseen, unseen_names}
use Rattle.hk_shard.proofs.shard.Shard.reader.Goals as goal

pub returns-clause-reader : goal.returns-clause-reader
returns-clause-reader g c =
    split_unseen c.self.inside.reader c.in_ok-reader.reader c.self.inside.writer c.args.self.now.ends c.self.invariant.2 c.in_ok-reader.ensures.reader
    (ap (λ (s : ShardState). s.ends) c.self.view_is)

pub returns-clause-names : goal.returns-clause-names
returns-clause-names g c =
    ap (λ (r : Reader). names r.ends)
    (split_unseen c.self.inside.reader c.in_ok-reader.reader c.self.inside.writer c.args.self.now.ends c.self.invariant.2 c.in_ok-reader.ensures.reader
    (ap (λ (s : ShardState). s.ends) c.self.view_is))
    ∙ unseen_names c.args.self.now.ends
