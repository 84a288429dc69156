use Rattle.std.proofs.Common.{length, ap, ◌∙◌}
use Rattle.hk_restore.proofs.Returning.{starts_long}
use Rattle.hk_restore.proofs.records.restore.Goals as goal

pub take_records-requires-clause-starts : goal.take_records-requires-clause-starts
take_records-requires-clause-starts c = ap length c.requires.starts ∙ starts_long c.args.records.now
