use Rattle.std.proofs.Common.{◌≡◌, drop}
use Rattle.std.specs.Option.{IsSome}
use Rattle.std.specs.List.{AllByRecursion}
use Rattle.hk_node.specs.Rows.{find_row}
use Rattle.hk_shard.specs.Publishing.{publications, with_all, MayBePublished}
use Rattle.hk_shard.proofs.show.publish_rows.Given as goal

abbrev pub invariant-loop-changed : goal.invariant-loop-changed
invariant-loop-changed g l =
    MayBePublished l.writer (publications l.part.rows l.ticket l.call (drop l.changed-index l.prior))
    × (with_all l.writer (publications l.part.rows l.ticket l.call (drop l.changed-index l.prior)) ≡ with_all l.fn.writer (publications l.part.rows l.ticket l.call l.prior))
    × AllByRecursion (λ f. IsSome (find_row f.key l.part.rows)) (drop l.changed-index l.prior)
