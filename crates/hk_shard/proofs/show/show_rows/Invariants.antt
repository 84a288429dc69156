use Rattle.std.proofs.Common.{◌≡◌, map, drop}
use Rattle.std.specs.Option.{IsSome}
use Rattle.std.specs.List.{AllByRecursion}
use Rattle.hk_node.specs.Rows.{find_row}
use Rattle.hk_due.specs.Keys.{OpenState, AreNoted}
use Rattle.hk_shard.specs.Publishing.{publications, with_all, MayBePublished}
use Rattle.hk_shard.proofs.show.show_rows.Given as goal

-- what the rest publishes and makes of the keys, all rows do
abbrev pub invariant-loop-prior : goal.invariant-loop-prior
invariant-loop-prior g l =
    MayBePublished l.writer (publications l.part.rows l.ticket l.call (drop l.prior-index l.changed))
    × (with_all l.writer (publications l.part.rows l.ticket l.call (drop l.prior-index l.changed)) ≡ with_all l.fn.writer (publications l.part.rows l.ticket l.call l.changed))
    × AllByRecursion (λ f. IsSome (find_row f.key l.part.rows)) (drop l.prior-index l.changed)
    × ((after : OpenState) → AreNoted l.part.rows l.ticket (map (λ f. f.key) (drop l.prior-index l.changed)) l.keys after
    → AreNoted l.part.rows l.ticket (map (λ f. f.key) l.changed) l.fn.keys after)
