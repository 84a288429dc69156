use Rattle.std.proofs.Common.{sym, subst}
use Rattle.hk_base.specs.Range.{IsWithin}
use Rattle.hk_node.specs.Node.{NodeState}
use Rattle.hk_node.specs.Rows.{row_at}
use Rattle.hk_locked.proofs.ByRow.{row_at_in_limit}
use Rattle.hk_locked.proofs.locked.LockedShard.doubt.Goals as goal

pub doubt_in-requires-clause-rows : goal.doubt_in-requires-clause-rows
doubt_in-requires-clause-rows g c key =
    subst (λ (n : NodeState). IsWithin (row_at key n.rows).stamp) (sym c.part.ensures.part) (row_at_in_limit c.self.inside.shard key c.part.ensures.kept)
