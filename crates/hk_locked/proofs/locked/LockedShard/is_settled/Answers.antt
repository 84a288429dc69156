use Rattle.std.proofs.Common.{not, sym, ap, subst, ◌∙◌}
use Rattle.hk_node.specs.Node.{NodeState}
use Rattle.hk_node.specs.Index.{is_open_at}
use Rattle.hk_due.specs.Keys.{AreOpen}
use Rattle.hk_locked.specs.Locked.{LockedState}
use Rattle.hk_locked.proofs.locked.LockedShard.is_settled.Goals as goal

pub is_open-requires : goal.is_open-requires
is_open-requires g c = subst (λ (n : NodeState). AreOpen c.self.inside.open_keys n.rows) (sym c.part.ensures.part) c.self.invariant.are_open

pub returns : goal.returns
returns g c =
    ap not (c.is_open.ensures ∙ (ap (λ (n : NodeState). is_open_at n.rows c.args.key.now) c.part.ensures.part
    ∙ ap (λ (s : LockedState). is_open_at s.shard.part.rows c.args.key.now) c.self.view_is))
