use Rattle.std.proofs.Common.{◌≤◌, sym, ap, ◌∙◌, subst}
use Rattle.std.specs.Option.{IfSome}
use Rattle.hk_base.specs.declared.stamp.TheConstants.{MAX_VERSION}
use Rattle.hk_node.specs.Node.{NodeState}
use Rattle.hk_node.specs.Rows.{find_row}
use Rattle.hk_node.specs.Calls.{lease_end}
use Rattle.hk_locked.specs.Locked.{LockedState}
use Rattle.hk_locked.specs.Steps.{Meets, MeetsLease}
use Rattle.hk_locked.specs.ByRow.{told_by}
use Rattle.hk_locked.proofs.ByRow.{row_in_limit, row_is_read}
use Rattle.hk_locked.proofs.locked.LockedShard.read_row.Goals as goal

pub told_by-requires : goal.told_by-requires
told_by-requires g c =
    subst (λ (n : NodeState). IfSome (find_row c.args.key.now n.rows) (λ row. row.stamp.version ≤ MAX_VERSION)) (sym c.part-part.ensures.part)
    (row_in_limit c.self-2.inside.shard c.args.key.now c.part-part.ensures.kept)

pub returns-clause-read : goal.returns-clause-read
returns-clause-read g c =
    row_is_read
    (record { node = c.self-2.inside.node; number = c.self-2.inside.number; skew = c.self-2.inside.skew; shard = c.self-2.inside.shard; asks = c.self-2.inside.asks; open_keys = c.self-2.inside.open_keys })
    c.args.key.now c.args.reader.now c.meet.new.reader c.meet_lease.new.reader c.lease_end-end.result c.in_ok-answer.field-0 c.in-Some.answer c.part-part.ensures.kept
    (subst (λ (s : LockedState). Meets s c.args.key.now c.args.reader.now c.meet.new.reader) (sym (c.self-2.view_is ∙ (c.meet_lease.ensures.same ∙ c.meet.ensures.same))) c.in_ok-meet.ensures.met)
    (subst (λ (s : LockedState). MeetsLease s c.meet.new.reader c.meet_lease.new.reader) (sym (c.self-2.view_is ∙ c.meet_lease.ensures.same)) c.in_ok-meet_lease.ensures.met)
    (c.lease_end-end.ensures ∙ ap lease_end c.part-part.ensures.part)
    (c.in_ok-answer.ensures ∙ ap (λ (n : NodeState). told_by (find_row c.args.key.now n.rows)) c.part-part.ensures.part)
    c.in-Some.is
