use Rattle.std.proofs.Common.{◌≡◌, ◌+◌, ◌<◌, length, rules, drop}
use Rattle.std.proofs.Math.ListN.{drop_of_length-le}
use Rattle.hk_base.specs.Range.{IsWithin}
use Rattle.hk_node.proofs.Merged.{quiet_now, turn, left_is, within_at, merge_is}
use Rattle.hk_node.proofs.node.merging.merge.Goals as goal

pub change-requires-clause-quiet : goal.change-requires-clause-quiet
change-requires-clause-quiet c = quiet_now c.item-item.result.key c.args.items.now (drop c.loop-item.item-index c.as_slice-item-items.result.now) c.args.rows.now.entries c.loop-item.changes.entries c.requires.quiet c.loop-item.invariant

pub loop-item-preserved : goal.loop-item-preserved
loop-item-preserved c =
    let lt : c.loop-item.item-index < length c.as_slice-item-items.result.now = search rules in
    let same : c.as_slice-item-items.result.now ≡ c.args.items.now = search rules in
    let within : IsWithin c.item-item.result.stamp = within_at c.as_slice-item-items.result.now c.args.items.now c.loop-item.item-index c.item-item.result same lt c.requires.within c.item-item.is in
    turn c.args.items.now (drop c.loop-item.item-index c.as_slice-item-items.result.now) (drop (c.loop-item.item-index + 1) c.as_slice-item-items.result.now)
    c.args.rows.now.entries c.loop-item.changes.entries c.put_change.new.changes.entries c.item-item.result c.in_ok-row.row
    c.requires.rising c.requires.quiet within (left_is c.as_slice-item-items.result.now c.loop-item.item-index c.item-item.result lt c.item-item.is)
    c.in_ok-row.ensures c.in_ok-put_change.ensures c.loop-item.invariant

pub returns : goal.returns
returns c = merge_is c.args.items.now (drop c.loop-item.item-index c.as_slice-item-items.result.now) c.args.rows.now.entries c.loop-item.changes.entries
    (drop_of_length-le c.as_slice-item-items.result.now c.loop-item-test.false) c.loop-item.invariant
