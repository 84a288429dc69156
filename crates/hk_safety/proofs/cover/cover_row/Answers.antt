use Rattle.std.proofs.Common.{sym}
use Rattle.hk_node.proofs.Again.{found_sound}
use Rattle.hk_safety.proofs.Puts.{on_ok}
use Rattle.hk_safety.proofs.Covering.{row_found, row_again, row_missing, waits_within}
use Rattle.hk_safety.proofs.cover.cover_row.Goals as goal

pub returns-in_default : goal.returns-in_default
returns-in_default c = row_missing c.args.view.now c.args.cover c.args.node.now c.args.key.now c.args.keys.now.entries (sym c.in_default.ensures)

pub tag-tag-requires : goal.tag-tag-requires
tag-tag-requires c = (found_sound c.args.node.now c.args.key.now c.in-Some.row.now c.requires (sym c.in-Some.ensures)).within

pub waits_at-requires : goal.waits_at-requires
waits_at-requires c = waits_within c.args.node.now c.args.key.now c.in-Some.row.now c.requires (sym c.in-Some.ensures)

pub returns-then-waits_at : goal.returns-then-waits_at
returns-then-waits_at c =
    row_again c.args.view.now c.args.cover c.args.node.now c.args.key.now c.in-Some.row.now c.tag-tag.result c.args.keys.now.entries c.cover_tag.new.keys.entries
    (sym c.in-Some.ensures) c.tag-tag.ensures c.in_ok-cover_tag.ensures (c.waits_at.ensures c.if-waits_at.true c.args.key.now)

pub cover_pending-requires : goal.cover_pending-requires
cover_pending-requires c = waits_within c.args.node.now c.args.key.now c.in-Some.row.now c.requires (sym c.in-Some.ensures)

pub returns : goal.returns
returns c =
    on_ok c.cover_pending.result
    (row_found c.args.view.now c.args.cover c.args.node.now c.args.key.now c.in-Some.row.now c.tag-tag.result c.args.keys.now.entries c.cover_tag.new.keys.entries
    c.cover_pending.new.keys.entries (sym c.in-Some.ensures) c.tag-tag.ensures c.in_ok-cover_tag.ensures) c.cover_pending.ensures
