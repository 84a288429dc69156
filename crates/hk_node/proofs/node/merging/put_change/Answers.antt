use Rattle.std.proofs.Common.{◌∙◌, sym, ap}
use Rattle.hk_node.specs.Rows.{put_row}
use Rattle.hk_node.specs.Copying.{put_change}
use Rattle.hk_node.proofs.node.merging.put_change.Goals as goal

pub returns-in_ok-insert : goal.returns-in_ok-insert
returns-in_ok-insert c = c.in_ok-insert.ensures.entries ∙ ap (λ k. put_row k c.in_ok-row.row c.args.changes.now.entries) c.in_ok-key.ensures
    ∙ ap (λ r. put_row c.args.key.now r c.args.changes.now.entries) c.in_ok-row.ensures
    ∙ ap (λ o. put_change o c.args.key.now c.args.changes.now.entries) (sym c.in-Some.is)
