use Rattle.std.proofs.Common.{◌∙◌, ap}
use Rattle.hk_node.specs.Rows.{put_row}
use Rattle.hk_node.proofs.node.copy.add_copy.Goals as goal

pub returns : goal.returns
returns c = c.in_ok-insert.ensures.entries ∙ ap (λ k. put_row k c.in_ok-row-2.row c.args.rows.now.entries) c.in_ok-name.ensures
    ∙ ap (λ r. put_row c.args.key.now r c.args.rows.now.entries) (c.in_ok-row-2.ensures ∙ c.in_ok-row.ensures)
