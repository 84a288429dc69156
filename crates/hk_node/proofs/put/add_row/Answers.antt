use Rattle.std.proofs.Common.{◌∙◌, ap}
use Rattle.hk_node.specs.Rows.{put_row}
use Rattle.hk_node.proofs.put.add_row.Goals as goal

pub returns-clause-put : goal.returns-clause-put
returns-clause-put c = c.in_ok-insert.ensures.entries ∙ ap (λ k. put_row k c.in_ok-row.row c.args.rows.now.entries) c.in_ok-name-2.ensures
    ∙ ap (λ r. put_row c.args.key.now r c.args.rows.now.entries) c.in_ok-row.ensures
