use Rattle.std.proofs.Common.{◌∙◌, ap}
use Rattle.hk_node.proofs.Placed.{set_is_put}
use Rattle.hk_node.specs.Rows.{put_row}
use Rattle.hk_node.proofs.put.swap_row.Goals as goal

pub returns-clause-put : goal.returns-clause-put
returns-clause-put c =
    (c.get_mut.follows.holds c.replace.new.self).0
    ∙ set_is_put c.args.key.now c.replace.new.self c.args.rows.now.entries c.get_mut.ensures.ordered c.requires
    ∙ ap (λ w. put_row c.args.key.now w c.args.rows.now.entries) c.replace.ensures.new
