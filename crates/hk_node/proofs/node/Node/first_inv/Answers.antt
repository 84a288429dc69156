use Rattle.std.proofs.Common.{◌∙◌, Option, unwrap_or, refl, sym, ap}
use Rattle.hk_key.specs.declared.row.Row.{Row}
use Rattle.hk_key.specs.Table.{first_row}
use Rattle.hk_node.proofs.Received.{inv_kept}
use Rattle.hk_node.proofs.node.Node.first_inv.Goals as goal

pub finish-requires-clause-node : goal.finish-requires-clause-node
finish-requires-clause-node c = inv_kept c.args.self.now c.args.self.now refl c.requires.node c.args.key.now c.first-row.result
    (c.first-row.ensures ∙ ap (λ (o : Option Row). unwrap_or o first_row) (sym c.requires.none))
    c.args.from c.args.stamp c.args.kind c.args.content c.requires.within c.requires.leaves c.requires.other
    c.on_inv-out.new.self c.on_inv-out.ensures.row
