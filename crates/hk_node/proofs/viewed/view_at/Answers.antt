use Rattle.std.proofs.Common.{sym, subst}
use Rattle.hk_key.specs.declared.row.Row.{Row}
use Rattle.hk_node.specs.Viewed.{IsFitRow}
use Rattle.hk_node.proofs.Walk.{fit_found}
use Rattle.hk_node.proofs.viewed.view_at.Goals as goal

pub view_row-requires : goal.view_row-requires
view_row-requires c = subst (λ (r : Row). IsFitRow (c.args.key.now, r)) (sym c.get-in-Some.ensures)
    (fit_found c.args.key.now c.args.rows.now.entries c.in-Some.row.now c.requires (sym c.in-Some.ensures.value))
