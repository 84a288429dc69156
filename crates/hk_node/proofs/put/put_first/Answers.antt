use Rattle.std.proofs.Common.{◌≡◌, sym, rules, true}
use Rattle.hk_key.specs.Same.{is_same_row}
use Rattle.hk_node.specs.Rows.{row_at}
use Rattle.hk_node.proofs.Order.{with_stays}
use Rattle.hk_node.proofs.put.put_first.Goals as goal

pub returns-then-is_same-clause-put : goal.returns-then-is_same-clause-put
returns-then-is_same-clause-put c =
    let same : is_same_row (row_at c.args.key.now c.args.rows.now.entries) c.args.row ≡ true = search rules in
    sym (with_stays c.args.key.now c.args.row c.args.rows.now.entries c.requires.ordered c.requires.made same)
