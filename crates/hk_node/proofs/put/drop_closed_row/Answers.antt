use Rattle.std.proofs.Common.{◌≡◌, List, true, sym, subst}
use Rattle.hk_node.specs.Index.{is_listed}
use Rattle.hk_node.proofs.Order.{Key}
use Rattle.hk_node.proofs.Walk.{remove_keeps}
use Rattle.hk_node.proofs.put.drop_closed_row.Goals as goal

pub returns-then-not-is_valid-clause-others : goal.returns-then-not-is_valid-clause-others
returns-then-not-is_valid-clause-others c other ne e =
    subst (λ (l : List Key). is_listed other l ≡ true) (sym c.remove.ensures.keys) (remove_keeps c.args.key.now c.args.keys.now.keys other ne e)
