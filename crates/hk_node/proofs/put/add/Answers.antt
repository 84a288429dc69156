use Rattle.std.proofs.Common.{sym, subst, List, ℕ}
use Rattle.hk_node.specs.Index.{IsGrown}
use Rattle.hk_node.proofs.Walk.{insert_grows}
use Rattle.hk_node.proofs.put.add.Goals as goal

pub returns-clause-grown : goal.returns-clause-grown
returns-clause-grown c = subst (λ (l : List (List ℕ)). IsGrown c.args.keys.now.keys l) (sym c.in_ok-insert.ensures.keys) (insert_grows c.in_ok-key.key c.args.keys.now.keys)
