use Rattle.hk_node.proofs.Givings.{given_turn}
use Rattle.hk_node.proofs.put.give_rows_back.Goals as goal

pub loop-last-preserved : goal.loop-last-preserved
loop-last-preserved c =
    given_turn _ c.loop-last.prior.items c.pop.new.self.items c.in-Some.last c.loop-last.rows.entries c.give_row_back.new.rows.entries
    c.in-Some.ensures.items c.give_row_back.ensures c.loop-last.invariant
