use Rattle.std.proofs.Common.{◌≡◌}
use Rattle.hk_node.specs.Report.{rows_rolled_back}
use Rattle.hk_node.proofs.Givings.{Ready}
use Rattle.hk_node.proofs.put.give_rows_back.Given as goal

-- what is left to give back makes the whole, and can be given back
abbrev pub invariant-loop-last : goal.invariant-loop-last
invariant-loop-last l = (rows_rolled_back l.prior.items l.rows.entries ≡ rows_rolled_back l.fn.prior.items l.fn.rows.entries) × Ready l.prior.items l.rows.entries

abbrev pub decreases-loop-last : goal.decreases-loop-last
decreases-loop-last l = goal.left-loop-last l
