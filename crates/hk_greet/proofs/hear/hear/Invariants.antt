use Rattle.std.proofs.Common.{[], ◌-◌, length}
use Rattle.hk_greet.specs.Standing.{Passes}
use Rattle.hk_greet.proofs.hear.hear.Given as goal

abbrev pub invariant-loop-message : goal.invariant-loop-message
invariant-loop-message g l = Passes l.initial.conn l.conn [] []

abbrev pub decreases-loop-message : goal.decreases-loop-message
decreases-loop-message g l = g.M.Message.most - length l.conn.unread
