use Rattle.std.proofs.Common.{◌≡◌, replicate, None}
use Rattle.hk_boards.proofs.boards.Boards.new.Given as goal

abbrev pub invariant-loop : goal.invariant-loop
invariant-loop l = l.heard.items ≡ replicate l.counter None
