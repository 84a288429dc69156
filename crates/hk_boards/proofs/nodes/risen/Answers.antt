use Rattle.hk_boards.proofs.Gathered.{left_rising, left_same}
use Rattle.hk_boards.proofs.nodes.risen.Goals as goal

pub returns-clause-rising : goal.returns-clause-rising
returns-clause-rising c = left_rising c.args.numbers.items c.sort_unstable.new.self.items c.dedup.new.self.items c.dedup.ensures.filtered c.sort_unstable.ensures.sorted

pub returns-clause-same : goal.returns-clause-same
returns-clause-same c = left_same c.args.numbers.items c.sort_unstable.new.self.items c.dedup.new.self.items c.dedup.ensures.filtered c.sort_unstable.ensures.permutation
