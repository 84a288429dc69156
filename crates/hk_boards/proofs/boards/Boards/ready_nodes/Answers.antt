use Rattle.hk_boards.proofs.Gathered.{are_ready}
use Rattle.hk_boards.proofs.boards.Boards.ready_nodes.Goals as goal

pub returns : goal.returns
returns c = are_ready c.args.founding c.args.self.now c.in_ok-nodes.nodes.items c.keep_ready.new.nodes.items c.in_ok-nodes.ensures c.keep_ready.ensures
