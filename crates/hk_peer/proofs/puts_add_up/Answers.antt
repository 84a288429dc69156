use Rattle.hk_peer.proofs.Putting.{own_more, alone_more}
use Rattle.hk_peer.proofs.puts_add_up.Goals as goal

pub returns : goal.returns
returns c = record { own = own_more; alone = alone_more }
