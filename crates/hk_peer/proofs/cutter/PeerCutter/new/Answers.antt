use Rattle.hk_peer.proofs.Waiting.{first_wanted}
use Rattle.hk_peer.proofs.cutter.PeerCutter.new.Goals as goal

pub invariant_of-result : goal.invariant_of-result
invariant_of-result c = (first_wanted c.new.result.unread, tt)
