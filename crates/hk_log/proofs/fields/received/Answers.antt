use Rattle.std.proofs.Common.{sym}
use Rattle.hk_log.proofs.Received.{received_is, received_other}
use Rattle.hk_log.proofs.fields.received.Goals as goal

pub returns-then-not-is_of_paxos : goal.returns-then-not-is_of_paxos
returns-then-not-is_of_paxos c = received_other c.args.bytes.now c.in-Ok.shard c.in-Ok.letter c.in-Ok.len c.in-Ok.ensures.exact (sym c.if-not-is_of_paxos.ensures)

pub returns-else-not-is_of_paxos : goal.returns-else-not-is_of_paxos
returns-else-not-is_of_paxos c = rw c.split_at.ensures.back (received_is c.args.bytes.now c.in-Ok.shard c.in-Ok.letter c.in-Ok.len c.in-Ok.ensures.exact (sym c.if-not-is_of_paxos.ensures))
