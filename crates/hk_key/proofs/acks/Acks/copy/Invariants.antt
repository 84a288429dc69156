use Rattle.std.proofs.Common.{◌≡◌, take}
use Rattle.hk_key.proofs.acks.Acks.copy.Given as goal

abbrev pub invariant-loop-ack : goal.invariant-loop-ack
invariant-loop-ack l = l.acks ≡ take l.ack-index l.ack-items
