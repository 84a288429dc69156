use Rattle.std.proofs.Common.{◌≡◌, drop}
use Rattle.hk_reply.specs.Scans.{literal_at}
use Rattle.hk_reply.proofs.scan.literal.Given as goal

abbrev pub invariant-loop-wanted : goal.invariant-loop-wanted
invariant-loop-wanted l = literal_at l.text l.bytes ≡ literal_at (drop l.wanted-index l.text) l.rest
