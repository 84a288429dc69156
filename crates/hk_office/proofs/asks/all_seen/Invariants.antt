use Rattle.std.proofs.Common.{◌≡◌, map, take}
use Rattle.hk_office.specs.Asks.{seen_of}
use Rattle.hk_office.proofs.asks.all_seen.Given as goal

abbrev pub invariant-loop-node : goal.invariant-loop-node
invariant-loop-node l = l.seen ≡ map seen_of (take l.node-index l.nodes)
