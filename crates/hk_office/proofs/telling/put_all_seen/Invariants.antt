use Rattle.std.proofs.Common.{◌≡◌, ◌++◌, take}
use Rattle.std.specs.List.{flat_map}
use Rattle.hk_office.specs.Telling.{wait_of}
use Rattle.hk_office.proofs.telling.put_all_seen.Given as goal

abbrev pub invariant-loop-seen : goal.invariant-loop-seen
invariant-loop-seen l = l.waits.items ≡ l.fn.waits.items ++ flat_map (wait_of l.node) (take l.seen-index l.nodes)
