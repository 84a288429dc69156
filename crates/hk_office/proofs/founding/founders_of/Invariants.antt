use Rattle.std.proofs.Common.{◌≡◌, ◌++◌, map, drop}
use Rattle.hk_office.specs.Founding.{founder_of}
use Rattle.hk_office.proofs.founding.founders_of.Given as goal

abbrev pub invariant-loop-host : goal.invariant-loop-host
invariant-loop-host l = l.founders.items ++ map founder_of (drop l.host-index l.hosts) ≡ map founder_of l.hosts
