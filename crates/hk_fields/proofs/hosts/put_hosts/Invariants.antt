use Rattle.std.proofs.Common.{◌≡◌, ◌++◌, take}
use Rattle.std.specs.List.{flat_map}
use Rattle.hk_fields.specs.Fields.{host_bytes}
use Rattle.hk_fields.proofs.hosts.put_hosts.Given as goal

abbrev pub invariant-loop-host : goal.invariant-loop-host
invariant-loop-host l = l.out.items ≡ l.fn.out.items ++ flat_map host_bytes (take l.host-index l.hosts)
