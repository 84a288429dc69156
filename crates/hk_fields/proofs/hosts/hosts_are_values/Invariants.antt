use Rattle.std.specs.List.{AllWithin}
use Rattle.hk_fields.specs.Fields.{IsHostValue}
use Rattle.hk_fields.proofs.hosts.hosts_are_values.Given as goal

abbrev pub invariant-loop-host : goal.invariant-loop-host
invariant-loop-host l = AllWithin IsHostValue l.hosts 0 l.host-index
