use Rattle.std.proofs.Common.{◌≡◌, ◌++◌, length}
use Rattle.hk_hosts.specs.Lists.{hosts_text}
use Rattle.hk_hosts.proofs.hosts.put_hosts.Given as goal

abbrev pub invariant-loop-left : goal.invariant-loop-left
invariant-loop-left l = l.out.items ++ hosts_text l.left ≡ l.initial.out.items ++ hosts_text l.hosts

abbrev pub decreases-loop-left : goal.decreases-loop-left
decreases-loop-left l = length l.left
