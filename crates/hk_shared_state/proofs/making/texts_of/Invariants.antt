-- The texts are those of the addresses so far.
use Rattle.std.proofs.Common.{◌≡◌, map, take}
use Rattle.hk_hosts.specs.Addresses.{address_text}
use Rattle.hk_shared_state.proofs.making.texts_of.Given as goal

abbrev pub invariant-loop-host : goal.invariant-loop-host
invariant-loop-host l = l.texts.items ≡ map address_text (take l.host-index l.hosts)
