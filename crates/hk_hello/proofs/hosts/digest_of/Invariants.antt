use Rattle.std.proofs.Common.{◌++◌, ◌∷◌, take}
use Rattle.std.specs.List.{flat_map}
use Rattle.sha2.specs.Hashers.{Holds256}
use Rattle.hk_hello.proofs.hosts.digest_of.Given as goal

abbrev pub invariant-loop-host : goal.invariant-loop-host
invariant-loop-host l = Holds256 l.hasher (l.first ++ flat_map (λ h. 44 ∷ h) (take l.host-index l.others))
