-- What a storm tells is what its journals and notes come to.
use Rattle.std.proofs.Common.{◌≡◌, ℕ, List, length, Option}
use Rattle.hk_outside.specs.declared.status.Status.{Status}
use Rattle.hk_outside.specs.declared.status.Status.TheVariants as Status
use Rattle.hk_storm.specs.declared.opts.StormOpts.{StormOpts}
use Rattle.hk_storm.specs.declared.groups.StormGroup.{StormGroup}
use Rattle.hk_storm.specs.Storm.{AreGroups}
use Rattle.hk_storm.specs.Concluded.{IsConcluded}
use Rattle.hk_storm.specs.Stormed.{IsStormed}

pub concluded_is_stormed : (status : Status) (opts : StormOpts) (groups : List StormGroup) (held held' : Option (List ℕ)) → length groups ≡ 8 → AreGroups opts.nodes groups
    → IsConcluded status opts groups held held' → IsStormed status opts held held'
concluded_is_stormed Status.Memory opts groups held held' eight are told = told
concluded_is_stormed Status.Done opts groups held held' eight are told = record { groups = groups; eight = eight; are = are; told = told }
concluded_is_stormed Status.Gap opts groups held held' eight are told = record { groups = groups; eight = eight; are = are; told = told }
concluded_is_stormed Status.WriteFault opts groups held held' eight are told = record { groups = groups; eight = eight; are = are; told = told }
concluded_is_stormed Status.Usage opts groups held held' eight are told = absurd told
concluded_is_stormed Status.ReadFault opts groups held held' eight are told = absurd told
concluded_is_stormed Status.BadLine opts groups held held' eight are told = absurd told
concluded_is_stormed Status.TooLong opts groups held held' eight are told = absurd told
concluded_is_stormed Status.DoorFault opts groups held held' eight are told = absurd told
concluded_is_stormed Status.SpawnFault opts groups held held' eight are told = absurd told
