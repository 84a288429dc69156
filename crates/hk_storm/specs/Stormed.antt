-- What a storm tells.
use Rattle.std.specs.Prelude.{◌≡◌, ℕ, List, [], length, Option}
use Rattle.std.specs.Io.KnownBytes.{Appends}
use Rattle.hk_outside.specs.declared.status.Status.{Status}
use Rattle.hk_outside.specs.declared.status.Status.TheVariants as Status
use Rattle.hk_storm.specs.declared.opts.StormOpts.{StormOpts}
use Rattle.hk_storm.specs.declared.groups.StormGroup.{StormGroup}
use Rattle.hk_storm.specs.Storm.{AreGroups}
use Rattle.hk_storm.specs.Concluded.{IsConcluded}

-- what the journals and notes of some eight groups come to, one for each number of a shard
pub record HasStormed (status : Status) (opts : StormOpts) (held held' : Option (List ℕ)) : Type 0 where
  pub groups : List StormGroup
  pub eight : length groups ≡ 8
  pub are : AreGroups opts.nodes groups
  pub told : IsConcluded status opts groups held held'

-- or memory was wanting, and nothing was written
abbrev pub IsStormed : Status → StormOpts → Option (List ℕ) → Option (List ℕ) → Type 0
IsStormed Status.Memory opts held held' = Appends held held' []
IsStormed status opts held held' = HasStormed status opts held held'
