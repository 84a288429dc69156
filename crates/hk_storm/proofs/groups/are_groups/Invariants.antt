-- What the groups that are left have, all have.
use Rattle.std.proofs.Common.{drop}
use Rattle.hk_storm.specs.Storm.{AreGroups}
use Rattle.hk_storm.proofs.groups.are_groups.Given as goal

abbrev pub invariant-loop-group : goal.invariant-loop-group
invariant-loop-group l = AreGroups l.nodes (drop l.group-index l.groups) → AreGroups l.nodes l.groups
