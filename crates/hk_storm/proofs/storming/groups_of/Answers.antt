use Rattle.hk_storm.proofs.Founders.{names_are_named}
use Rattle.hk_storm.proofs.storming.groups_of.Goals as goal

pub storm_at-requires-clause-named : goal.storm_at-requires-clause-named
storm_at-requires-clause-named g c κs within = names_are_named c.in_ok-founded.founded.items c.in_ok-founded.ensures
