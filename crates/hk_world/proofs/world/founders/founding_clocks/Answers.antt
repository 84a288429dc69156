use Rattle.std.proofs.Common.{map}
use Rattle.hk_base.specs.declared.letter.Actor.TheVariants.{Node}
use Rattle.hk_base.specs.View.{counted}
use Rattle.hk_world.proofs.Founded.{manager_clocks_begin, manager_clocks_next}
use Rattle.hk_world.proofs.world.founders.founding_clocks.Goals as goal

pub loop-number-preserved : goal.loop-number-preserved
loop-number-preserved c = manager_clocks_next c.args.header.skew c.args.header.nodes c.loop-number.number c.loop-number.clocks c.start_clock.new.clocks c.loop-number.invariant c.in_ok-start_clock.ensures
