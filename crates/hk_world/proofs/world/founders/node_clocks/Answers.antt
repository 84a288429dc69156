use Rattle.hk_world.proofs.Founded.{node_clocks_next}
use Rattle.hk_world.proofs.world.founders.node_clocks.Goals as goal

pub loop-number-preserved : goal.loop-number-preserved
loop-number-preserved c = node_clocks_next c.args.header.skew c.loop-number.number c.from.result c.loop-number.clocks c.start_clock.new.clocks c.from.ensures c.loop-number.invariant c.in_ok-start_clock.ensures
