use Rattle.hk_clocks.proofs.Kept.{with_paces}
use Rattle.hk_clocks.proofs.Joins.{start_kept}
use Rattle.hk_clocks.proofs.clocks.Clocks.start.Goals as goal

pub invariant_of-self-2 : goal.invariant_of-self-2
invariant_of-self-2 c = with_paces c.self.inside.skew _ _ c.in_ok-put_pace.ensures.ok (rw c.new-leads.ensures (start_kept (record { skew = c.self.inside.skew; paces = c.self.inside.paces.entries }) c.args.actor c.args.clock c.self.invariant c.requires))
