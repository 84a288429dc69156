use Rattle.hk_safety.specs.Grown.{changed_touches}
use Rattle.hk_safety.proofs.Covering.{covers_turn}
use Rattle.hk_safety.proofs.cover.cover_changed.Goals as goal

pub loop-prior-preserved : goal.loop-prior-preserved
loop-prior-preserved c =
    covers_turn c.args.view.now c.args.cover (changed_touches c.args.node.now c.args.rose) c.args.rows.now c.loop-prior.prior-index c.prior-item.result
    c.args.keys.now.entries c.loop-prior.keys.entries c.cover_prior.new.keys.entries
    c.loop-prior-test.true c.prior-item.is c.loop-prior.invariant c.in_ok-cover_prior.ensures
