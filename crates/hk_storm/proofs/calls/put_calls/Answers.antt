use Rattle.std.proofs.Common.{◌++◌}
use Rattle.hk_storm.specs.Calls.{calls_in}
use Rattle.hk_storm.proofs.Calling.{calls_more}
use Rattle.hk_storm.proofs.calls.put_calls.Goals as goal

pub loop-before-preserved : goal.loop-before-preserved
loop-before-preserved c =
    calls_more c.loop-before.calls.items c.put_called_at.new.calls.items (c.args.calls.now.items ++ calls_in c.args.run.now.events) c.args.run.now.events c.loop-before.before _ c.event.ensures c.loop-before.invariant c.in_ok-put_called_at.ensures
