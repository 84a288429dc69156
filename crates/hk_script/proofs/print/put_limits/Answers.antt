use Rattle.hk_script.proofs.Printed.{after}
use Rattle.hk_script.proofs.print.put_limits.Goals as goal

pub returns : goal.returns
returns c = after c.put_named-2.result c.args.out.now.items c.put_named.new.out.items c.put_named-2.new.out.items _ _ c.in_ok-put_named.ensures c.put_named-2.ensures
