use Rattle.std.proofs.Common.{◌++◌, ◌∙◌, ap, codes, decimal}
use Rattle.hk_script.proofs.Printed.{after}
use Rattle.hk_script.proofs.print.put_managers.Goals as goal

pub returns : goal.returns
returns c = after c.put_limits.result c.args.out.now.items c.put_named.new.out.items c.put_limits.new.out.items (codes " managers " ++ decimal c.args.managers) _ (c.in_ok-put_named.ensures ∙ ap (λ n. c.args.out.now.items ++ (codes " managers " ++ decimal n)) c.from.ensures) c.put_limits.ensures
