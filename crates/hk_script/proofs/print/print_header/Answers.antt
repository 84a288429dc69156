use Rattle.std.proofs.Common.{◌++◌, ◌∙◌, ap, codes, decimal}
use Rattle.hk_script.proofs.Printed.{after}
use Rattle.hk_script.proofs.print.print_header.Goals as goal

pub returns : goal.returns
returns c = after c.put_managers.result c.args.out.now.items c.put_named.new.out.items c.put_managers.new.out.items (codes "group " ++ decimal c.args.header.now.nodes) _ (c.in_ok-put_named.ensures ∙ ap (λ n. c.args.out.now.items ++ (codes "group " ++ decimal n)) c.from.ensures) c.put_managers.ensures
