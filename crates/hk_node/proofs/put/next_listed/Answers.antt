use Rattle.std.proofs.Common.{Some, sym, ap, ◌∙◌}
use Rattle.std.specs.Option.{option_copied}
use Rattle.hk_node.specs.Open.{next_open}
use Rattle.hk_node.proofs.Walk.{next_is, first_is}
use Rattle.hk_node.proofs.put.next_listed.Goals as goal

pub returns-in-Some : goal.returns-in-Some
returns-in-Some c = c.open_behind.ensures.first ∙ next_is (Some c.in-Some.after.now) c.args.keys.now.keys c.args.rows.now.entries c.open_behind.ensures.ordered c.requires.ordered c.requires.whole
    ∙ ap (λ o. next_open (option_copied o) c.args.rows.now.entries) (sym c.in-Some.is)

pub returns-in-None : goal.returns-in-None
returns-in-None c = c.first_open.ensures.first ∙ first_is c.args.keys.now.keys c.args.rows.now.entries c.first_open.ensures.ordered c.requires.ordered c.requires.whole
    ∙ ap (λ o. next_open (option_copied o) c.args.rows.now.entries) (sym c.in-None.is)
