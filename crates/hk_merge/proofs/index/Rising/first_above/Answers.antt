use Rattle.std.proofs.Common.{sym, ap, ◌∙◌, nat_lt}
use Rattle.std.specs.List.{find}
use Rattle.hk_merge.proofs.Indexing.{first_above_is}
use Rattle.hk_merge.proofs.index.Rising.first_above.Goals as goal

pub returns-in-Some : goal.returns-in-Some
returns-in-Some c = first_above_is c.args.ticket c.self.inside.tickets.keys _ (sym (c.range.ensures.between tt) ∙ c.in-Some.ensures.steps) ∙ ap (find (nat_lt c.args.ticket)) c.self.view_is

pub returns-in-None : goal.returns-in-None
returns-in-None c = first_above_is c.args.ticket c.self.inside.tickets.keys _ (sym (c.range.ensures.between tt) ∙ c.in-None.ensures.steps.0) ∙ ap (find (nat_lt c.args.ticket)) c.self.view_is
