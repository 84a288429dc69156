use Rattle.std.proofs.Common.{sym, ◌∙◌}
use Rattle.hk_by_call.proofs.Beside.{find_newest, find_kept}
use Rattle.hk_by_call.proofs.by_call.ByCall.get.Goals as goal

pub returns-then-is_newest : goal.returns-then-is_newest
returns-then-is_newest g c =
    c.newest_value.ensures ∙ rw (sym c.self.view_is) (find_newest c.args.call c.self.inside.newest c.self.inside.kept.entries (sym c.is_newest.ensures ∙ c.if-is_newest.true))

pub returns : goal.returns
returns g c = c.get.ensures.value ∙ rw (sym c.self.view_is) (find_kept c.args.call c.self.inside.newest c.self.inside.kept.entries (sym c.is_newest.ensures ∙ c.if-is_newest.false))
