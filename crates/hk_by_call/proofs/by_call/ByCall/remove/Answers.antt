use Rattle.std.proofs.Common.{sym, ◌∙◌}
use Rattle.hk_by_call.proofs.Beside.{find_newest, find_kept, without_newest, newest_gone, without_kept, others_left, with_none, with_fewer}
use Rattle.hk_by_call.specs.Kept.{all_kept}
use Rattle.hk_by_call.proofs.by_call.ByCall.remove.Goals as goal

pub returns-then-is_newest-clause-value : goal.returns-then-is_newest-clause-value
returns-then-is_newest-clause-value g c =
    c.take_newest.ensures.value ∙ rw (sym c.self.view_is) (find_newest c.args.call c.self.inside.newest c.self.inside.kept.entries (sym c.is_newest.ensures ∙ c.if-is_newest.true))

pub returns-then-is_newest-clause-exact : goal.returns-then-is_newest-clause-exact
returns-then-is_newest-clause-exact g c =
    rw (c.take_newest.ensures.gone, sym c.self.view_is) (without_newest c.args.call c.self.inside.newest c.self.inside.kept.entries (sym c.is_newest.ensures ∙ c.if-is_newest.true) c.self.invariant)

pub returns-then-is_newest-clause-gone : goal.returns-then-is_newest-clause-gone
returns-then-is_newest-clause-gone g c =
    rw c.take_newest.ensures.gone (newest_gone c.args.call c.self.inside.newest c.self.inside.kept.entries (sym c.is_newest.ensures ∙ c.if-is_newest.true) c.self.invariant)

pub returns-then-is_newest-clause-others : goal.returns-then-is_newest-clause-others
returns-then-is_newest-clause-others g c = λ other apart. rw (c.take_newest.ensures.gone, sym c.self.view_is)
    (others_left c.args.call (all_kept c.self.inside.newest c.self.inside.kept.entries) c.self.inside.kept.entries
    (without_newest c.args.call c.self.inside.newest c.self.inside.kept.entries (sym c.is_newest.ensures ∙ c.if-is_newest.true) c.self.invariant) other apart)

pub returns-clause-value : goal.returns-clause-value
returns-clause-value g c = c.remove.ensures.value ∙ rw (sym c.self.view_is) (find_kept c.args.call c.self.inside.newest c.self.inside.kept.entries (sym c.is_newest.ensures ∙ c.if-is_newest.false))

pub returns-clause-exact : goal.returns-clause-exact
returns-clause-exact g c =
    rw (c.remove.ensures.entries, sym c.self.view_is) (without_kept c.args.call c.self.inside.newest c.self.inside.kept.entries (sym c.is_newest.ensures ∙ c.if-is_newest.false) c.self.invariant)

pub returns-clause-gone : goal.returns-clause-gone
returns-clause-gone g c =
    sym (find_kept c.args.call c.self.inside.newest c.remove.new.self.entries (sym c.is_newest.ensures ∙ c.if-is_newest.false)) ∙ c.remove.ensures.updates.1

pub returns-clause-others : goal.returns-clause-others
returns-clause-others g c = λ other apart. rw (c.remove.ensures.entries, sym c.self.view_is)
    (others_left c.args.call (all_kept c.self.inside.newest c.self.inside.kept.entries) _
    (without_kept c.args.call c.self.inside.newest c.self.inside.kept.entries (sym c.is_newest.ensures ∙ c.if-is_newest.false) c.self.invariant) other apart)

pub invariant_of-self : goal.invariant_of-self
invariant_of-self g c = with_none c.take_newest.new.newest c.self.inside.kept.entries c.take_newest.ensures.gone c.self.invariant.rises

pub invariant_of-self-2 : goal.invariant_of-self-2
invariant_of-self-2 g c = rw c.remove.ensures.entries
    (with_fewer c.args.call c.self.inside.newest c.self.inside.kept.entries (sym c.is_newest.ensures ∙ c.if-is_newest.false) c.self.invariant (rw (sym c.remove.ensures.entries) c.remove.ensures.ordered))
