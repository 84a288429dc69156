use Rattle.hk_office.proofs.Bound.{answers_are_bound}
use Rattle.hk_office.proofs.laws.answers_are_bound.Goals as goal

pub returns : goal.returns
returns c = answers_are_bound c.numbers_are_bound_by_the_rule.ensures.answers
