use Rattle.hk_office.proofs.Ranging.{stays_in_range}
use Rattle.hk_office.proofs.laws.answers_stay_in_range.Goals as goal

pub returns : goal.returns
returns c = stays_in_range c.numbers_are_bound_by_the_rule.ensures.rule c.foundings_are_logged.ensures.reserved
