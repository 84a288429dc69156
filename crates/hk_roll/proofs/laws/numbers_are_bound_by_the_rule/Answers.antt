use Rattle.hk_roll.proofs.Rule.{by_the_rule, answers_tell}
use Rattle.hk_roll.proofs.laws.numbers_are_bound_by_the_rule.Goals as goal

pub returns-clause-rule : goal.returns-clause-rule
returns-clause-rule c = by_the_rule

pub returns-clause-answers : goal.returns-clause-answers
returns-clause-answers c = answers_tell
