use Rattle.hk_roll.proofs.Holder.{one_holder, holders_stay, one_is_told}
use Rattle.hk_roll.proofs.laws.a_number_has_one_holder.Goals as goal

pub returns-clause-one : goal.returns-clause-one
returns-clause-one c = one_holder

pub returns-clause-stays : goal.returns-clause-stays
returns-clause-stays c = holders_stay

pub returns-clause-told : goal.returns-clause-told
returns-clause-told c = one_is_told
