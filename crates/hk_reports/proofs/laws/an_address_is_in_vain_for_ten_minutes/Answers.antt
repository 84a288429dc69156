use Rattle.hk_reports.proofs.Lists.{vain_for_ten_minutes, ready_is_not_in_vain, lost_is_not_in_vain, own_is_not_in_vain}
use Rattle.hk_reports.proofs.laws.an_address_is_in_vain_for_ten_minutes.Goals as goal

pub returns-clause-until : goal.returns-clause-until
returns-clause-until c = vain_for_ten_minutes

pub returns-clause-ready : goal.returns-clause-ready
returns-clause-ready c = ready_is_not_in_vain

pub returns-clause-lost : goal.returns-clause-lost
returns-clause-lost c = lost_is_not_in_vain

pub returns-clause-own : goal.returns-clause-own
returns-clause-own c = own_is_not_in_vain
