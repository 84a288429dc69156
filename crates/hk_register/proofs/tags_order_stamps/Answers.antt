use Rattle.hk_register.proofs.Tags.{tags_order, tags_tell, next_is}
use Rattle.hk_register.proofs.tags_order_stamps.Goals as goal

pub returns-clause-order : goal.returns-clause-order
returns-clause-order c = tags_order

pub returns-clause-apart : goal.returns-clause-apart
returns-clause-apart c = tags_tell

pub returns-clause-next : goal.returns-clause-next
returns-clause-next c = next_is
