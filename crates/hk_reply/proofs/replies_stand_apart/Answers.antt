use Rattle.hk_reply.proofs.Apart.{none_begins, texts_tell}
use Rattle.hk_reply.proofs.replies_stand_apart.Goals as goal

pub returns-clause-apart : goal.returns-clause-apart
returns-clause-apart c = none_begins

pub returns-clause-tell : goal.returns-clause-tell
returns-clause-tell c = texts_tell
