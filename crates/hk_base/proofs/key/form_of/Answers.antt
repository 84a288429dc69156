use Rattle.std.proofs.Common.{rules}
use Rattle.hk_base.proofs.Words.{front_taken}
use Rattle.hk_base.proofs.key.form_of.Goals as goal

pub returns-clause-front : goal.returns-clause-front
returns-clause-front c = front_taken c.args.bytes.now _ _ (search rules) (search rules) (search rules)
