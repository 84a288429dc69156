use Rattle.std.proofs.Common.{refl, rules}
use Rattle.hk_request.proofs.PlainSets.{plain_set}
use Rattle.hk_request.proofs.line.read_plain_set.Goals as goal

pub returns-in-Ok-clause-exact : goal.returns-in-Ok-clause-exact
returns-in-Ok-clause-exact c = plain_set c.args.line.now _ c.in_ok-key.key.now c.in_ok-flags.flags.now c.in_ok-key.words.now c.in_ok-expiry.expiry.now c.in_ok-flags.words.now c.in_ok-expiry.bytes.now c.in-Ok.head
    (search rules) (search rules) (search rules) (search rules) (search rules) refl c.in_ok-key.ensures c.in_ok-flags.ensures c.in_ok-expiry.ensures c.in-Ok.ensures.exact
