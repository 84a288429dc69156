use Rattle.std.proofs.Common.{refl, rules}
use Rattle.hk_request.proofs.LoneGets.{lone_get}
use Rattle.hk_request.proofs.line.read_lone_get.Goals as goal

pub returns-clause-exact : goal.returns-clause-exact
returns-clause-exact c = lone_get c.args.line.now _ c.in-Ok.key c.one.result (search rules) (search rules) (search rules) (search rules) (search rules) refl c.in-Ok.ensures.exact.0 c.in-Ok.ensures.exact.1 c.one.ensures
