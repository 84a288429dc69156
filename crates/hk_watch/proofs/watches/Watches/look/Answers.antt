use Rattle.hk_watch.proofs.Risen.{looks_on}
use Rattle.hk_watch.proofs.watches.Watches.look.Goals as goal

pub returns-clause-looks : goal.returns-clause-looks
returns-clause-looks g c = looks_on c.args.watch _ _ _ _ g.F.Watcher.told c.look_once.result c.look_once.ensures.exact c.look_once.ensures.told
