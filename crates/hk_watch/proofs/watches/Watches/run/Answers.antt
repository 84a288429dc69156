use Rattle.std.proofs.Common.{rules}
use Rattle.hk_watch.specs.Rising.{Runs}
use Rattle.hk_watch.proofs.Rises.{are_rising}
use Rattle.hk_watch.proofs.watches.Watches.run.Goals as goal

pub returns-clause-rising : goal.returns-clause-rising
returns-clause-rising g c =
    let runs : Runs g.F.Watcher.told c.args.calls c.args.self.now c.args.reader.now c.from_vec.result c.make_all.new.watches c.make_all.new.reader = search rules in
    are_rising g.F.Watcher.told c.args.calls _ _ _ _ _ runs
