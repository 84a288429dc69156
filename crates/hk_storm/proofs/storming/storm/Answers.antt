use Rattle.std.proofs.Common.{rules, ◌≡◌, length}
use Rattle.hk_storm.specs.Storm.{AreGroups}
use Rattle.hk_storm.proofs.Endings.{concluded_is_stormed}
use Rattle.hk_storm.proofs.storming.storm.Goals as goal

pub returns-clause-exact : goal.returns-clause-exact
returns-clause-exact g c =
    let eight : length c.in-Ok.groups ≡ 8 = search rules in
    let are : AreGroups c.args.opts.now.nodes c.in-Ok.groups = search rules in
    concluded_is_stormed c.conclude.result c.args.opts.now c.in-Ok.groups (g.K.Sink.held c.args.sink.now) (g.K.Sink.held c.conclude.new.sink) eight are c.conclude.ensures.exact
