use Rattle.std.proofs.Common.{◌≡◌, rules}
use Rattle.hk_base.specs.declared.time.TheConstants.{MAX_TIME}
use Rattle.hk_place.specs.Past.{Past}
use Rattle.hk_lone.specs.Lone.{lone_node}
use Rattle.hk_joint_storm.specs.Concluded.{IsPast}
use Rattle.hk_joint_storm.proofs.Concluding.{ends_of, storm_of}
use Rattle.hk_joint_storm.proofs.command.conclude.Goals as goal

pub returns-clause-ends : goal.returns-clause-ends
returns-clause-ends g c =
    let past : Past = record { base = c.in-Ok.base; journal = c.journal.result.now } in
    ends_of c.args.workers c.args.reads past c.args.founds.now (g.K.Sink.held c.args.sink.now) (g.K.Sink.held c.conclude_joint.new.sink) c.conclude_joint.result c.conclude_joint.ensures.exact

pub returns-clause-exact : goal.returns-clause-exact
returns-clause-exact g c =
    let past : Past = record { base = c.in-Ok.base; journal = c.journal.result.now } in
    let is : IsPast (record { base = c.in-Ok.base; journal = c.journal.result.now }) = search rules in
    let lone : past.base ≡ lone_node MAX_TIME 0 = search rules in
    storm_of c.args.workers c.args.reads past c.args.founds.now (g.K.Sink.held c.args.sink.now) (g.K.Sink.held c.conclude_joint.new.sink) c.conclude_joint.result (record { is = is; lone = lone; are = c.requires }) c.conclude_joint.ensures.exact
