-- The status of a transcript is none of a fault's.
use Rattle.hk_outside.specs.declared.status.Status.TheVariants.{ReadFault, WriteFault}
use Rattle.hk_drill.proofs.Jointly.{joined_exact, joined_told}
use Rattle.hk_drill.proofs.together.joint.Goals as goal

pub returns-in-Ok-clause-untouched : goal.returns-in-Ok-clause-untouched
returns-in-Ok-clause-untouched g c = λ e. absurd (joined_told c.in-Ok.status (g.S.Source.left c.args.source.now) (g.S.Source.left c.joint_to_end.new.source) (g.S.Source.given c.args.source.now) (g.S.Source.given c.joint_to_end.new.source)
    (g.K.Sink.held c.args.sink.now) (g.K.Sink.held c.joint_to_end.new.sink) c.in-Ok.ensures.joined ReadFault e)

pub returns-in-Ok-clause-read_fault : goal.returns-in-Ok-clause-read_fault
returns-in-Ok-clause-read_fault g c = λ e. absurd (joined_told c.in-Ok.status (g.S.Source.left c.args.source.now) (g.S.Source.left c.joint_to_end.new.source) (g.S.Source.given c.args.source.now) (g.S.Source.given c.joint_to_end.new.source)
    (g.K.Sink.held c.args.sink.now) (g.K.Sink.held c.joint_to_end.new.sink) c.in-Ok.ensures.joined ReadFault e)

pub returns-in-Ok-clause-write_fault : goal.returns-in-Ok-clause-write_fault
returns-in-Ok-clause-write_fault g c = λ e. absurd (joined_told c.in-Ok.status (g.S.Source.left c.args.source.now) (g.S.Source.left c.joint_to_end.new.source) (g.S.Source.given c.args.source.now) (g.S.Source.given c.joint_to_end.new.source)
    (g.K.Sink.held c.args.sink.now) (g.K.Sink.held c.joint_to_end.new.sink) c.in-Ok.ensures.joined WriteFault e)

pub returns-in-Ok-clause-exact : goal.returns-in-Ok-clause-exact
returns-in-Ok-clause-exact g c = λ reads writes. joined_exact c.in-Ok.status (g.S.Source.left c.args.source.now) (g.S.Source.left c.joint_to_end.new.source) (g.S.Source.given c.args.source.now) (g.S.Source.given c.joint_to_end.new.source)
    (g.K.Sink.held c.args.sink.now) (g.K.Sink.held c.joint_to_end.new.sink) c.in-Ok.ensures.joined
