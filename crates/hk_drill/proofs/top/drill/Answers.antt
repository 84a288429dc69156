-- The status of a transcript is none of a fault's.
use Rattle.hk_outside.specs.declared.status.Status.TheVariants.{ReadFault, WriteFault}
use Rattle.hk_drill.proofs.Answering.{drilled_told}
use Rattle.hk_drill.proofs.top.drill.Goals as goal

pub returns-in-Ok-clause-cut_off : goal.returns-in-Ok-clause-cut_off
returns-in-Ok-clause-cut_off g c = λ e. absurd (drilled_told c.in-Ok.status ReadFault (g.S.Source.left c.args.source.now) (g.S.Source.left c.drill_to_end.new.source) (g.S.Source.given c.args.source.now) (g.S.Source.given c.drill_to_end.new.source)
    (g.K.Sink.held c.args.sink.now) (g.K.Sink.held c.drill_to_end.new.sink) c.in-Ok.ensures.drilled e)

pub returns-in-Ok-clause-read_fault : goal.returns-in-Ok-clause-read_fault
returns-in-Ok-clause-read_fault g c = λ e. absurd (drilled_told c.in-Ok.status ReadFault (g.S.Source.left c.args.source.now) (g.S.Source.left c.drill_to_end.new.source) (g.S.Source.given c.args.source.now) (g.S.Source.given c.drill_to_end.new.source)
    (g.K.Sink.held c.args.sink.now) (g.K.Sink.held c.drill_to_end.new.sink) c.in-Ok.ensures.drilled e)

pub returns-in-Ok-clause-write_fault : goal.returns-in-Ok-clause-write_fault
returns-in-Ok-clause-write_fault g c = λ e. absurd (drilled_told c.in-Ok.status WriteFault (g.S.Source.left c.args.source.now) (g.S.Source.left c.drill_to_end.new.source) (g.S.Source.given c.args.source.now) (g.S.Source.given c.drill_to_end.new.source)
    (g.K.Sink.held c.args.sink.now) (g.K.Sink.held c.drill_to_end.new.sink) c.in-Ok.ensures.drilled e)
