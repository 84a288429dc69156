use Rattle.hk_process.proofs.Sent.{all_sent, none_sent, cut}
use Rattle.hk_process.proofs.route.send_on.Goals as goal

pub returns-in-Ok : goal.returns-in-Ok
returns-in-Ok g c = all_sent g.C.Sink.held g.C.Sink.faults _ c.args.conn c.send_parcels.new.sink c.in-Ok.ensures.sent

pub returns-in-Err-Memory : goal.returns-in-Err-Memory
returns-in-Err-Memory g c = none_sent g.C.Sink.held g.C.Sink.faults _ c.args.conn c.send_parcels.new.sink c.in-Err-Memory.field-0 c.in-Err-Memory.field-0-is c.in-Err-Memory.ensures.sent

pub returns-in-Err-WriteFault : goal.returns-in-Err-WriteFault
returns-in-Err-WriteFault g c = cut g.C.Sink.held g.C.Sink.faults _ c.args.conn c.send_parcels.new.sink c.in-Err-WriteFault.field-0 c.in-Err-WriteFault.field-0-is c.in-Err-WriteFault.ensures.sent
    c.in-Err-WriteFault.ensures.write_fault
