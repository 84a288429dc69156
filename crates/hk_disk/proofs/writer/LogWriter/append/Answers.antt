use Rattle.hk_disk.proofs.Appended.{sure_more}
use Rattle.hk_disk.proofs.writer.LogWriter.append.Goals as goal

pub returns-in-Ok-clause-sure : goal.returns-in-Ok-clause-sure
returns-in-Ok-clause-sure g c = sure_more g.F.LogFile.holds g.F.LogFile.is_sure c.args.self.now.file c.write.new.self.file c.args.self.now.check c.write.new.self.check c.in-Ok.printed.check c.in-Ok.printed.bytes.items c.args.entries.now c.write.result c.in-Ok.ensures c.write.ensures.sure
