use Rattle.hk_conn.proofs.Sayings.{block_finished, block_refused}
use Rattle.hk_conn.proofs.reader.Reader.block.Goals as goal

pub returns-in-Ok : goal.returns-in-Ok
returns-in-Ok c = block_finished c.in-Ok.request c.args.head c.args.self.now.cutter.given (rw c.given.ensures at c.in-Ok.ensures)

pub returns-in-Err-BadEnd : goal.returns-in-Err-BadEnd
returns-in-Err-BadEnd c = block_refused c.in-Err-BadEnd.field-0 c.args.head c.args.self.now.cutter.given c.in-Err-BadEnd.field-0-is (rw c.given.ensures at c.in-Err-BadEnd.ensures)
