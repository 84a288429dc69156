use Rattle.std.proofs.Common.{arith}
use Rattle.hk_frame.proofs.Whole.{frame_take, read_as, only_memory}
use Rattle.hk_frame.proofs.read.read_letter.Goals as goal

pub returns-in-Ok-clause-exact : goal.returns-in-Ok-clause-exact
returns-in-Ok-clause-exact c = frame_take c.args.bytes.now ((c.in-Ok.found.0, c.in-Ok.found.1), c.in-Ok.len) (λ i. omega (arith, c.type_inv.bytes i)) c.in-Ok.ensures

pub returns-in-Ok-clause-only : goal.returns-in-Ok-clause-only
returns-in-Ok-clause-only c = λ shard letter rest s e. read_as c.args.bytes.now ((c.in-Ok.found.0, c.in-Ok.found.1), c.in-Ok.len) shard letter rest c.in-Ok.ensures s e

pub returns-in-Err-clause-only : goal.returns-in-Err-clause-only
returns-in-Err-clause-only c = λ shard letter rest s e. only_memory c.in-Err.fault c.args.bytes.now shard letter rest c.in-Err.ensures s e
