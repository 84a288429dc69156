use Rattle.hk_reply.specs.declared.scan.Stop.TheVariants.{Need, Bad}
use Rattle.hk_reply.proofs.Told.{ok_within, bad_within, read_ok, read_need, read_bad, told_length, not_stopped}
use Rattle.hk_reply.proofs.read.read_reply.Goals as goal

pub overflow_sub-result : goal.overflow_sub-result
overflow_sub-result c = ok_within c.args.bytes.now c.in-Ok.rest.now c.in-Ok.reply c.in-Ok.ensures

pub overflow_sub-result-in-Err-Bad : goal.overflow_sub-result-in-Err-Bad
overflow_sub-result-in-Err-Bad c = bad_within c.args.bytes.now c.in-Err-Bad.left (rw c.in-Err-Bad.field-0-is at c.in-Err-Bad.ensures)

pub returns-in-Ok-clause-exact : goal.returns-in-Ok-clause-exact
returns-in-Ok-clause-exact c = read_ok c.args.bytes.now c.in-Ok.rest.now c.in-Ok.reply c.in-Ok.ensures

pub returns-in-Ok-clause-only : goal.returns-in-Ok-clause-only
returns-in-Ok-clause-only c = λ reply rest p e. told_length c.args.bytes.now c.in-Ok.rest.now rest c.in-Ok.reply reply c.in-Ok.ensures p e

pub returns-in-Err-Need-clause-exact : goal.returns-in-Err-Need-clause-exact
returns-in-Err-Need-clause-exact c = read_need c.args.bytes.now (rw c.in-Err-Need.field-0-is at c.in-Err-Need.ensures)

pub returns-in-Err-Need-clause-only : goal.returns-in-Err-Need-clause-only
returns-in-Err-Need-clause-only c = λ reply rest p e. absurd (not_stopped c.args.bytes.now rest reply Need (rw c.in-Err-Need.field-0-is at c.in-Err-Need.ensures) p e)

pub returns-in-Err-Bad-clause-exact : goal.returns-in-Err-Bad-clause-exact
returns-in-Err-Bad-clause-exact c = read_bad c.args.bytes.now c.in-Err-Bad.left (rw c.in-Err-Bad.field-0-is at c.in-Err-Bad.ensures)

pub returns-in-Err-Bad-clause-only : goal.returns-in-Err-Bad-clause-only
returns-in-Err-Bad-clause-only c = λ reply rest p e. absurd (not_stopped c.args.bytes.now rest reply (Bad c.in-Err-Bad.left) (rw c.in-Err-Bad.field-0-is at c.in-Err-Bad.ensures) p e)
