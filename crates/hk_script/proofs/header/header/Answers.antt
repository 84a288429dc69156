use Rattle.std.proofs.Common.{sym}
use Rattle.hk_script.proofs.Cuts.{too_many, behind}
use Rattle.hk_script.proofs.header.header.Goals as goal

pub returns-in-Some : goal.returns-in-Some
returns-in-Some c = sym (too_many c.args.line.now _ _ _ _ _ _ _ _ c.in-Some.field-0.1.now (behind _ (behind _ (behind _ (behind _ (behind _ (behind _ (behind _ c.in-Some.ensures c.in_ok-last.ensures) c.in_ok-lease.ensures) c.in_ok-other.ensures) c.in_ok-managers.ensures) c.in_ok-word.ensures) c.in_ok-nodes.ensures) c.in_ok-group.ensures))
