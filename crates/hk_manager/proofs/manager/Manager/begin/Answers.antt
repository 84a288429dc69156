use Rattle.std.proofs.Common.{◌∙◌, sym}
use Rattle.hk_manager.proofs.Made.{begins_late}
use Rattle.hk_manager.proofs.manager.Manager.begin.Goals as goal

pub returns-then-self-ge-MAX_EPOCH-clause-made : goal.returns-then-self-ge-MAX_EPOCH-clause-made
returns-then-self-ge-MAX_EPOCH-clause-made c = c.idle.ensures.made c.args.self.now ∙ begins_late c.args.self.now c.args.change (rw (sym c.self.view_is) c.if-self-ge-MAX_EPOCH.true)
