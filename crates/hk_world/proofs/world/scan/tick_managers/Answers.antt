use Rattle.std.proofs.Common.{◌≡◌, ◌+◌, ◌<◌, List, length, sym, ap, ◌∙◌, subst, arith}
use Rattle.hk_world.specs.declared.process.ManagerProcess.{ManagerProcess}
use Rattle.hk_world.specs.Steps.{manager_ticked}
use Rattle.hk_world.proofs.Managing.{one_more}
use Rattle.hk_world.proofs.world.scan.tick_managers.Goals as goal

pub loop-process-preserved : goal.loop-process-preserved
loop-process-preserved c =
    one_more (manager_ticked c.args.to) c.loop-process.process-index (c.loop-process.process-index + 1) c.args.managers.now.items c.loop-process.process-items c.process-item.result c.tick.new.self c.loop-process.invariant
    (subst (λ (l : List ManagerProcess). c.loop-process.process-index < length l) c.deref_mut-process-items.ensures.value c.loop-process-test.true) (sym c.process-item.is) (c.tick.ensures ∙ ap (manager_ticked c.args.to) (sym c.process-item.is)) (omega arith)
