use Rattle.std.proofs.Common.{◌+◌, ◌<◌, List, length, sym, ap, ◌∙◌, subst, arith}
use Rattle.hk_manager.specs.Manager.{ManagerState}
use Rattle.hk_manager.specs.Steps.{manager_ticks}
use Rattle.hk_durable.proofs.Turning.{one_more}
use Rattle.hk_durable.proofs.managers.tick_all.Goals as goal

pub loop-manager-preserved : goal.loop-manager-preserved
loop-manager-preserved c =
    one_more (λ (m : ManagerState). (manager_ticks m c.args.now).manager) c.loop-manager.manager-index (c.loop-manager.manager-index + 1) c.args.managers.now.items c.loop-manager.manager-items c.manager-item.result c.tick.new.manager c.loop-manager.invariant
    (subst (λ (l : List ManagerState). c.loop-manager.manager-index < length l) c.deref_mut-manager-items.ensures.value c.loop-manager-test.true) (sym c.manager-item.is)
    (c.tick.ensures ∙ ap (λ (m : ManagerState). (manager_ticks m c.args.now).manager) (sym c.manager-item.is)) (omega arith)
