use Rattle.std.proofs.Common.{◌≡◌, ◌+◌, ◌<◌, List, length, sym, ap, ◌∙◌, subst, arith}
use Rattle.hk_manager.specs.Manager.{ManagerState}
use Rattle.hk_durable.specs.Replays.{noted}
use Rattle.hk_durable.proofs.Turning.{one_more}
use Rattle.hk_durable.proofs.Sound.{with_one, all_index}
use Rattle.hk_durable.proofs.replay.note_all.Goals as goal

pub loop-manager-preserved : goal.loop-manager-preserved
loop-manager-preserved c =
    let i = c.loop-manager.manager-index in
    let items = c.loop-manager.manager-items in
    let low : i < length c.args.managers.now.items = subst (λ (l : List ManagerState). i < length l) c.deref_mut-manager-items.ensures.value c.loop-manager-test.true in
    let within : i < length items = omega (arith, low, c.requires.eight, c.loop-manager.invariant.1.eight) in (
      one_more noted i (i + 1) c.args.managers.now.items items c.manager-item.result c.note_members.new.manager c.loop-manager.invariant.0
          low (sym c.manager-item.is)
          (c.in_ok-note_members.ensures.noted ∙ ap noted (sym c.manager-item.is)) (omega arith),
      with_one c.args.id c.args.lease items i c.note_members.new.manager c.loop-manager.invariant.1 c.note_members.ensures.sound c.note_members.ensures.number
          (c.note_members.ensures.leases ∙ all_index (λ m. m.lease ≡ c.args.lease) items i c.manager-item.result c.loop-manager.invariant.1.leases within),
    )
