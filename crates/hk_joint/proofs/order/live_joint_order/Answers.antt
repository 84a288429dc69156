use Rattle.std.proofs.Common.{map, subst, ◌∙◌, ap, List}
use Rattle.hk_safety.specs.declared.placed.Placed.{Placed}
use Rattle.hk_safety.proofs.Asked.{answer_is}
use Rattle.hk_joint.specs.Joint.{joint_order, entries_of}
use Rattle.hk_joint.specs.Placing.{IsByEvent, placed_in}
use Rattle.hk_joint.proofs.Standings.{keys_placed}
use Rattle.hk_joint.proofs.order.live_joint_order.Goals as goal

pub returns-clause-exact : goal.returns-clause-exact
returns-clause-exact c =
    let sorted : IsByEvent (placed_in c.args.run.now) c.sort_by_event.new.placed.items = subst (λ (ps : List Placed). IsByEvent ps c.sort_by_event.new.placed.items)
    (c.in_ok-placed.ensures ∙ keys_placed c.args.run.now) c.in_ok-sort_by_event.ensures in
    answer_is c.entries_in.result (map (λ p. p.entry) c.as_slice.result.now) (entries_of (joint_order c.args.run.now)) c.entries_in.ensures
    (ap (map (λ p. p.entry)) c.as_slice.ensures.value ∙ c.placed_are_joint.ensures c.args.run.now c.sound.ensures c.sort_by_event.new.placed.items sorted)
