use Rattle.std.proofs.Common.{Ok, subst}
use Rattle.hk_event.specs.declared.event.Event.{Event}
use Rattle.hk_safety.specs.Push.{IsPushed}
use Rattle.hk_drill.proofs.DrillStates.{made_taken}
use Rattle.hk_drill.proofs.drill_state.DrillState.make.Goals as goal

pub returns-in-Ok : goal.returns-in-Ok
returns-in-Ok c =
    let was = c.self.inside in
    let pushed : IsPushed (Ok c.in-Ok.shown) was.run c.push.new.self c.args.event =
    subst (λ (e : Event). IsPushed (Ok c.in-Ok.shown) was.run c.push.new.self e) c.in_ok-event.ensures c.in-Ok.ensures in
    made_taken c.show.result c.args.self.now _ _ _ c.args.event was.run c.push.new.self was.count c.in-Ok.shown c.self.view_is
    pushed c.show.ensures
