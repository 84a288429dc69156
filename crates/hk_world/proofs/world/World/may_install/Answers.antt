use Rattle.std.proofs.Common.{◌≡◌, ◌<◌, ℕ, List, [], true, Ok, Err, Option, Some, None, sym, ap, subst, ◌∙◌}
use Rattle.std.specs.Option.{option_map}
use Rattle.std.specs.List.{find}
use Rattle.hk_base.specs.declared.stamp.NodeId.{NodeId}
use Rattle.hk_base.specs.declared.view.View.{View}
use Rattle.hk_node.specs.Node.{epoch_of}
use Rattle.hk_base.specs.View.{is_member}
use Rattle.hk_world.specs.declared.process.Process.{Process}
use Rattle.hk_event.specs.declared.refused.Refused.{Refused}
use Rattle.hk_event.specs.declared.refused.Refused.TheVariants.{LeaseRuns}
use Rattle.hk_event.specs.declared.event.Event.TheVariants.{Install}
use Rattle.hk_world.specs.World.{WorldState, numbered, process_at}
use Rattle.hk_world.specs.Steps.{world_step}
use Rattle.hk_node.specs.declared.event.NodeEvent.TheVariants as NodeEvent
use Rattle.hk_world.specs.Acting.{made_by, running}
use Rattle.hk_world.specs.Views.{given_before}
use Rattle.hk_world.specs.Allowed.{may_run_by, is_managed}
use Rattle.hk_world.proofs.Inside.{seen}
use Rattle.hk_world.proofs.Allowed.{no_managers, install_checked, guard_refuses, guard_lets}
use Rattle.hk_world.proofs.world.World.may_install.Goals as goal

abbrev told_of : Option (NodeId × Process) → Option Refused
told_of o = option_map (λ (p : NodeId × Process). LeaseRuns p.0 p.1.node.granted) o

pub returns-in-Some-first_running-clause-err : goal.returns-in-Some-first_running-clause-err
returns-in-Some-first_running-clause-err c =
    let w : WorldState = seen c.self.inside in
    let view = c.in-Some.view.now in
    let node = c.in-Ok.node.now in
    let none : w.managers ≡ [] = no_managers w.managers (ap (λ (o : WorldState). is_managed o.managers) c.self.view_is ∙ sym c.is_managed.ensures ∙ c.if-is_managed.false) in
    let runs : running (process_at c.args.id w.processes) ≡ Ok node = subst (λ (o : WorldState). running (process_at c.args.id o.processes) ≡ Ok node) (sym c.self.view_is) c.in-Ok.ensures.ok in
    let at : numbered c.args.epoch w.views ≡ Some view = ap (λ (vs : List View). numbered c.args.epoch vs) (sym c.deref.ensures.value) ∙ sym c.in-Some.ensures in
    let low : epoch_of node < view.epoch = subst (λ (n : ℕ). n < view.epoch) c.epoch-held.ensures c.if-view-held.false in
    let member : is_member c.args.id view.members ≡ true = sym c.has_member.ensures ∙ c.if-not-has_member.false in
    let given : c.given_before-given.result ≡ given_before w.views c.args.epoch = c.given_before-given.ensures ∙ ap (λ (vs : List View). given_before vs c.args.epoch) c.deref-2.ensures.value in
    let first : told_of (find (may_run_by w.skew (given_before w.views c.args.epoch) view) w.processes) ≡ Some c.in-Some-first_running.refused =
    ap (λ (g : ℕ). told_of (find (may_run_by w.skew g view) w.processes)) (sym given) ∙ sym c.in-Some-first_running.ensures in
    subst (λ (o : WorldState). world_step o (Install c.args.id c.args.epoch) ≡ Err c.in-Some-first_running.refused) c.self.view_is
    (install_checked w c.args.id c.args.epoch node view c.self.invariant.1 none runs at member low ∙ guard_refuses _ w c.args.id node view c.in-Some-first_running.refused first)

pub returns-in-None-clause-ok : goal.returns-in-None-clause-ok
returns-in-None-clause-ok c =
    let w : WorldState = seen c.self.inside in
    let view = c.in-Some.view.now in
    let node = c.in-Ok.node.now in
    let none : w.managers ≡ [] = no_managers w.managers (ap (λ (o : WorldState). is_managed o.managers) c.self.view_is ∙ sym c.is_managed.ensures ∙ c.if-is_managed.false) in
    let runs : running (process_at c.args.id w.processes) ≡ Ok node = subst (λ (o : WorldState). running (process_at c.args.id o.processes) ≡ Ok node) (sym c.self.view_is) c.in-Ok.ensures.ok in
    let at : numbered c.args.epoch w.views ≡ Some view = ap (λ (vs : List View). numbered c.args.epoch vs) (sym c.deref.ensures.value) ∙ sym c.in-Some.ensures in
    let low : epoch_of node < view.epoch = subst (λ (n : ℕ). n < view.epoch) c.epoch-held.ensures c.if-view-held.false in
    let member : is_member c.args.id view.members ≡ true = sym c.has_member.ensures ∙ c.if-not-has_member.false in
    let given : c.given_before-given.result ≡ given_before w.views c.args.epoch = c.given_before-given.ensures ∙ ap (λ (vs : List View). given_before vs c.args.epoch) c.deref-2.ensures.value in
    let first : told_of (find (may_run_by w.skew (given_before w.views c.args.epoch) view) w.processes) ≡ None =
    ap (λ (g : ℕ). told_of (find (may_run_by w.skew g view) w.processes)) (sym given) ∙ sym c.in-None.ensures in
    subst (λ (o : WorldState). world_step o (Install c.args.id c.args.epoch) ≡ made_by o c.args.id None (NodeEvent.Install view)) c.self.view_is
    (install_checked w c.args.id c.args.epoch node view c.self.invariant.1 none runs at member low ∙ guard_lets _ w c.args.id node view first runs)
