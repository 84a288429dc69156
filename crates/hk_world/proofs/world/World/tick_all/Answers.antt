use Rattle.std.proofs.Common.{◌≡◌, Ok, [], refl, sym, ap, subst, ◌∙◌, List, map}
use Rattle.hk_clocks.specs.Clocks.{ClockState}
use Rattle.hk_clocks.specs.Steps.{clock_step}
use Rattle.hk_clocks.specs.Steps.{ClockEvent}
use Rattle.hk_world.specs.declared.process.ManagerProcess.{ManagerProcess}
use Rattle.hk_world.specs.World.{WorldState, Processes, clocks_of}
use Rattle.hk_world.specs.Steps.{all_ticked_by, manager_ticked}
use Rattle.hk_world.specs.Sound.{IsWorld}
use Rattle.hk_world.proofs.Built.{built}
use Rattle.hk_world.proofs.Clocked.{step_skew_of}
use Rattle.hk_world.proofs.Inside.{seen}
use Rattle.hk_world.proofs.Soundness.{all_tick_world}
use Rattle.hk_world.proofs.Timed.{back, clock_kept, clock_refuses, clocks_are, all_tick_at, all_ticked_is}
use Rattle.hk_world.proofs.world.World.tick_all.Goals as goal

pub invariant_of-self : goal.invariant_of-self
invariant_of-self c =
    let w : WorldState = seen c.self.inside in
    let still : c.tick_all.new.self ≡ c.self.inside.clocks = clock_kept c.in_err-tick_all.field-0.0 c.self.inside.clocks c.tick_all.new.self _ c.in_err-tick_all.ensures in
    (ap (λ (x : ClockState). x.skew) still ∙ c.self.invariant.0, subst IsWorld (sym (back w w.processes w.managers c.tick_all.new.self.paces w.letters w.views refl refl (ap (λ (x : ClockState). x.paces) still) refl refl)) c.self.invariant.1)

pub returns-in_err-tick_all : goal.returns-in_err-tick_all
returns-in_err-tick_all c =
    let w : WorldState = seen c.self.inside in
    let still : c.tick_all.new.self ≡ c.self.inside.clocks = clock_kept c.in_err-tick_all.field-0.0 c.self.inside.clocks c.tick_all.new.self _ c.in_err-tick_all.ensures in
    clock_refuses c.from_residual.result c.in_err-tick_all.field-0.0 c.args.self.now _ c.self.inside.clocks c.tick_all.new.self (clock_step c.self.inside.clocks (ClockEvent.TickAll c.args.to)) (λ r. all_ticked_by r w c.args.to) _
    c.from_residual.ensures.1 c.in_err-tick_all.ensures (λ f. refl)
    (all_tick_at w c.args.self.now c.args.to c.self.inside.clocks c.self.view_is (clocks_are w.skew c.self.inside.clocks c.self.invariant.0))
    (back w w.processes w.managers c.tick_all.new.self.paces w.letters w.views refl refl (ap (λ (x : ClockState). x.paces) still) refl refl ∙ c.self.view_is)

pub invariant_of-self-2 : goal.invariant_of-self-2
invariant_of-self-2 c =
    let w : WorldState = seen c.self.inside in
    let clocks : clocks_of w ≡ c.self.inside.clocks = clocks_are w.skew c.self.inside.clocks c.self.invariant.0 in
    let is : clock_step (clocks_of w) (ClockEvent.TickAll c.args.to) ≡ Ok c.tick_all.new.self = ap (λ (x : ClockState). clock_step x (ClockEvent.TickAll c.args.to)) clocks ∙ c.in_ok-tick_all.ensures in (
      step_skew_of c.self.inside.clocks c.tick_all.new.self (ClockEvent.TickAll c.args.to) c.in_ok-tick_all.ensures ∙ c.self.invariant.0,
      subst IsWorld (ap (λ (ps : Processes). built w ps (map (manager_ticked c.args.to) w.managers) c.tick_all.new.self.paces w.letters w.views w.calls) (sym c.tick_live.ensures)
          ∙ ap (λ (ms : List ManagerProcess). built w c.tick_live.new.processes.entries ms c.tick_all.new.self.paces w.letters w.views w.calls) (sym c.tick_managers.ensures))
          (all_tick_world (c.steps_keep_nodes.ensures.node, c.steps_keep_nodes.ensures.letters) (c.steps_keep_managers.ensures.manager, c.steps_keep_managers.ensures.letters) w c.args.to c.tick_all.new.self c.self.invariant.1 c.requires is),
    )

pub returns : goal.returns
returns c =
    let w : WorldState = seen c.self.inside in
    let clocks : clocks_of w ≡ c.self.inside.clocks = clocks_are w.skew c.self.inside.clocks c.self.invariant.0 in
    ([], all_ticked_is w c.args.self.now c.args.to c.self.inside.clocks c.tick_all.new.self _ _ c.nothing.result c.self.view_is clocks c.in_ok-tick_all.ensures c.tick_live.ensures c.tick_managers.ensures c.nothing.ensures)
