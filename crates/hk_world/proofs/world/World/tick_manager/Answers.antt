use Rattle.std.proofs.Common.{◌≡◌, ℕ, Some, Ok, false, [], refl, sym, ap, subst, ◌∙◌, List, slice_set, arith}
use Rattle.hk_base.specs.declared.letter.Actor.TheVariants.{Manager}
use Rattle.hk_clocks.specs.Clocks.{ClockState}
use Rattle.hk_clocks.specs.Steps.{clock_step}
use Rattle.hk_clocks.specs.Steps.{ClockEvent}
use Rattle.hk_world.specs.declared.process.ManagerProcess.{ManagerProcess}
use Rattle.hk_world.specs.World.{WorldState, manager_at, put_manager, clocks_of}
use Rattle.hk_world.specs.Steps.{manager_ticks_at, manager_ticked_by}
use Rattle.hk_world.specs.Sound.{IsWorld}
use Rattle.hk_world.proofs.Inside.{seen}
use Rattle.hk_world.proofs.Managing.{get_found, set_back}
use Rattle.hk_manager.specs.Steps.{ManagerStepped, manager_ticks}
use Rattle.hk_world.proofs.Clocked.{tick_ticked}
use Rattle.hk_world.proofs.Soundness.{manager_tick_world}
use Rattle.hk_world.proofs.Timed.{back, clock_kept, clock_refuses, clocks_are, manager_crashed_is, manager_tick_at, manager_put, manager_ticked_is}
use Rattle.hk_world.proofs.world.World.tick_manager.Goals as goal

pub returns-then-process : goal.returns-then-process
returns-then-process c =
    let w : WorldState = seen c.self.inside in
    let p = c.in-Some.process.now in
    let found : manager_at c.args.manager w.managers ≡ Some p = ap (λ (k : ℕ). manager_at k w.managers) (sym c.from.ensures) ∙ get_found c.from.result w.managers p (omega (arith, c.in-Some.ensures.variant.0 refl, c.self.inside.managers.ok.0)) (sym c.in-Some.ensures.value) in
    let kept : slice_set w.managers c.from.result p ≡ w.managers = ap (λ (k : ℕ). slice_set w.managers k p) c.from.ensures ∙ set_back c.args.manager p w.managers found in
    (manager_crashed_is w c.args.self.now c.args.manager p (λ (o : WorldState). manager_ticks_at o c.args.to c.args.manager) c.self.view_is found c.if-process.true, back w w.processes _ w.paces w.letters w.views refl kept refl refl refl ∙ c.self.view_is)

pub invariant_of-self-in_err-tick : goal.invariant_of-self-in_err-tick
invariant_of-self-in_err-tick c =
    let w : WorldState = seen c.self.inside in
    let p = c.in-Some.process.now in
    let found : manager_at c.args.manager w.managers ≡ Some p = ap (λ (k : ℕ). manager_at k w.managers) (sym c.from.ensures) ∙ get_found c.from.result w.managers p (omega (arith, c.in-Some.ensures.variant.0 refl, c.self.inside.managers.ok.0)) (sym c.in-Some.ensures.value) in
    let kept : slice_set w.managers c.from.result p ≡ w.managers = ap (λ (k : ℕ). slice_set w.managers k p) c.from.ensures ∙ set_back c.args.manager p w.managers found in
    let still : c.tick.new.self ≡ c.self.inside.clocks = clock_kept c.in_err-tick.field-0.0 c.self.inside.clocks c.tick.new.self _ c.in_err-tick.ensures in
    (ap (λ (x : ClockState). x.skew) still ∙ c.self.invariant.0, subst IsWorld (sym (back w w.processes _ c.tick.new.self.paces w.letters w.views refl kept (ap (λ (x : ClockState). x.paces) still) refl refl)) c.self.invariant.1)

pub returns-in_err-tick : goal.returns-in_err-tick
returns-in_err-tick c =
    let w : WorldState = seen c.self.inside in
    let p = c.in-Some.process.now in
    let found : manager_at c.args.manager w.managers ≡ Some p = ap (λ (k : ℕ). manager_at k w.managers) (sym c.from.ensures) ∙ get_found c.from.result w.managers p (omega (arith, c.in-Some.ensures.variant.0 refl, c.self.inside.managers.ok.0)) (sym c.in-Some.ensures.value) in
    let kept : slice_set w.managers c.from.result p ≡ w.managers = ap (λ (k : ℕ). slice_set w.managers k p) c.from.ensures ∙ set_back c.args.manager p w.managers found in
    let still : c.tick.new.self ≡ c.self.inside.clocks = clock_kept c.in_err-tick.field-0.0 c.self.inside.clocks c.tick.new.self _ c.in_err-tick.ensures in
    clock_refuses c.from_residual.result c.in_err-tick.field-0.0 c.args.self.now _ c.self.inside.clocks c.tick.new.self (clock_step c.self.inside.clocks (ClockEvent.Tick (Manager c.args.manager) c.args.to))
    (λ r. manager_ticked_by r w c.args.manager c.args.to p.manager) _ c.from_residual.ensures.1 c.in_err-tick.ensures (λ f. refl)
    (manager_tick_at w c.args.self.now c.args.manager p c.args.to c.self.inside.clocks c.self.view_is found c.if-process.false (clocks_are w.skew c.self.inside.clocks c.self.invariant.0))
    (back w w.processes _ c.tick.new.self.paces w.letters w.views refl kept (ap (λ (x : ClockState). x.paces) still) refl refl ∙ c.self.view_is)

pub invariant_of-self-2 : goal.invariant_of-self-2
invariant_of-self-2 c =
    let w : WorldState = seen c.self.inside in
    let p = c.in-Some.process.now in
    let found : manager_at c.args.manager w.managers ≡ Some p = ap (λ (k : ℕ). manager_at k w.managers) (sym c.from.ensures) ∙ get_found c.from.result w.managers p (omega (arith, c.in-Some.ensures.variant.0 refl, c.self.inside.managers.ok.0)) (sym c.in-Some.ensures.value) in
    let clocks : clocks_of w ≡ c.self.inside.clocks = clocks_are w.skew c.self.inside.clocks c.self.invariant.0 in
    let is : clock_step (clocks_of w) (ClockEvent.Tick (Manager c.args.manager) c.args.to) ≡ Ok c.tick.new.self = ap (λ (x : ClockState). clock_step x (ClockEvent.Tick (Manager c.args.manager) c.args.to)) clocks ∙ c.in_ok-tick.ensures in
    let put : slice_set w.managers c.from.result (record { manager = c.tick-2.new.self; crashed = p.crashed }) ≡ put_manager c.args.manager (record { manager = (manager_ticks p.manager c.args.to).manager; crashed = false }) w.managers =
    manager_put c.args.manager c.from.result p w.managers _ c.tick-2.new.self (manager_ticks p.manager c.args.to).manager c.from.ensures c.if-process.false (ap (λ (s : ManagerStepped). s.manager) c.tick-2.ensures.made) refl in (
      (tick_ticked (clocks_of w) c.tick.new.self (Manager c.args.manager) c.args.to is).same_skew,
      subst IsWorld (ap (λ (ms : List ManagerProcess). record w { managers = ms; paces = c.tick.new.self.paces }) (sym put))
          (manager_tick_world (c.steps_keep_managers.ensures.manager, c.steps_keep_managers.ensures.letters) w c.args.manager p c.args.to c.tick.new.self c.self.invariant.1 found c.if-process.false c.requires is),
    )

pub returns : goal.returns
returns c =
    let w : WorldState = seen c.self.inside in
    let p = c.in-Some.process.now in
    let found : manager_at c.args.manager w.managers ≡ Some p = ap (λ (k : ℕ). manager_at k w.managers) (sym c.from.ensures) ∙ get_found c.from.result w.managers p (omega (arith, c.in-Some.ensures.variant.0 refl, c.self.inside.managers.ok.0)) (sym c.in-Some.ensures.value) in
    let clocks : clocks_of w ≡ c.self.inside.clocks = clocks_are w.skew c.self.inside.clocks c.self.invariant.0 in
    let put : slice_set w.managers c.from.result (record { manager = c.tick-2.new.self; crashed = p.crashed }) ≡ put_manager c.args.manager (record { manager = (manager_ticks p.manager c.args.to).manager; crashed = false }) w.managers =
    manager_put c.args.manager c.from.result p w.managers _ c.tick-2.new.self (manager_ticks p.manager c.args.to).manager c.from.ensures c.if-process.false (ap (λ (s : ManagerStepped). s.manager) c.tick-2.ensures.made) refl in
    ([], manager_ticked_is w c.args.self.now c.args.manager p c.args.to c.self.inside.clocks c.tick.new.self _ c.nothing.result c.self.view_is found c.if-process.false clocks c.in_ok-tick.ensures put c.nothing.ensures)
