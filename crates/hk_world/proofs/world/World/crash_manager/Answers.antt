use Rattle.std.proofs.Common.{◌≡◌, ℕ, Some, Ok, false, true, [], refl, sym, ap, subst, ◌∙◌, List, slice_set, arith}
use Rattle.hk_base.specs.declared.letter.Actor.TheVariants.{Manager}
use Rattle.hk_clocks.specs.Clocks.{ClockState}
use Rattle.hk_clocks.specs.Steps.{clock_step}
use Rattle.hk_clocks.specs.Steps.{ClockEvent}
use Rattle.hk_world.specs.declared.process.ManagerProcess.{ManagerProcess}
use Rattle.hk_world.specs.World.{WorldState, manager_at, put_manager, clocks_of}
use Rattle.hk_world.specs.Steps.{manager_crashes_at}
use Rattle.hk_world.specs.Sound.{IsWorld}
use Rattle.hk_world.proofs.Inside.{seen}
use Rattle.hk_world.proofs.Managing.{get_found, set_back}
use Rattle.hk_world.proofs.Clocked.{step_skew_of}
use Rattle.hk_world.proofs.Soundness.{manager_clock_at, manager_crash_world}
use Rattle.hk_world.proofs.Timed.{back, clock_kept, clock_wants_as, clocks_are, stops_live, manager_crashed_is, manager_crash_is, manager_crash_made}
use Rattle.hk_world.proofs.world.World.crash_manager.Goals as goal

pub returns-then-process : goal.returns-then-process
returns-then-process c =
    let w : WorldState = seen c.self.inside in
    let p = c.in-Some.process.now in
    let found : manager_at c.args.manager w.managers ≡ Some p = ap (λ (k : ℕ). manager_at k w.managers) (sym c.from.ensures) ∙ get_found c.from.result w.managers p (omega (arith, c.in-Some.ensures.variant.0 refl, c.self.inside.managers.ok.0)) (sym c.in-Some.ensures.value) in
    let kept : slice_set w.managers c.from.result p ≡ w.managers = ap (λ (k : ℕ). slice_set w.managers k p) c.from.ensures ∙ set_back c.args.manager p w.managers found in
    (manager_crashed_is w c.args.self.now c.args.manager p (λ (o : WorldState). manager_crashes_at o c.args.manager) c.self.view_is found c.if-process.true, back w w.processes _ w.paces w.letters w.views refl kept refl refl refl ∙ c.self.view_is)

pub invariant_of-self-in_err-stop : goal.invariant_of-self-in_err-stop
invariant_of-self-in_err-stop c =
    let w : WorldState = seen c.self.inside in
    let p = c.in-Some.process.now in
    let found : manager_at c.args.manager w.managers ≡ Some p = ap (λ (k : ℕ). manager_at k w.managers) (sym c.from.ensures) ∙ get_found c.from.result w.managers p (omega (arith, c.in-Some.ensures.variant.0 refl, c.self.inside.managers.ok.0)) (sym c.in-Some.ensures.value) in
    let kept : slice_set w.managers c.from.result p ≡ w.managers = ap (λ (k : ℕ). slice_set w.managers k p) c.from.ensures ∙ set_back c.args.manager p w.managers found in
    let still : c.stop.new.self ≡ c.self.inside.clocks = clock_kept c.in_err-stop.field-0.0 c.self.inside.clocks c.stop.new.self _ c.in_err-stop.ensures in
    (ap (λ (x : ClockState). x.skew) still ∙ c.self.invariant.0, subst IsWorld (sym (back w w.processes _ c.stop.new.self.paces w.letters w.views refl kept (ap (λ (x : ClockState). x.paces) still) refl refl)) c.self.invariant.1)

pub returns-in_err-stop : goal.returns-in_err-stop
returns-in_err-stop c =
    let w : WorldState = seen c.self.inside in
    let p = c.in-Some.process.now in
    let found : manager_at c.args.manager w.managers ≡ Some p = ap (λ (k : ℕ). manager_at k w.managers) (sym c.from.ensures) ∙ get_found c.from.result w.managers p (omega (arith, c.in-Some.ensures.variant.0 refl, c.self.inside.managers.ok.0)) (sym c.in-Some.ensures.value) in
    let kept : slice_set w.managers c.from.result p ≡ w.managers = ap (λ (k : ℕ). slice_set w.managers k p) c.from.ensures ∙ set_back c.args.manager p w.managers found in
    let still : c.stop.new.self ≡ c.self.inside.clocks = clock_kept c.in_err-stop.field-0.0 c.self.inside.clocks c.stop.new.self _ c.in_err-stop.ensures in
    clock_wants_as c.from_residual.result c.in_err-stop.field-0.0 c.args.self.now _ c.self.inside.clocks c.stop.new.self (clock_step c.self.inside.clocks (ClockEvent.Stop (Manager c.args.manager))) _
    c.from_residual.ensures.1 c.in_err-stop.ensures (stops_live c.self.inside.clocks (Manager c.args.manager) p.manager.clock (manager_clock_at w c.args.manager p c.self.invariant.1 found c.if-process.false))
    (back w w.processes _ c.stop.new.self.paces w.letters w.views refl kept (ap (λ (x : ClockState). x.paces) still) refl refl ∙ c.self.view_is)

pub invariant_of-self-2 : goal.invariant_of-self-2
invariant_of-self-2 c =
    let w : WorldState = seen c.self.inside in
    let p = c.in-Some.process.now in
    let found : manager_at c.args.manager w.managers ≡ Some p = ap (λ (k : ℕ). manager_at k w.managers) (sym c.from.ensures) ∙ get_found c.from.result w.managers p (omega (arith, c.in-Some.ensures.variant.0 refl, c.self.inside.managers.ok.0)) (sym c.in-Some.ensures.value) in
    let clocks : clocks_of w ≡ c.self.inside.clocks = clocks_are w.skew c.self.inside.clocks c.self.invariant.0 in
    let stopped : ManagerProcess = record { manager = p.manager; crashed = true } in
    let put : slice_set w.managers c.from.result stopped ≡ put_manager c.args.manager stopped w.managers = ap (λ (k : ℕ). slice_set w.managers k stopped) c.from.ensures in (
      step_skew_of c.self.inside.clocks c.stop.new.self (ClockEvent.Stop (Manager c.args.manager)) c.in_ok-stop.ensures ∙ c.self.invariant.0,
      subst IsWorld (manager_crash_made w c.args.manager p.manager c.self.inside.clocks c.stop.new.self _ clocks c.in_ok-stop.ensures put) (manager_crash_world w c.args.manager p c.self.invariant.1 found),
    )

pub returns : goal.returns
returns c =
    let w : WorldState = seen c.self.inside in
    let p = c.in-Some.process.now in
    let found : manager_at c.args.manager w.managers ≡ Some p = ap (λ (k : ℕ). manager_at k w.managers) (sym c.from.ensures) ∙ get_found c.from.result w.managers p (omega (arith, c.in-Some.ensures.variant.0 refl, c.self.inside.managers.ok.0)) (sym c.in-Some.ensures.value) in
    let clocks : clocks_of w ≡ c.self.inside.clocks = clocks_are w.skew c.self.inside.clocks c.self.invariant.0 in
    let stopped : ManagerProcess = record { manager = p.manager; crashed = true } in
    let put : slice_set w.managers c.from.result stopped ≡ put_manager c.args.manager stopped w.managers = ap (λ (k : ℕ). slice_set w.managers k stopped) c.from.ensures in
    ([], manager_crash_is w c.args.self.now c.args.manager p c.self.inside.clocks c.stop.new.self _ c.nothing.result c.self.view_is found c.if-process.false clocks c.in_ok-stop.ensures put c.nothing.ensures)
