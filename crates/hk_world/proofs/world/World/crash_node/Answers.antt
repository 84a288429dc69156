use Rattle.std.proofs.Common.{◌≡◌, Some, Ok, false, true, [], refl, sym, ap, subst, ◌∙◌, List}
use Rattle.hk_base.specs.declared.letter.Actor.TheVariants.{Node}
use Rattle.hk_clocks.specs.Clocks.{ClockState}
use Rattle.hk_clocks.specs.Steps.{clock_step}
use Rattle.hk_clocks.specs.Steps.{ClockEvent}
use Rattle.hk_world.specs.declared.process.Process.{Process}
use Rattle.hk_world.specs.World.{WorldState, Processes, process_at, put_process, clocks_of}
use Rattle.hk_world.specs.Steps.{crashes_at}
use Rattle.hk_world.specs.Sound.{IsWorld}
use Rattle.hk_world.proofs.Answering.{crashed_is}
use Rattle.hk_world.proofs.Inside.{seen}
use Rattle.hk_world.proofs.Clocked.{step_skew_of}
use Rattle.hk_world.proofs.Soundness.{clock_at, crash_world}
use Rattle.hk_world.proofs.Timed.{back, same_entries, clock_kept, clock_wants_as, clocks_are, stops_live, crash_put, crash_is, crash_made}
use Rattle.hk_world.proofs.world.World.crash_node.Goals as goal

pub invariant_of-self-then-process : goal.invariant_of-self-then-process
invariant_of-self-then-process c =
    let w : WorldState = seen c.self.inside in
    let p = c.in-Some.process.now in
    let found : process_at c.args.id w.processes ≡ Some p = sym c.in-Some.ensures.value in
    let kept = same_entries c.args.id p w.processes _ found (c.get_mut.follows.holds p).0 in
    (c.self.invariant.0, subst IsWorld (sym (back w _ w.managers w.paces w.letters w.views kept refl refl refl refl)) c.self.invariant.1)

pub returns-then-process : goal.returns-then-process
returns-then-process c =
    let w : WorldState = seen c.self.inside in
    let p = c.in-Some.process.now in
    let found : process_at c.args.id w.processes ≡ Some p = sym c.in-Some.ensures.value in
    let kept = same_entries c.args.id p w.processes _ found (c.get_mut.follows.holds p).0 in
    (crashed_is w c.args.self.now c.args.id p (λ (o : WorldState). crashes_at o c.args.id) c.self.view_is found c.if-process.true, back w _ w.managers w.paces w.letters w.views kept refl refl refl refl ∙ c.self.view_is)

pub invariant_of-self-in_err-stop : goal.invariant_of-self-in_err-stop
invariant_of-self-in_err-stop c =
    let w : WorldState = seen c.self.inside in
    let p = c.in-Some.process.now in
    let found : process_at c.args.id w.processes ≡ Some p = sym c.in-Some.ensures.value in
    let kept = same_entries c.args.id p w.processes _ found (c.get_mut.follows.holds p).0 in
    let still : c.stop.new.self ≡ c.self.inside.clocks = clock_kept c.in_err-stop.field-0.0 c.self.inside.clocks c.stop.new.self _ c.in_err-stop.ensures in
    (ap (λ (x : ClockState). x.skew) still ∙ c.self.invariant.0, subst IsWorld (sym (back w _ w.managers c.stop.new.self.paces w.letters w.views kept refl (ap (λ (x : ClockState). x.paces) still) refl refl)) c.self.invariant.1)

pub returns-in_err-stop : goal.returns-in_err-stop
returns-in_err-stop c =
    let w : WorldState = seen c.self.inside in
    let p = c.in-Some.process.now in
    let found : process_at c.args.id w.processes ≡ Some p = sym c.in-Some.ensures.value in
    let kept = same_entries c.args.id p w.processes _ found (c.get_mut.follows.holds p).0 in
    let still : c.stop.new.self ≡ c.self.inside.clocks = clock_kept c.in_err-stop.field-0.0 c.self.inside.clocks c.stop.new.self _ c.in_err-stop.ensures in
    clock_wants_as c.from_residual.result c.in_err-stop.field-0.0 c.args.self.now _ c.self.inside.clocks c.stop.new.self (clock_step c.self.inside.clocks (ClockEvent.Stop (Node c.args.id))) _
    c.from_residual.ensures.1 c.in_err-stop.ensures (stops_live c.self.inside.clocks (Node c.args.id) p.node.clock (clock_at w c.args.id p c.self.invariant.1 found c.if-process.false))
    (back w _ w.managers c.stop.new.self.paces w.letters w.views kept refl (ap (λ (x : ClockState). x.paces) still) refl refl ∙ c.self.view_is)

pub invariant_of-self-2 : goal.invariant_of-self-2
invariant_of-self-2 c =
    let w : WorldState = seen c.self.inside in
    let p = c.in-Some.process.now in
    let found : process_at c.args.id w.processes ≡ Some p = sym c.in-Some.ensures.value in
    let clocks : clocks_of w ≡ c.self.inside.clocks = clocks_are w.skew c.self.inside.clocks c.self.invariant.0 in
    let stopped : Process = record { node = p.node; crashed = true } in
    let put : (c.get_mut.follows.lender stopped).entries ≡ put_process c.args.id stopped w.processes = crash_put c.args.id p w.processes _ found c.self.invariant.1.ordered (c.get_mut.follows.holds stopped).0 in (
      step_skew_of c.self.inside.clocks c.stop.new.self (ClockEvent.Stop (Node c.args.id)) c.in_ok-stop.ensures ∙ c.self.invariant.0,
      subst IsWorld (crash_made w c.args.id p.node c.self.inside.clocks c.stop.new.self _ clocks c.in_ok-stop.ensures put) (crash_world w c.args.id p c.self.invariant.1 found),
    )

pub returns : goal.returns
returns c =
    let w : WorldState = seen c.self.inside in
    let p = c.in-Some.process.now in
    let found : process_at c.args.id w.processes ≡ Some p = sym c.in-Some.ensures.value in
    let clocks : clocks_of w ≡ c.self.inside.clocks = clocks_are w.skew c.self.inside.clocks c.self.invariant.0 in
    let stopped : Process = record { node = p.node; crashed = true } in
    let put : (c.get_mut.follows.lender stopped).entries ≡ put_process c.args.id stopped w.processes = crash_put c.args.id p w.processes _ found c.self.invariant.1.ordered (c.get_mut.follows.holds stopped).0 in
    ([], crash_is w c.args.self.now c.args.id p c.self.inside.clocks c.stop.new.self _ c.nothing.result c.self.view_is found c.if-process.false clocks c.in_ok-stop.ensures put c.nothing.ensures)
