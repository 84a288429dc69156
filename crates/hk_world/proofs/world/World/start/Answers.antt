use Rattle.std.proofs.Common.{◌≡◌, ◌≤◌, ℕ, true, [], length, Ok, Err, Result, None, refl, sym, ap, subst, ◌∙◌, arith}
use Rattle.hk_base.specs.declared.letter.Actor.TheVariants.{Node}
use Rattle.hk_base.specs.declared.time.TheConstants.{MAX_TIME}
use Rattle.hk_clocks.specs.declared.fault.ClockFault.{ClockFault}
use Rattle.hk_clocks.specs.Clocks.{ClockState, clock_of}
use Rattle.hk_clocks.specs.Steps.{clock_step}
use Rattle.hk_clocks.specs.Steps.{ClockEvent}
use Rattle.hk_clocks.specs.Outs.{IsStepOf as IsClockStep}
use Rattle.hk_world.specs.declared.process.Process.{Process}
use Rattle.hk_world.specs.World.{WorldState, process_at, clocks_of, node_clock}
use Rattle.hk_world.specs.Steps.{may_join}
use Rattle.hk_world.specs.Allowed.{joined}
use Rattle.hk_world.specs.Sound.{IsWorld}
use Rattle.hk_world.proofs.Allowed.{not_there}
use Rattle.hk_world.proofs.Clocked.{step_skew_of}
use Rattle.hk_world.proofs.Inside.{seen}
use Rattle.hk_world.proofs.Soundness.{greatest_in, start_world}
use Rattle.hk_world.proofs.Timed.{back, clock_kept, clock_wants_from, clocks_are, starts_none, start_is, start_made, start_back, managers_counted}
use Rattle.hk_world.proofs.world.World.start.Goals as goal

pub joiner-requires-clause-clock : goal.joiner-requires-clause-clock
joiner-requires-clause-clock c = subst (λ (n : ℕ). n ≤ MAX_TIME) (sym c.greatest-clock.ensures) (greatest_in (seen c.self.inside) c.self.invariant.1)

pub invariant_of-self-in-Err : goal.invariant_of-self-in-Err
invariant_of-self-in-Err c =
    let w : WorldState = seen c.self.inside in
    let none : process_at c.args.id w.processes ≡ None = not_there _ (sym c.contains_key.ensures ∙ c.if-contains_key.false) in
    let told = subst (λ (r : Result Unit ClockFault). IsClockStep r c.self.inside.clocks c.start.new.self (ClockEvent.Start (Node c.args.id) c.greatest-clock.result)) c.in-Err.is c.start.ensures in
    let still : c.start.new.self ≡ c.self.inside.clocks = clock_kept c.in-Err.fault c.self.inside.clocks c.start.new.self _ told in
    let kept = start_back c.args.id c.in_ok-process.process w.processes _ _ none c.in_ok-put_in.ensures.ok c.take_out.ensures in
    (ap (λ (x : ClockState). x.skew) still ∙ c.self.invariant.0, subst IsWorld (sym (back w _ w.managers c.start.new.self.paces w.letters w.views kept refl (ap (λ (x : ClockState). x.paces) still) refl refl)) c.self.invariant.1)

pub returns-in-Err : goal.returns-in-Err
returns-in-Err c =
    let w : WorldState = seen c.self.inside in
    let none : process_at c.args.id w.processes ≡ None = not_there _ (sym c.contains_key.ensures ∙ c.if-contains_key.false) in
    let told = subst (λ (r : Result Unit ClockFault). IsClockStep r c.self.inside.clocks c.start.new.self (ClockEvent.Start (Node c.args.id) c.greatest-clock.result)) c.in-Err.is c.start.ensures in
    let still : c.start.new.self ≡ c.self.inside.clocks = clock_kept c.in-Err.fault c.self.inside.clocks c.start.new.self _ told in
    let kept = start_back c.args.id c.in_ok-process.process w.processes _ _ none c.in_ok-put_in.ensures.ok c.take_out.ensures in
    clock_wants_from c.from.result c.in-Err.fault c.args.self.now _ c.self.inside.clocks c.start.new.self (clock_step c.self.inside.clocks (ClockEvent.Start (Node c.args.id) c.greatest-clock.result)) _ c.from.ensures.from_gives told
    (starts_none c.self.inside.clocks (Node c.args.id) c.greatest-clock.result (c.self.invariant.1.paced (Node c.args.id) ∙ ap node_clock none))
    (back w _ w.managers c.start.new.self.paces w.letters w.views kept refl (ap (λ (x : ClockState). x.paces) still) refl refl ∙ c.self.view_is)

pub invariant_of-self-in_default : goal.invariant_of-self-in_default
invariant_of-self-in_default c =
    let w : WorldState = seen c.self.inside in
    let none : process_at c.args.id w.processes ≡ None = not_there _ (sym c.contains_key.ensures ∙ c.if-contains_key.false) in
    let clocks : clocks_of w ≡ c.self.inside.clocks = clocks_are w.skew c.self.inside.clocks c.self.invariant.0 in
    let is : clock_step c.self.inside.clocks (ClockEvent.Start (Node c.args.id) c.greatest-clock.result) ≡ Ok c.start.new.self = c.in_default.ensures in
    let joins : c.in_ok-process.process ≡ joined c.args.id w.skew (length w.managers) c.greatest-clock.result = managers_counted c.args.id w.skew _ (length w.managers) c.greatest-clock.result c.in_ok-process.process (omega (arith, c.len.ensures, c.self.inside.managers.ok.0)) c.in_ok-process.ensures in (
      step_skew_of c.self.inside.clocks c.start.new.self (ClockEvent.Start (Node c.args.id) c.greatest-clock.result) is ∙ c.self.invariant.0,
      subst IsWorld (start_made w c.args.id c.greatest-clock.result c.in_ok-process.process c.self.inside.clocks c.start.new.self _ clocks c.greatest-clock.ensures joins c.in_ok-put_in.ensures.ok is)
          (start_world (c.steps_keep_nodes.ensures.node, c.steps_keep_nodes.ensures.letters) w c.args.id c.self.invariant.1 none),
    )

pub returns : goal.returns
returns c =
    let w : WorldState = seen c.self.inside in
    let none : process_at c.args.id w.processes ≡ None = not_there _ (sym c.contains_key.ensures ∙ c.if-contains_key.false) in
    let may : may_join w c.args.id ≡ true = ap (λ (o : WorldState). may_join o c.args.id) c.self.view_is ∙ sym c.may_join.ensures ∙ c.if-not-may_join.false in
    let clocks : clocks_of w ≡ c.self.inside.clocks = clocks_are w.skew c.self.inside.clocks c.self.invariant.0 in
    let is : clock_step c.self.inside.clocks (ClockEvent.Start (Node c.args.id) c.greatest-clock.result) ≡ Ok c.start.new.self = c.in_default.ensures in
    let joins : c.in_ok-process.process ≡ joined c.args.id w.skew (length w.managers) c.greatest-clock.result = managers_counted c.args.id w.skew _ (length w.managers) c.greatest-clock.result c.in_ok-process.process (omega (arith, c.len.ensures, c.self.inside.managers.ok.0)) c.in_ok-process.ensures in
    ([], start_is w c.args.self.now c.args.id c.greatest-clock.result c.in_ok-process.process c.self.inside.clocks c.start.new.self _ c.nothing.result c.self.view_is none may clocks c.greatest-clock.ensures joins c.in_ok-put_in.ensures.ok is c.nothing.ensures)
