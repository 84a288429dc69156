use Rattle.std.proofs.Common.{◌≡◌, Some, Ok, false, [], refl, sym, ap, subst, ◌∙◌, List}
use Rattle.hk_base.specs.declared.letter.Actor.TheVariants.{Node}
use Rattle.hk_clocks.specs.Clocks.{ClockState}
use Rattle.hk_clocks.specs.Steps.{clock_step}
use Rattle.hk_clocks.specs.Steps.{ClockEvent}
use Rattle.hk_world.specs.declared.process.Process.{Process}
use Rattle.hk_world.specs.World.{WorldState, Processes, process_at, put_process, clocks_of}
use Rattle.hk_world.specs.Steps.{ticks_at, ticked_by}
use Rattle.hk_world.specs.Sound.{IsWorld}
use Rattle.hk_world.proofs.Answering.{crashed_is}
use Rattle.hk_world.proofs.Inside.{seen}
use Rattle.hk_node.specs.Steps.{ticks}
use Rattle.hk_world.proofs.Clocked.{tick_ticked}
use Rattle.hk_world.proofs.Soundness.{tick_world}
use Rattle.hk_world.proofs.Timed.{back, same_entries, clock_kept, clock_refuses, clocks_are, node_tick_at, node_put, node_ticked, node_ticked_world}
use Rattle.hk_world.proofs.world.World.tick_node.Goals as goal

pub invariant_of-self-then-process : goal.invariant_of-self-then-process
invariant_of-self-then-process c =
    let w : WorldState = seen c.self.inside in
    let p = c.in-Some.process.now in
    let found : process_at c.args.id w.processes ≡ Some p = sym c.in-Some.ensures.value in
    let kept = same_entries c.args.id p w.processes _ found (c.get_mut.follows.holds p).0 in
    (c.self.invariant.0, subst IsWorld (sym (back w _ w.managers w.paces w.letters w.views kept refl refl refl refl)) c.self.invariant.1)

pub returns-then-process : goal.returns-then-process
returns-then-process c =
    let w : WorldState = seen c.self.inside in
    let p = c.in-Some.process.now in
    let found : process_at c.args.id w.processes ≡ Some p = sym c.in-Some.ensures.value in
    let kept = same_entries c.args.id p w.processes _ found (c.get_mut.follows.holds p).0 in
    (crashed_is w c.args.self.now c.args.id p (λ (o : WorldState). ticks_at o c.args.to c.args.id) c.self.view_is found c.if-process.true, back w _ w.managers w.paces w.letters w.views kept refl refl refl refl ∙ c.self.view_is)

pub invariant_of-self-in_err-tick : goal.invariant_of-self-in_err-tick
invariant_of-self-in_err-tick c =
    let w : WorldState = seen c.self.inside in
    let p = c.in-Some.process.now in
    let found : process_at c.args.id w.processes ≡ Some p = sym c.in-Some.ensures.value in
    let kept = same_entries c.args.id p w.processes _ found (c.get_mut.follows.holds p).0 in
    let still : c.tick.new.self ≡ c.self.inside.clocks = clock_kept c.in_err-tick.field-0.0 c.self.inside.clocks c.tick.new.self _ c.in_err-tick.ensures in
    (ap (λ (x : ClockState). x.skew) still ∙ c.self.invariant.0, subst IsWorld (sym (back w _ w.managers c.tick.new.self.paces w.letters w.views kept refl (ap (λ (x : ClockState). x.paces) still) refl refl)) c.self.invariant.1)

pub returns-in_err-tick : goal.returns-in_err-tick
returns-in_err-tick c =
    let w : WorldState = seen c.self.inside in
    let p = c.in-Some.process.now in
    let found : process_at c.args.id w.processes ≡ Some p = sym c.in-Some.ensures.value in
    let kept = same_entries c.args.id p w.processes _ found (c.get_mut.follows.holds p).0 in
    let still : c.tick.new.self ≡ c.self.inside.clocks = clock_kept c.in_err-tick.field-0.0 c.self.inside.clocks c.tick.new.self _ c.in_err-tick.ensures in
    clock_refuses c.from_residual.result c.in_err-tick.field-0.0 c.args.self.now _ c.self.inside.clocks c.tick.new.self (clock_step c.self.inside.clocks (ClockEvent.Tick (Node c.args.id) c.args.to)) (λ r. ticked_by r w c.args.id c.args.to p.node) _
    c.from_residual.ensures.1 c.in_err-tick.ensures (λ f. refl)
    (node_tick_at w c.args.self.now c.args.id p c.args.to c.self.inside.clocks c.self.view_is found c.if-process.false (clocks_are w.skew c.self.inside.clocks c.self.invariant.0))
    (back w _ w.managers c.tick.new.self.paces w.letters w.views kept refl (ap (λ (x : ClockState). x.paces) still) refl refl ∙ c.self.view_is)

pub invariant_of-self-2 : goal.invariant_of-self-2
invariant_of-self-2 c =
    let w : WorldState = seen c.self.inside in
    let p = c.in-Some.process.now in
    let found : process_at c.args.id w.processes ≡ Some p = sym c.in-Some.ensures.value in
    let clocks : clocks_of w ≡ c.self.inside.clocks = clocks_are w.skew c.self.inside.clocks c.self.invariant.0 in
    let is : clock_step (clocks_of w) (ClockEvent.Tick (Node c.args.id) c.args.to) ≡ Ok c.tick.new.self = ap (λ (x : ClockState). clock_step x (ClockEvent.Tick (Node c.args.id) c.args.to)) clocks ∙ c.in_ok-tick.ensures in
    let put : (c.get_mut.follows.lender (record { node = c.raise-report.new.node; crashed = p.crashed })).entries ≡ put_process c.args.id (record { node = (ticks p.node c.args.to).node; crashed = false }) w.processes =
    node_put c.args.id p w.processes _ c.raise-report.new.node (ticks p.node c.args.to).node found c.if-process.false c.self.invariant.1.ordered c.raise-report.ensures.node (c.get_mut.follows.holds _).0 in (
      (tick_ticked (clocks_of w) c.tick.new.self (Node c.args.id) c.args.to is).same_skew,
      subst IsWorld (node_ticked_world w c.args.id c.args.to p.node c.tick.new.self _ put)
          (tick_world (c.steps_keep_nodes.ensures.node, c.steps_keep_nodes.ensures.letters) w c.args.id p c.args.to c.tick.new.self c.self.invariant.1 found c.if-process.false c.requires is),
    )

pub returns : goal.returns
returns c =
    let w : WorldState = seen c.self.inside in
    let p = c.in-Some.process.now in
    let found : process_at c.args.id w.processes ≡ Some p = sym c.in-Some.ensures.value in
    let clocks : clocks_of w ≡ c.self.inside.clocks = clocks_are w.skew c.self.inside.clocks c.self.invariant.0 in
    let put : (c.get_mut.follows.lender (record { node = c.raise-report.new.node; crashed = p.crashed })).entries ≡ put_process c.args.id (record { node = (ticks p.node c.args.to).node; crashed = false }) w.processes =
    node_put c.args.id p w.processes _ c.raise-report.new.node (ticks p.node c.args.to).node found c.if-process.false c.self.invariant.1.ordered c.raise-report.ensures.node (c.get_mut.follows.holds _).0 in (
      [],
      node_ticked w c.args.self.now c.args.id p c.args.to c.self.inside.clocks c.tick.new.self _ c.raise-report.new.node c.raise-report.result c.rested.result c.self.view_is found c.if-process.false clocks c.in_ok-tick.ensures
          c.raise-report.ensures.node put c.raise-report.ensures.report c.rested.ensures,
    )
