use Rattle.std.proofs.Common.{◌≡◌, Some, Ok, refl, sym, subst, ◌∙◌}
use Rattle.std.specs.Option.{IsSome}
use Rattle.std.specs.List.{AllByRecursion}
use Rattle.hk_node.specs.declared.report.PriorRow.{PriorRow}
use Rattle.hk_node.specs.Rows.{find_row}
use Rattle.hk_node.specs.Node.{NodeState}
use Rattle.hk_node.specs.Steps.{node_step}
use Rattle.hk_node.specs.Sound.{IsNode}
use Rattle.hk_world.specs.World.{WorldState, process_at}
use Rattle.hk_world.specs.Steps.{acts_for}
use Rattle.hk_world.specs.Sound.{IsWorld}
use Rattle.hk_world.proofs.Inside.{seen}
use Rattle.hk_world.proofs.Answering.{wanting, stopped_from, running_from, crashed_is, stays, taken_back, Went, went_world, went_answer}
use Rattle.hk_world.proofs.Soundness.{acts_sound, act_parts, node_at}
use Rattle.hk_world.proofs.world.World.act.Goals as goal

pub returns-then-not-is_live : goal.returns-then-not-is_live
returns-then-not-is_live c =
    let w : WorldState = seen c.self.inside in
    let found : process_at c.args.id w.processes ≡ Some c.in-Some.process.now = sym c.in-Some.ensures.value in
    let same : w ≡ c.args.self.now = c.self.view_is in (
      crashed_is w c.args.self.now c.args.id c.in-Some.process.now (λ (o : WorldState) (n : NodeState). Ok (acts_for o c.args.id c.args.call n (node_step n c.args.event.now))) same found (stopped_from c.in-Some.process.now.crashed c.is_live.result c.is_live.ensures c.if-not-is_live.true),
      stays w c.args.id c.in-Some.process.now c.in-Some.process.now.node _ w.letters found refl (c.get_mut.follows.holds c.in-Some.process.now).0 refl ∙ same,
    )

pub invariant_of-self-then-not-is_live : goal.invariant_of-self-then-not-is_live
invariant_of-self-then-not-is_live c =
    let w : WorldState = seen c.self.inside in
    let found : process_at c.args.id w.processes ≡ Some c.in-Some.process.now = sym c.in-Some.ensures.value in
    (c.self.invariant.0, subst IsWorld (sym (stays w c.args.id c.in-Some.process.now c.in-Some.process.now.node _ w.letters found refl (c.get_mut.follows.holds c.in-Some.process.now).0 refl)) c.self.invariant.1)

pub returns-in_err-out : goal.returns-in_err-out
returns-in_err-out c =
    let w : WorldState = seen c.self.inside in
    let found : process_at c.args.id w.processes ≡ Some c.in-Some.process.now = sym c.in-Some.ensures.value in
    wanting c.from_residual.result _ _ _ c.from_residual.ensures.1
    (stays w c.args.id c.in-Some.process.now c.step.new.self _ w.letters found c.in_err-out.ensures.err (c.get_mut.follows.holds _).0 refl ∙ c.self.view_is)

pub invariant_of-self-in_err-out : goal.invariant_of-self-in_err-out
invariant_of-self-in_err-out c =
    let w : WorldState = seen c.self.inside in
    let found : process_at c.args.id w.processes ≡ Some c.in-Some.process.now = sym c.in-Some.ensures.value in
    (c.self.invariant.0, subst IsWorld (sym (stays w c.args.id c.in-Some.process.now c.step.new.self _ w.letters found c.in_err-out.ensures.err (c.get_mut.follows.holds _).0 refl)) c.self.invariant.1)

pub post-requires : goal.post-requires
post-requires c =
    let w : WorldState = seen c.self.inside in
    let found : process_at c.args.id w.processes ≡ Some c.in-Some.process.now = sym c.in-Some.ensures.value in
    let told = c.in_ok-out.ensures.out in
    record {
      rising = told.changed.rising;
      there = subst (λ (n : NodeState). AllByRecursion (λ (f : PriorRow). IsSome (find_row f.key n.rows)) c.in_ok-out.out.report.rows) (sym c.in_ok-out.ensures.node) told.changed.there;
      node = subst IsNode (sym (taken_back c.in_ok-out.out _ _ c.step.new.self _ told c.in_ok-out.ensures.node refl)) (node_at w c.args.id c.in-Some.process.now c.self.invariant.1 found);
    }

pub returns-in_err-shown : goal.returns-in_err-shown
returns-in_err-shown c =
    let w : WorldState = seen c.self.inside in
    let found : process_at c.args.id w.processes ≡ Some c.in-Some.process.now = sym c.in-Some.ensures.value in
    let back = taken_back c.in_ok-out.out _ _ c.step.new.self c.post.new.node c.in_ok-out.ensures.out c.in_ok-out.ensures.node c.in_err-shown.ensures.undone in
    wanting c.from_residual-in_err-shown.result _ _ _ c.from_residual-in_err-shown.ensures.1
    (stays w c.args.id c.in-Some.process.now c.post.new.node _ _ found back (c.get_mut.follows.holds _).0 c.in_err-shown.ensures.unsent ∙ c.self.view_is)

pub invariant_of-self-in_err-shown : goal.invariant_of-self-in_err-shown
invariant_of-self-in_err-shown c =
    let w : WorldState = seen c.self.inside in
    let found : process_at c.args.id w.processes ≡ Some c.in-Some.process.now = sym c.in-Some.ensures.value in
    let back = taken_back c.in_ok-out.out _ _ c.step.new.self c.post.new.node c.in_ok-out.ensures.out c.in_ok-out.ensures.node c.in_err-shown.ensures.undone in
    (c.self.invariant.0, subst IsWorld (sym (stays w c.args.id c.in-Some.process.now c.post.new.node _ _ found back (c.get_mut.follows.holds _).0 c.in_err-shown.ensures.unsent)) c.self.invariant.1)

pub returns : goal.returns
returns c =
    let w : WorldState = seen c.self.inside in
    let p = c.in-Some.process.now in
    let entries = (c.get_mut.follows.lender (record { node = c.post.new.node; crashed = p.crashed })).entries in
    let went : Went w c.args.event.now c.args.id p c.in_ok-out.out c.step.new.self c.post.new.node entries c.post.new.letters.items c.args.call c.in_ok-shown.shown = record {
      found = sym c.in-Some.ensures.value;
      live_now = running_from p.crashed c.is_live.result c.is_live.ensures c.if-not-is_live.false;
      sorted = c.self.invariant.1.ordered;
      told = c.in_ok-out.ensures.out;
      made = c.in_ok-out.ensures.node;
      kept = c.in_ok-shown.ensures.node;
      put = (c.get_mut.follows.holds _).0;
      sent = c.in_ok-shown.ensures.letters;
      shows = c.in_ok-shown.ensures.shown;
    } in
    went_answer w c.args.event.now c.args.id p c.in_ok-out.out c.step.new.self c.post.new.node entries c.post.new.letters.items c.args.call c.in_ok-shown.shown went c.args.self.now c.self.view_is

pub invariant_of-self-2 : goal.invariant_of-self-2
invariant_of-self-2 c =
    let w : WorldState = seen c.self.inside in
    let p = c.in-Some.process.now in
    let entries = (c.get_mut.follows.lender (record { node = c.post.new.node; crashed = p.crashed })).entries in
    let went : Went w c.args.event.now c.args.id p c.in_ok-out.out c.step.new.self c.post.new.node entries c.post.new.letters.items c.args.call c.in_ok-shown.shown = record {
      found = sym c.in-Some.ensures.value;
      live_now = running_from p.crashed c.is_live.result c.is_live.ensures c.if-not-is_live.false;
      sorted = c.self.invariant.1.ordered;
      told = c.in_ok-out.ensures.out;
      made = c.in_ok-out.ensures.node;
      kept = c.in_ok-shown.ensures.node;
      put = (c.get_mut.follows.holds _).0;
      sent = c.in_ok-shown.ensures.letters;
      shows = c.in_ok-shown.ensures.shown;
    } in (
      c.self.invariant.0,
      subst IsWorld (sym (went_world w c.args.event.now c.args.id p c.in_ok-out.out c.step.new.self c.post.new.node entries c.post.new.letters.items c.args.call c.in_ok-shown.shown went))
          (acts_sound (c.steps_keep_nodes.ensures.node, c.steps_keep_nodes.ensures.letters) w c.self.invariant.1 c.args.id p c.args.event.now (sym c.in-Some.ensures.value)
          (running_from p.crashed c.is_live.result c.is_live.ensures c.if-not-is_live.false) (act_parts c.args.event.now c.requires).0 (act_parts c.args.event.now c.requires).1 w.calls),
    )
