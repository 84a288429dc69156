use Rattle.std.proofs.Common.{◌≡◌, ℕ, Some, Ok, false, [], refl, sym, ap, subst, ◌∙◌, List, slice_set, arith}
use Rattle.hk_manager.specs.Manager.{ManagerState}
use Rattle.hk_manager.specs.Steps.{manager_step}
use Rattle.hk_manager.specs.Outs.{made}
use Rattle.hk_manager.specs.Sound.{IsManager}
use Rattle.hk_world.specs.declared.process.ManagerProcess.{ManagerProcess}
use Rattle.hk_world.specs.World.{WorldState, manager_at, put_manager}
use Rattle.hk_world.specs.Steps.{manager_acts}
use Rattle.hk_world.specs.Sound.{IsWorld}
use Rattle.hk_world.proofs.Inside.{seen}
use Rattle.hk_world.proofs.Managing.{get_found, set_back}
use Rattle.hk_world.proofs.Soundness.{by_manager_laws, manager_act_parts, manager_step_world}
use Rattle.hk_world.proofs.Answering.{wanting}
use Rattle.hk_world.proofs.Timed.{back, manager_kept, manager_refuses, manager_crashed_is, manager_put, manages_at, manages_is, manages_made}
use Rattle.hk_world.proofs.world.World.manage.Goals as goal

abbrev process_with : ManagerProcess → ManagerState → ManagerProcess
process_with p m = record p { manager = m }

pub returns-then-process : goal.returns-then-process
returns-then-process c =
    let w : WorldState = seen c.self.inside in
    let p = c.in-Some.process.now in
    let found : manager_at c.args.manager w.managers ≡ Some p = ap (λ (k : ℕ). manager_at k w.managers) (sym c.from.ensures) ∙ get_found c.from.result w.managers p (omega (arith, c.in-Some.ensures.variant.0 refl, c.self.inside.managers.ok.0)) (sym c.in-Some.ensures.value) in
    let kept : slice_set w.managers c.from.result p ≡ w.managers = ap (λ (k : ℕ). slice_set w.managers k p) c.from.ensures ∙ set_back c.args.manager p w.managers found in (
      manager_crashed_is w c.args.self.now c.args.manager p (λ (o : WorldState) (manager : ManagerState). manager_acts o c.args.manager (manager_step manager c.args.event.now)) c.self.view_is found c.if-process.true,
      back w w.processes _ w.paces w.letters w.views refl kept refl refl refl ∙ c.self.view_is,
    )

pub invariant_of-self-in_err-out : goal.invariant_of-self-in_err-out
invariant_of-self-in_err-out c =
    let w : WorldState = seen c.self.inside in
    let p = c.in-Some.process.now in
    let found : manager_at c.args.manager w.managers ≡ Some p = ap (λ (k : ℕ). manager_at k w.managers) (sym c.from.ensures) ∙ get_found c.from.result w.managers p (omega (arith, c.in-Some.ensures.variant.0 refl, c.self.inside.managers.ok.0)) (sym c.in-Some.ensures.value) in
    let kept : slice_set w.managers c.from.result p ≡ w.managers = ap (λ (k : ℕ). slice_set w.managers k p) c.from.ensures ∙ set_back c.args.manager p w.managers found in
    let still : c.step.new.self ≡ p.manager = manager_kept c.in_err-out.field-0.0 p.manager c.step.new.self _ c.in_err-out.ensures.made in
    (c.self.invariant.0, subst IsWorld (sym (back w w.processes _ w.paces w.letters w.views refl (ap (λ (m : ManagerState). slice_set w.managers c.from.result (process_with p m)) still ∙ kept) refl refl refl)) c.self.invariant.1)

pub returns-in_err-out : goal.returns-in_err-out
returns-in_err-out c =
    let w : WorldState = seen c.self.inside in
    let p = c.in-Some.process.now in
    let found : manager_at c.args.manager w.managers ≡ Some p = ap (λ (k : ℕ). manager_at k w.managers) (sym c.from.ensures) ∙ get_found c.from.result w.managers p (omega (arith, c.in-Some.ensures.variant.0 refl, c.self.inside.managers.ok.0)) (sym c.in-Some.ensures.value) in
    let kept : slice_set w.managers c.from.result p ≡ w.managers = ap (λ (k : ℕ). slice_set w.managers k p) c.from.ensures ∙ set_back c.args.manager p w.managers found in
    let still : c.step.new.self ≡ p.manager = manager_kept c.in_err-out.field-0.0 p.manager c.step.new.self _ c.in_err-out.ensures.made in
    manager_refuses c.from_residual.result c.in_err-out.field-0.0 w c.args.self.now _ c.args.manager p.manager c.step.new.self (manager_step p.manager c.args.event.now) _ c.from_residual.ensures.1 c.in_err-out.ensures.made
    (manages_at w c.args.self.now c.args.manager p c.args.event.now c.self.view_is found c.if-process.false)
    (back w w.processes _ w.paces w.letters w.views refl (ap (λ (m : ManagerState). slice_set w.managers c.from.result (process_with p m)) still ∙ kept) refl refl refl ∙ c.self.view_is)

pub post_of_manager-requires-clause-there : goal.post_of_manager-requires-clause-there
post_of_manager-requires-clause-there c = c.in_ok-out.ensures.replaced.there

pub post_of_manager-requires-clause-before : goal.post_of_manager-requires-clause-before
post_of_manager-requires-clause-before c =
    let w : WorldState = seen c.self.inside in
    let p = c.in-Some.process.now in
    let found : manager_at c.args.manager w.managers ≡ Some p = ap (λ (k : ℕ). manager_at k w.managers) (sym c.from.ensures) ∙ get_found c.from.result w.managers p (omega (arith, c.in-Some.ensures.variant.0 refl, c.self.inside.managers.ok.0)) (sym c.in-Some.ensures.value) in
    subst IsManager (sym c.in_ok-out.ensures.replaced.back) (c.self.invariant.1.managers c.args.manager p found).manager

pub returns-in_err-shown : goal.returns-in_err-shown
returns-in_err-shown c =
    let w : WorldState = seen c.self.inside in
    let p = c.in-Some.process.now in
    let found : manager_at c.args.manager w.managers ≡ Some p = ap (λ (k : ℕ). manager_at k w.managers) (sym c.from.ensures) ∙ get_found c.from.result w.managers p (omega (arith, c.in-Some.ensures.variant.0 refl, c.self.inside.managers.ok.0)) (sym c.in-Some.ensures.value) in
    let kept : slice_set w.managers c.from.result p ≡ w.managers = ap (λ (k : ℕ). slice_set w.managers k p) c.from.ensures ∙ set_back c.args.manager p w.managers found in
    let still : c.post_of_manager.new.manager ≡ p.manager = c.in_err-shown.ensures.undone ∙ c.in_ok-out.ensures.replaced.back in
    wanting c.from_residual-in_err-shown.result _ _ _ c.from_residual-in_err-shown.ensures.1
    (back w w.processes _ w.paces _ _ refl (ap (λ (m : ManagerState). slice_set w.managers c.from.result (process_with p m)) still ∙ kept) refl c.in_err-shown.ensures.unsent c.in_err-shown.ensures.unlearned ∙ c.self.view_is)

pub invariant_of-self-in_err-shown : goal.invariant_of-self-in_err-shown
invariant_of-self-in_err-shown c =
    let w : WorldState = seen c.self.inside in
    let p = c.in-Some.process.now in
    let found : manager_at c.args.manager w.managers ≡ Some p = ap (λ (k : ℕ). manager_at k w.managers) (sym c.from.ensures) ∙ get_found c.from.result w.managers p (omega (arith, c.in-Some.ensures.variant.0 refl, c.self.inside.managers.ok.0)) (sym c.in-Some.ensures.value) in
    let kept : slice_set w.managers c.from.result p ≡ w.managers = ap (λ (k : ℕ). slice_set w.managers k p) c.from.ensures ∙ set_back c.args.manager p w.managers found in
    let still : c.post_of_manager.new.manager ≡ p.manager = c.in_err-shown.ensures.undone ∙ c.in_ok-out.ensures.replaced.back in
    (c.self.invariant.0, subst IsWorld (sym (back w w.processes _ w.paces _ _ refl (ap (λ (m : ManagerState). slice_set w.managers c.from.result (process_with p m)) still ∙ kept) refl c.in_err-shown.ensures.unsent c.in_err-shown.ensures.unlearned)) c.self.invariant.1)

pub invariant_of-self-2 : goal.invariant_of-self-2
invariant_of-self-2 c =
    let w : WorldState = seen c.self.inside in
    let p = c.in-Some.process.now in
    let found : manager_at c.args.manager w.managers ≡ Some p = ap (λ (k : ℕ). manager_at k w.managers) (sym c.from.ensures) ∙ get_found c.from.result w.managers p (omega (arith, c.in-Some.ensures.variant.0 refl, c.self.inside.managers.ok.0)) (sym c.in-Some.ensures.value) in
    let mid : ManagerState = c.step.new.self in
    let act = manager_act_parts c.args.event.now c.requires in
    let put : slice_set w.managers c.from.result (record { manager = c.post_of_manager.new.manager; crashed = p.crashed }) ≡ put_manager c.args.manager (record { manager = mid; crashed = false }) w.managers =
    manager_put c.args.manager c.from.result p w.managers _ c.post_of_manager.new.manager mid c.from.ensures c.if-process.false c.in_ok-shown.ensures.manager refl in (
      c.self.invariant.0,
      subst IsWorld (manages_made w c.args.manager mid c.in_ok-out.out _ _ _ put c.in_ok-shown.ensures.letters c.in_ok-shown.ensures.views)
          (manager_step_world w c.args.manager p (made mid c.in_ok-out.out) c.self.invariant.1 found c.if-process.false
          (by_manager_laws (c.steps_keep_managers.ensures.manager, c.steps_keep_managers.ensures.letters) p.manager c.args.event.now (c.self.invariant.1.managers c.args.manager p found).manager act.0 act.1 (made mid c.in_ok-out.out) (sym c.in_ok-out.ensures.made))),
    )

pub returns : goal.returns
returns c =
    let w : WorldState = seen c.self.inside in
    let p = c.in-Some.process.now in
    let found : manager_at c.args.manager w.managers ≡ Some p = ap (λ (k : ℕ). manager_at k w.managers) (sym c.from.ensures) ∙ get_found c.from.result w.managers p (omega (arith, c.in-Some.ensures.variant.0 refl, c.self.inside.managers.ok.0)) (sym c.in-Some.ensures.value) in
    let mid : ManagerState = c.step.new.self in
    let put : slice_set w.managers c.from.result (record { manager = c.post_of_manager.new.manager; crashed = p.crashed }) ≡ put_manager c.args.manager (record { manager = mid; crashed = false }) w.managers =
    manager_put c.args.manager c.from.result p w.managers _ c.post_of_manager.new.manager mid c.from.ensures c.if-process.false c.in_ok-shown.ensures.manager refl in (
      [],
      manages_is w c.args.self.now c.args.manager p c.args.event.now mid c.in_ok-out.out _ _ _ c.in_ok-shown.shown c.self.view_is found c.if-process.false c.in_ok-out.ensures.made put c.in_ok-shown.ensures.letters
          c.in_ok-shown.ensures.views c.in_ok-shown.ensures.shown,
    )
