use Rattle.std.proofs.Common.{◌≡◌, ◌≤◌, length, refl}
use Rattle.std.specs.List.{AllByRecursion}
use Rattle.hk_base.specs.Range.{IsLetter}
use Rattle.hk_manager.specs.Sound.{IsManager}
use Rattle.hk_manager.specs.Steps.{manager_step}
use Rattle.hk_durable.proofs.Sound.{made_keeps, letters_made, first_of}
use Rattle.hk_durable.proofs.Numbers.{number_stays, lease_stays}
use Rattle.hk_durable.proofs.managers.step.Goals as goal

pub returns-clause-in_range : goal.returns-clause-in_range
returns-clause-in_range c =
    let m = c.args.manager.now in
    letters_made c.step.result m c.step.new.self (manager_step m c.args.event.now) (first_of (λ t. AllByRecursion IsLetter t.letters) (λ t. length t.letters ≤ 16) (manager_step m c.args.event.now) (c.steps_keep_managers.ensures.letters m c.args.event.now c.requires.sound c.requires.event)) c.step.ensures.made

pub returns-clause-sound : goal.returns-clause-sound
returns-clause-sound c =
    let m = c.args.manager.now in
    made_keeps IsManager c.step.result m c.step.new.self (manager_step m c.args.event.now) c.requires.sound (c.steps_keep_managers.ensures.manager m c.args.event.now c.requires.sound c.requires.event) c.step.ensures.made

pub returns-clause-number : goal.returns-clause-number
returns-clause-number c =
    let m = c.args.manager.now in
    made_keeps (λ x. x.id ≡ m.id) c.step.result m c.step.new.self (manager_step m c.args.event.now) refl (number_stays m c.args.event.now) c.step.ensures.made

pub returns-clause-leases : goal.returns-clause-leases
returns-clause-leases c =
    let m = c.args.manager.now in
    made_keeps (λ x. x.lease ≡ m.lease) c.step.result m c.step.new.self (manager_step m c.args.event.now) refl (lease_stays m c.args.event.now) c.step.ensures.made
