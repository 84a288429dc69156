use Rattle.std.proofs.Common.{◌≡◌, refl}
use Rattle.hk_manager.specs.declared.event.ManagerEvent.TheVariants.{Receive}
use Rattle.hk_manager.specs.Sound.{IsManager}
use Rattle.hk_manager.specs.Steps.{receives}
use Rattle.hk_durable.proofs.Sound.{taken_keeps}
use Rattle.hk_durable.proofs.Numbers.{number_stays, lease_stays}
use Rattle.hk_durable.proofs.replay.take.Goals as goal

pub returns-clause-number : goal.returns-clause-number
returns-clause-number c =
    let m = c.args.manager.now in
    taken_keeps (λ x. x.id ≡ m.id) c.receive.result m c.receive.new.self (receives m c.args.letter.now) refl (number_stays m (Receive c.args.letter.now)) c.receive.ensures.made

pub returns-clause-sound : goal.returns-clause-sound
returns-clause-sound c =
    let m = c.args.manager.now in
    taken_keeps IsManager c.receive.result m c.receive.new.self (receives m c.args.letter.now) c.requires.sound (c.steps_keep_managers.ensures.manager m (Receive c.args.letter.now) c.requires.sound c.requires.letter) c.receive.ensures.made

pub returns-clause-leases : goal.returns-clause-leases
returns-clause-leases c =
    let m = c.args.manager.now in
    taken_keeps (λ x. x.lease ≡ m.lease) c.receive.result m c.receive.new.self (receives m c.args.letter.now) refl (lease_stays m (Receive c.args.letter.now)) c.receive.ensures.made
