use Rattle.std.proofs.Common.{◌≡◌, refl}
use Rattle.hk_manager.specs.declared.event.ManagerEvent.TheVariants.{Propose}
use Rattle.hk_manager.specs.Sound.{IsManager}
use Rattle.hk_manager.specs.Steps.{proposes}
use Rattle.hk_durable.proofs.Sound.{made_keeps}
use Rattle.hk_durable.proofs.Numbers.{number_stays, lease_stays}
use Rattle.hk_durable.proofs.replay.propose.Goals as goal

pub returns-clause-number : goal.returns-clause-number
returns-clause-number c =
    let m = c.args.manager.now in
    made_keeps (λ x. x.id ≡ m.id) c.propose.result m c.propose.new.self (proposes m c.args.base c.args.change) refl (number_stays m (Propose c.args.base c.args.change)) c.propose.ensures.made

pub returns-clause-sound : goal.returns-clause-sound
returns-clause-sound c =
    let m = c.args.manager.now in
    made_keeps IsManager c.propose.result m c.propose.new.self (proposes m c.args.base c.args.change) c.requires (c.steps_keep_managers.ensures.manager m (Propose c.args.base c.args.change) c.requires tt) c.propose.ensures.made

pub returns-clause-leases : goal.returns-clause-leases
returns-clause-leases c =
    let m = c.args.manager.now in
    made_keeps (λ x. x.lease ≡ m.lease) c.propose.result m c.propose.new.self (proposes m c.args.base c.args.change) refl (lease_stays m (Propose c.args.base c.args.change)) c.propose.ensures.made
