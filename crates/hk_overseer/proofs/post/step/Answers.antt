use Rattle.hk_manager.specs.declared.event.ManagerEvent.TheVariants.{Receive}
use Rattle.hk_manager.specs.Steps.{receives}
use Rattle.hk_overseer.proofs.Sound.{made_sound, made_in_range}
use Rattle.hk_overseer.proofs.post.step.Goals as goal

pub returns-clause-in_range : goal.returns-clause-in_range
returns-clause-in_range c =
    let m = c.args.manager.now in
    let laws = c.steps_keep_managers.ensures in
    made_in_range c.receive.result m c.receive.new.self (receives m c.args.letter.now) (laws.letters m (Receive c.args.letter.now) c.requires.sound c.requires.letter).0 c.receive.ensures.made

pub returns-clause-sound : goal.returns-clause-sound
returns-clause-sound c =
    let m = c.args.manager.now in
    let laws = c.steps_keep_managers.ensures in
    made_sound c.receive.result m c.receive.new.self (receives m c.args.letter.now) c.requires.sound (laws.manager m (Receive c.args.letter.now) c.requires.sound c.requires.letter) c.receive.ensures.made
