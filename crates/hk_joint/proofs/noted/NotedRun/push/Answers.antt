use Rattle.hk_joint.proofs.Notes.{noted_on}
use Rattle.hk_joint.proofs.noted.NotedRun.push.Goals as goal

pub invariant_of-self : goal.invariant_of-self
invariant_of-self c =
    noted_on c.self.inside.batching c.note_in.new.batching c.self.inside.run c.push.new.self c.args.event.now c.in-Ok.shown c.self.invariant c.in-Ok.ensures c.note_in.ensures
