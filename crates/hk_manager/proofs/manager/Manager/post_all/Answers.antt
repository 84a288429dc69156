use Rattle.hk_manager.proofs.Posts.{all_step}
use Rattle.hk_manager.proofs.manager.Manager.post_all.Goals as goal

pub loop-to-preserved : goal.loop-to-preserved
loop-to-preserved c = all_step c.args.self.now c.args.epoch c.args.body.now c.in_ok-body.body c.loop-to.to c.loop-to.letters c.post.new.letters c.in_ok-body.ensures c.loop-to.invariant c.in_ok-post.ensures
