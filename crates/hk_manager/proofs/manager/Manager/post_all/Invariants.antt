use Rattle.std.proofs.Common.{◌≡◌}
use Rattle.hk_manager.proofs.Posts.{to_first}
use Rattle.hk_manager.proofs.manager.Manager.post_all.Given as goal

-- the letters so far go to the managers so far
abbrev pub invariant-loop-to : goal.invariant-loop-to
invariant-loop-to l = l.letters ≡ to_first l.self l.epoch l.body l.to
