use Rattle.std.proofs.Common.{◌≡◌}
use Rattle.hk_manager.proofs.Posts.{to_first_others}
use Rattle.hk_manager.proofs.manager.Manager.post_others.Given as goal

-- the letters so far go to the other managers so far
abbrev pub invariant-loop-to : goal.invariant-loop-to
invariant-loop-to l = l.letters ≡ to_first_others l.self l.epoch l.body l.to
