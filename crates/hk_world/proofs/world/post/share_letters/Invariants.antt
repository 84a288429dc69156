use Rattle.std.proofs.Common.{◌≡◌, take}
use Rattle.hk_world.proofs.world.post.share_letters.Given as goal

-- so far they are the letters so far
abbrev pub invariant-loop-letter : goal.invariant-loop-letter
invariant-loop-letter l = l.same ≡ take l.letter-index l.letter-items
