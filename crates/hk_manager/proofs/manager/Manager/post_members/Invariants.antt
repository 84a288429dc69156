use Rattle.std.proofs.Common.{◌≡◌, ◌++◌, map, drop}
use Rattle.hk_base.specs.declared.letter.Actor.TheVariants.{Node}
use Rattle.hk_manager.specs.Sends.{letter_to, to_members}
use Rattle.hk_manager.proofs.manager.Manager.post_members.Given as goal

-- the letters so far and those to the members that are left are all
abbrev pub invariant-loop-member : goal.invariant-loop-member
invariant-loop-member l = l.letters ++ map (λ member. letter_to l.self l.epoch l.body (Node member)) (drop l.member-index l.member-items) ≡ to_members l.self l.epoch l.body
