use Rattle.std.proofs.Common.{List}
use Rattle.std.specs.List.{AllByRecursion}
use Rattle.hk_base.specs.Range.{IsLetter}
use Rattle.hk_base.specs.declared.letter.Actor.{Actor}
use Rattle.hk_link.specs.Ends.{End}
use Rattle.hk_overseer.specs.Sends.{AreSent}
use Rattle.hk_overseer.proofs.outlets.send_all.Given as goal

-- what the rest makes of the outlets, all letters make of them
abbrev pub invariant-loop-letter : goal.invariant-loop-letter
invariant-loop-letter g l =
    AllByRecursion IsLetter l.letter-iterator.rest.items
    × ((after : List (Actor × End)) → AreSent l.shard l.letter-iterator.rest.items l.outlets.items after → AreSent l.shard l.fn.letters l.fn.outlets.items after)
