use Rattle.std.specs.List.{AllByRecursion}
use Rattle.hk_base.specs.Range.{IsLetter}
use Rattle.hk_turns.specs.Turns.{Way, GoOut}
use Rattle.hk_turns.proofs.turning.put_all.Given as goal

-- however what is left goes out, all letters go out so
abbrev pub invariant-loop-letter : goal.invariant-loop-letter
invariant-loop-letter g l =
    AllByRecursion IsLetter l.letter-iterator.rest.items
    × ((after : Way _) → GoOut g.G.Gate.answers l.shard l.letter-iterator.rest.items (record { gate = l.gate; outlets = l.outlets.items }) after
    → GoOut g.G.Gate.answers l.shard l.fn.letters (record { gate = l.fn.gate; outlets = l.fn.outlets.items }) after)
