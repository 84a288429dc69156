use Rattle.std.proofs.Common.{rules, ◌≡◌, ◌∷◌}
use Rattle.hk_turns.proofs.Making.{in_range, out_more}
use Rattle.hk_turns.proofs.turning.put_all.Goals as goal

pub loop-letter-preserved : goal.loop-letter-preserved
loop-letter-preserved g c =
    let steps : c.loop-letter.letter-iterator.rest.items ≡ c.in-Some.letter ∷ c.next.new.self.rest.items = search rules in (
      in_range c.in-Some.letter c.loop-letter.letter-iterator.rest.items c.next.new.self.rest.items steps c.loop-letter.invariant.0,
      λ after more. c.loop-letter.invariant.1 after (out_more g.G.Gate.answers c.args.shard c.in-Some.letter c.loop-letter.letter-iterator.rest.items c.next.new.self.rest.items
          (record { gate = c.loop-letter.gate; outlets = c.loop-letter.outlets.items }) (record { gate = c.put.new.gate; outlets = c.put.new.outlets.items }) after steps c.put.ensures more),
    )
