use Rattle.std.proofs.Common.{◌∙◌, arith}
use Rattle.std.specs.Arc.{arc_value}
use Rattle.hk_worker.proofs.Freely.{looked_at, same_readers}
use Rattle.hk_worker.proofs.Judged.{given_at_post}
use Rattle.hk_worker.proofs.post.Post.give.Goals as goal

pub returns-clause-looked : goal.returns-clause-looked
returns-clause-looked g c =
    let at = c.from-shard.ensures ∙ c.shard_of.ensures.shard in
    looked_at c.args.key.now
    (record {
      node = (arc_value c.self.inside.shards).node;
      lease = (arc_value c.self.inside.shards).lease;
      number = c.self.inside.number;
      asks = c.self.inside.asks;
      ticked = c.self.inside.ticked;
      readers = c.self.inside.readers.items;
      worker = c.self.inside.worker;
      outlets = c.self.inside.outlets.items;
    }) c.args.self.now c.from-shard.result c.index_mut.result.now
    c.give.new.reader c.self.view_is at (omega (arith, c.from-shard.ensures, c.shard_of.ensures.below)) c.self.invariant c.index_mut.ensures.value (c.give.ensures.grown c.args.key.now)

pub returns-clause-given : goal.returns-clause-given
returns-clause-given g c =
    let at = c.from-shard.ensures ∙ c.shard_of.ensures.shard in
    given_at_post (g.C.DeskClock.was_read c.args.clock.now) c.args.key.now
    (record {
      node = (arc_value c.self.inside.shards).node;
      lease = (arc_value c.self.inside.shards).lease;
      number = c.self.inside.number;
      asks = c.self.inside.asks;
      ticked = c.self.inside.ticked;
      readers = c.self.inside.readers.items;
      worker = c.self.inside.worker;
      outlets = c.self.inside.outlets.items;
    }) c.args.self.now c.from-shard.result c.index_mut.result.now
    c.give.new.reader c.args.answer c.give.result c.self.view_is at (omega (arith, c.from-shard.ensures, c.shard_of.ensures.below)) c.self.invariant c.index_mut.ensures.value c.give.ensures.given

pub invariant_of-self : goal.invariant_of-self
invariant_of-self g c =
    let grown = c.give.ensures.grown c.args.key.now in
    same_readers (arc_value c.self.inside.shards).node c.self.inside.readers.items c.from-shard.result c.index_mut.result.now c.give.new.reader c.self.invariant
    (omega (arith, c.from-shard.ensures, c.shard_of.ensures.below)) c.index_mut.ensures.value grown.same.node grown.same.number
