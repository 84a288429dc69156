use Rattle.std.proofs.Common.{List}
use Rattle.std.specs.List.{AllByRecursion}
use Rattle.hk_base.specs.declared.letter.Actor.{Actor}
use Rattle.hk_link.specs.Ends.{End}
use Rattle.hk_durable.specs.Batches.{IsUnsaid}
use Rattle.hk_durable.specs.Turns.{AllAreSent}
use Rattle.hk_durable.proofs.post.send_unsaid.Given as goal

-- what the rest makes of the outlets, all make of them
abbrev pub invariant-loop-shard : goal.invariant-loop-shard
invariant-loop-shard g l =
    AllByRecursion IsUnsaid l.shard-iterator.rest.items × ((after : List (Actor × End)) → AllAreSent l.shard-iterator.rest.items l.outlets.items after → AllAreSent l.fn.unsaid.items l.fn.outlets.items after)
