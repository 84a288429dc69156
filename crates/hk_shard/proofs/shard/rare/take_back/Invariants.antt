use Rattle.hk_node.specs.Node.{NodeState}
use Rattle.hk_shard.specs.Replaced.{AreReplaced}
use Rattle.hk_shard.proofs.shard.rare.take_back.Given as goal

abbrev pub invariant-loop-last : goal.invariant-loop-last
invariant-loop-last l =
    ((first : NodeState) × AreReplaced first l.replaced.items l.node)
    × ((first : NodeState) → AreReplaced first l.fn.replaced.items l.fn.node → AreReplaced first l.replaced.items l.node)

abbrev pub decreases-loop-last : goal.decreases-loop-last
decreases-loop-last l = goal.left-loop-last l
