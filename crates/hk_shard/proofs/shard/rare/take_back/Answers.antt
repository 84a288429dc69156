use Rattle.std.proofs.Common.{sym, subst, ◌∙◌}
use Rattle.hk_node.specs.Sound.{IsNode}
use Rattle.hk_node.specs.Node.{NodeState}
use Rattle.hk_shard.specs.Replaced.{AreReplaced}
use Rattle.hk_shard.proofs.Undoing.{last_back}
use Rattle.hk_shard.proofs.shard.rare.take_back.Goals as goal

pub undo-requires : goal.undo-requires
undo-requires c =
    let i = c.loop-last.invariant in
    let back = last_back i.0.0 c.loop-last.node c.loop-last.replaced.items c.pop.new.self.items c.in-Some.last c.in-Some.ensures.items i.0.1 in
    record { rising = back.is.rising; there = back.is.there; node = subst IsNode (sym back.is.undone) back.is.node }

pub loop-last-preserved : goal.loop-last-preserved
loop-last-preserved c =
    let i = c.loop-last.invariant in
    let on : (first : NodeState) → AreReplaced first c.loop-last.replaced.items c.loop-last.node → AreReplaced first c.pop.new.self.items c.undo.new.self =
    λ first are.
    let back = last_back first c.loop-last.node c.loop-last.replaced.items c.pop.new.self.items c.in-Some.last c.in-Some.ensures.items are in
    subst (AreReplaced first c.pop.new.self.items) (sym (c.undo.ensures ∙ back.is.undone)) back.before in
    ((i.0.0, on i.0.0 i.0.1), λ first are. on first (i.1 first are))
