use Rattle.std.proofs.Common.{sym}
use Rattle.hk_effects.proofs.Rests.{node_holds}
use Rattle.hk_safety.proofs.cover.cover_event.Goals as goal

pub cover_acted-requires-clause-node : goal.cover_acted-requires-clause-node
cover_acted-requires-clause-node c = (node_holds c.args.world.now c.requires.sound c.in-Some.acted.node.0 c.in-Some-node.node.now (sym c.in-Some-node.ensures)).1
