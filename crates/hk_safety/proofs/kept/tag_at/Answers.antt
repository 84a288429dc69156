use Rattle.std.proofs.Common.{sym}
use Rattle.hk_effects.proofs.Rests.{node_holds}
use Rattle.hk_safety.proofs.kept.tag_at.Goals as goal

pub row_tag-requires : goal.row_tag-requires
row_tag-requires c = (node_holds c.args.world.now c.requires c.args.id.0 c.in-Some.node.now (sym c.in-Some.ensures)).1
