use Rattle.std.proofs.Common.{sym}
use Rattle.hk_node.proofs.Again.{found_sound}
use Rattle.hk_safety.proofs.kept.row_tag.Goals as goal

pub tag-requires : goal.tag-requires
tag-requires c = (found_sound c.args.node.now c.args.key.now c.in-Some.row.now c.requires (sym c.in-Some.ensures)).within
