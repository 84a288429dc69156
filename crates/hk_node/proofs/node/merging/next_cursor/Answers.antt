use Rattle.std.proofs.Common.{rules}
use Rattle.hk_node.proofs.Merged.{cursor_is}
use Rattle.hk_node.proofs.node.merging.next_cursor.Goals as goal

pub returns-in_ok-key-in-Some : goal.returns-in_ok-key-in-Some
returns-in_ok-key-in-Some c = cursor_is c.args.items.now c.in-Some.item.now c.in_ok-key-in-Some.key c.args.cursor.now (search rules) c.in_ok-key-in-Some.ensures
