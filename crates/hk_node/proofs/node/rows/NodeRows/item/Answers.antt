use Rattle.std.proofs.Common.{◌∙◌, Some, None, sym, ap}
use Rattle.hk_node.proofs.Finishing.{found_now}
use Rattle.hk_node.proofs.Copied.{item_made, not_there}
use Rattle.hk_node.proofs.node.rows.NodeRows.item.Goals as goal

pub unreachable-requires : goal.unreachable-requires
unreachable-requires c = not_there c.args.key.now c.args.self.now.rows c.requires.there (found_now _ c.args.self.now c.args.key.now None c.self.view_is c.in_default.ensures.value)

pub returns : goal.returns
returns c = record {
  same = item_made c.args.key.now c.args.self.now.rows c.get-row.result.now c.in_ok-key.key c.is_valid.result c.in_ok-content.content
      (found_now _ c.args.self.now c.args.key.now _ c.self.view_is c.in-Some.ensures.value ∙ ap Some (sym c.get-row.ensures)) c.in_ok-key.ensures c.is_valid.ensures c.in_ok-content.ensures;
}
