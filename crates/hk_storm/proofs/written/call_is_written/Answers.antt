use Rattle.std.proofs.Common.{rules, ◌<◌, ◌^◌}
use Rattle.hk_storm.proofs.written.call_is_written.Goals as goal

pub returns : goal.returns
returns c =
    let node : c.args.call.now.node.0 < 2 ^ 16 = search rules in
    (node, c.key_is_written.ensures, c.op_is_written.ensures)
