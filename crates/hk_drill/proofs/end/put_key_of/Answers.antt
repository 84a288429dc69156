use Rattle.std.proofs.Common.{rules, ◌≡◌}
use Rattle.hk_safety.specs.Run.{history, printed}
use Rattle.hk_drill.proofs.Marking.{told_key_of}
use Rattle.hk_drill.proofs.end.put_key_of.Goals as goal

pub returns : goal.returns
returns c =
    let order : c.as_slice.result.now ≡ printed c.args.run.now c.args.key.now = search rules in
    told_key_of c.put_key.result c.args.key.now c.in_ok-history.history.now (history c.args.run.now c.args.key.now) c.as_slice.result.now (printed c.args.run.now c.args.key.now)
    c.args.out.now.items c.put_key.new.out.items c.in_ok-history.ensures order c.put_key.ensures
