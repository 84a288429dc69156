use Rattle.std.proofs.Common.{rules, ◌≡◌, Some}
use Rattle.hk_restore.proofs.Answering.{bound_is}
use Rattle.hk_restore.proofs.records.bind.Goals as goal

pub returns : goal.returns
returns c =
    let there : c.args.group.now ≡ Some c.in-Some.group = search rules in
    bound_is c.args.at c.args.actor c.args.ticket c.args.group.now c.in-Some.group c.bind_in.new.group there c.in_ok-bind_in.ensures
