use Rattle.std.proofs.Common.{rules, ◌≡◌, Some}
use Rattle.hk_restore.proofs.Answering.{stepped_is}
use Rattle.hk_restore.proofs.records.step.Goals as goal

pub returns-in-Ok : goal.returns-in-Ok
returns-in-Ok c =
    let there : c.args.group.now ≡ Some c.in-Some.group = search rules in
    stepped_is c.args.at c.args.entry.now c.args.group.now c.in-Some.group c.step_in.new.group there c.if-not-group.false c.in-Ok.ensures.made c.step_in.ensures.rest
