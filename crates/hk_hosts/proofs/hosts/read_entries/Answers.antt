use Rattle.std.proofs.Common.{rules}
use Rattle.hk_hosts.proofs.Entries.{more, whole, refused, refused_last}
use Rattle.hk_hosts.proofs.hosts.read_entries.Goals as goal

pub returns-in-Err : goal.returns-in-Err
returns-in-Err c =
    refused c.args.usual c.args.text.now c.loop-entry.left.now c.in-Some.entry.now c.in-Some.rest.now c.loop-entry.hosts c.add.new.hosts c.loop-entry.invariant.1 c.in-Err.fault c.in-Some.ensures.entries c.in-Err.ensures

pub loop-entry-preserved : goal.loop-entry-preserved
loop-entry-preserved c =
    let (a, is, grown) = c.in-Ok.ensures in
    (search rules, more c.args.usual c.args.text.now c.loop-entry.left.now c.in-Some.entry.now c.in-Some.rest.now c.loop-entry.hosts c.loop-entry.invariant.1 c.in-Some.ensures.entries c.add.new.hosts a is grown)

pub returns-in-Err-add : goal.returns-in-Err-add
returns-in-Err-add c =
    refused_last c.args.usual c.args.text.now c.loop-entry.left.now c.loop-entry.left.now c.loop-entry.left.now c.loop-entry.hosts c.add-2.new.hosts c.loop-entry.invariant.1 c.in-Err-add.fault c.in_default.ensures.entries c.in-Err-add.ensures

pub returns-in-Ok-add : goal.returns-in-Ok-add
returns-in-Ok-add c =
    let (a, is, grown) = c.in-Ok-add.ensures in
    whole c.args.usual c.args.text.now c.loop-entry.left.now c.loop-entry.hosts c.loop-entry.invariant.1 c.in_default.ensures.entries c.add-2.new.hosts a is grown
