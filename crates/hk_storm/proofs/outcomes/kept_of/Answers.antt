use Rattle.std.proofs.Common.{rules, ◌≡◌, ◌≤◌, ◌+◌, Some, length, drop}
use Rattle.hk_world.specs.World.{numbered}
use Rattle.hk_storm.proofs.Lists.{none_left}
use Rattle.hk_storm.proofs.Outcoming.{may_happen, remade_more, remade_all}
use Rattle.hk_storm.proofs.outcomes.kept_of.Goals as goal

pub remake-requires : goal.remake-requires
remake-requires c =
    let at : numbered (c.loop-before.before + 1) c.args.run.now.events ≡ Some c.in-Some.event.now = search rules in
    may_happen c.args.run.now c.loop-before.world c.loop-before.kept.entries c.loop-before.before c.in-Some.event.now at c.loop-before.invariant

pub loop-before-preserved : goal.loop-before-preserved
loop-before-preserved c =
    let at : numbered (c.loop-before.before + 1) c.args.run.now.events ≡ Some c.in-Some.event.now = search rules in
    remade_more c.args.run.now c.loop-before.world c.remake.new.world c.loop-before.kept.entries c.remake.new.kept.entries c.loop-before.before c.in-Some.event.now at c.loop-before.invariant c.in_ok-remake.ensures.world c.in_ok-remake.ensures.kept

pub returns : goal.returns
returns c =
    let past : length c.args.run.now.events ≤ c.loop-before.before = search rules in
    remade_all c.args.run.now c.loop-before.world c.loop-before.kept.entries (drop c.loop-before.before c.args.run.now.events) (none_left c.args.run.now.events c.loop-before.before past) c.loop-before.invariant
