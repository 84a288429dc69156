use Rattle.hk_safety.proofs.Covering.{nothing_seen, one_seen, all_seen}
use Rattle.hk_safety.proofs.cover.cover_open.Goals as goal

pub loop-turn-init : goal.loop-turn-init
loop-turn-init c = nothing_seen c.args.view.now c.args.cover c.args.keys.now.entries c.args.node.now

pub returns-in_default : goal.returns-in_default
returns-in_default c =
    all_seen c.args.view.now c.args.cover c.args.keys.now.entries c.loop-turn.keys.entries c.args.node.now c.args.moved _ c.loop-turn.invariant c.in_default.ensures

pub loop-turn-preserved : goal.loop-turn-preserved
loop-turn-preserved c =
    one_seen c.args.view.now c.args.cover c.args.keys.now.entries c.loop-turn.keys.entries c.cover_row.new.keys.entries c.args.node.now _ c.in-Some.key.now
    c.requires c.loop-turn.invariant c.in-Some.ensures c.in_ok-cover_row.ensures
