use Rattle.std.proofs.Common.{rules, ◌-◌, refl}
use Rattle.hk_conn.proofs.Holding.{no_stop, no_long_line, no_long_head}
use Rattle.hk_conn.proofs.Stepping.{midway_starts, midway_head, midway_said, said_less, steps_need, steps_midway, steps_held, steps_stops, parts_said, parts_now}
use Rattle.hk_conn.proofs.step.step.Goals as goal

pub loop-exchange-init : goal.loop-exchange-init
loop-exchange-init g c = midway_starts g.D.Desk.will (c.args.patience - 1) (g.D.Desk.asks c.args.desk.now) c.args.exchange.now c.requires.reader c.requires.held c.requires.full

pub returns-in-Ok-Need : goal.returns-in-Ok-Need
returns-in-Ok-Need g c = steps_need g.D.Desk.will (c.args.patience - 1) (g.D.Desk.asks c.args.desk.now) (g.D.Desk.asks c.loop-exchange.desk) c.args.exchange.now c.loop-exchange.exchange _ c.loop-exchange.invariant c.requires.full c.requires.held c.requires.unwritten (rw c.in-Ok-Need.field-0-is at c.in-Ok-Need.ensures.turns) (c.in-Ok-Need.ensures.reader (no_long_line c.in-Ok-Need.field-0 c.in-Ok-Need.field-0-is)) refl refl refl refl refl refl

pub returns-in-Err : goal.returns-in-Err
returns-in-Err g c = parts_now g.D.Desk.will (c.args.patience - 1) (g.D.Desk.asks c.args.desk.now) (g.D.Desk.asks c.loop-exchange.desk) c.args.exchange.now c.loop-exchange.exchange c.loop-exchange.invariant c.requires.full c.requires.held

pub loop-exchange-preserved-in-Ok-Head : goal.loop-exchange-preserved-in-Ok-Head
loop-exchange-preserved-in-Ok-Head g c = midway_head g.D.Desk.will (c.args.patience - 1) (g.D.Desk.asks c.args.desk.now) (g.D.Desk.asks c.loop-exchange.desk) c.args.exchange.now c.loop-exchange.exchange _ c.loop-exchange.invariant (rw c.in-Ok-Head.field-0-is at c.in-Ok-Head.ensures.turns) (c.in-Ok-Head.ensures.reader (no_long_head c.in-Ok-Head.field-0 c.in-Ok-Head.field-0-is)) refl refl refl refl refl refl

pub returns-then-is_held_up : goal.returns-then-is_held_up
returns-then-is_held_up g c = steps_held g.D.Desk.will (c.args.patience - 1) (g.D.Desk.asks c.args.desk.now) (g.D.Desk.asks c.loop-exchange.desk) c.args.exchange.now c.loop-exchange.exchange _ c.in-Ok-Says.said (rw c.in-Ok-Says.field-0-is at c.in-Ok-Says.ensures.turns) c.loop-exchange.invariant c.requires.full c.requires.held c.requires.unwritten (rw c.in-Ok-Says.field-0-is at c.in-Ok-Says.ensures.reader) (c.if-is_held_up.ensures refl) refl c.hold.ensures refl refl refl refl

pub loop-exchange-preserved : goal.loop-exchange-preserved
loop-exchange-preserved g c = midway_said g.D.Desk.will (c.args.patience - 1) (g.D.Desk.asks c.args.desk.now) (g.D.Desk.asks c.loop-exchange.desk) c.args.exchange.now c.loop-exchange.exchange _ c.in-Ok-Says.said (rw c.in-Ok-Says.field-0-is at c.in-Ok-Says.ensures.turns) (g.D.Desk.asks c.reply.new.desk) c.loop-exchange.invariant (rw c.in-Ok-None.field-0-is at c.in-Ok-None.ensures.replies) (rw c.in-Ok-Says.field-0-is at c.in-Ok-Says.ensures.reader) c.reply.ensures.waits refl refl refl refl

pub returns-then-is_full : goal.returns-then-is_full
returns-then-is_full g c =
    let r = (rw c.in-Ok-None.field-0-is at c.in-Ok-None.ensures.replies) in
    steps_midway g.D.Desk.will (c.args.patience - 1) (g.D.Desk.asks c.args.desk.now) (g.D.Desk.asks c.reply.new.desk) c.args.exchange.now c.args.exchange.now _ (midway_said g.D.Desk.will (c.args.patience - 1) (g.D.Desk.asks c.args.desk.now) (g.D.Desk.asks c.loop-exchange.desk) c.args.exchange.now c.loop-exchange.exchange _ c.in-Ok-Says.said (rw c.in-Ok-Says.field-0-is at c.in-Ok-Says.ensures.turns) (g.D.Desk.asks c.reply.new.desk) c.loop-exchange.invariant (rw c.in-Ok-None.field-0-is at c.in-Ok-None.ensures.replies) (rw c.in-Ok-Says.field-0-is at c.in-Ok-Says.ensures.reader) c.reply.ensures.waits refl refl refl refl) c.requires.full c.requires.held c.requires.unwritten (said_less g.D.Desk.will (c.args.patience - 1) (g.D.Desk.asks c.args.desk.now) (g.D.Desk.asks c.loop-exchange.desk) c.args.exchange.now c.loop-exchange.exchange (record c.loop-exchange.exchange { reader = c.turn.new.self }) c.in-Ok-Says.said (rw c.in-Ok-Says.field-0-is at c.in-Ok-Says.ensures.turns) c.loop-exchange.invariant (no_stop c.in-Ok-Says.said r.0))

pub returns-then-more-eq0 : goal.returns-then-more-eq0
returns-then-more-eq0 g c =
    let r = (rw c.in-Ok-None.field-0-is at c.in-Ok-None.ensures.replies) in
    steps_midway g.D.Desk.will (c.args.patience - 1) (g.D.Desk.asks c.args.desk.now) (g.D.Desk.asks c.reply.new.desk) c.args.exchange.now c.args.exchange.now _ (midway_said g.D.Desk.will (c.args.patience - 1) (g.D.Desk.asks c.args.desk.now) (g.D.Desk.asks c.loop-exchange.desk) c.args.exchange.now c.loop-exchange.exchange _ c.in-Ok-Says.said (rw c.in-Ok-Says.field-0-is at c.in-Ok-Says.ensures.turns) (g.D.Desk.asks c.reply.new.desk) c.loop-exchange.invariant (rw c.in-Ok-None.field-0-is at c.in-Ok-None.ensures.replies) (rw c.in-Ok-Says.field-0-is at c.in-Ok-Says.ensures.reader) c.reply.ensures.waits refl refl refl refl) c.requires.full c.requires.held c.requires.unwritten (said_less g.D.Desk.will (c.args.patience - 1) (g.D.Desk.asks c.args.desk.now) (g.D.Desk.asks c.loop-exchange.desk) c.args.exchange.now c.loop-exchange.exchange (record c.loop-exchange.exchange { reader = c.turn.new.self }) c.in-Ok-Says.said (rw c.in-Ok-Says.field-0-is at c.in-Ok-Says.ensures.turns) c.loop-exchange.invariant (no_stop c.in-Ok-Says.said r.0))

pub returns-in-Ok-Some : goal.returns-in-Ok-Some
returns-in-Ok-Some g c = steps_stops g.D.Desk.will (c.args.patience - 1) (g.D.Desk.asks c.args.desk.now) (g.D.Desk.asks c.loop-exchange.desk) c.args.exchange.now c.loop-exchange.exchange _ c.in-Ok-Says.said (rw c.in-Ok-Says.field-0-is at c.in-Ok-Says.ensures.turns) (g.D.Desk.asks c.reply.new.desk) c.in-Ok-Some.stop c.loop-exchange.invariant c.requires.full c.requires.held c.requires.unwritten (rw c.in-Ok-Some.field-0-is at c.in-Ok-Some.ensures.replies) c.reply.ensures.waits refl refl refl refl

pub returns-in-Err-reply : goal.returns-in-Err-reply
returns-in-Err-reply g c = parts_said g.D.Desk.will (c.args.patience - 1) (g.D.Desk.asks c.args.desk.now) (g.D.Desk.asks c.loop-exchange.desk) c.args.exchange.now c.loop-exchange.exchange (record c.loop-exchange.exchange { reader = c.turn.new.self }) c.in-Ok-Says.said (rw c.in-Ok-Says.field-0-is at c.in-Ok-Says.ensures.turns) (g.D.Desk.asks c.reply.new.desk) c.in-Err-reply.memory c.reply.new.out.items c.reply.new.updates.items c.loop-exchange.invariant c.requires.full c.requires.held c.in-Err-reply.ensures.replies
