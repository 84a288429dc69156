use Rattle.std.proofs.Common.{rules, arith, ◌<◌, ◌≤◌, length, ap}
use Rattle.std.specs.Prelude.{Ok}
use Rattle.hk_conn.proofs.Answered.{reading_starts, reading_goes_on, reading_stops, reading_fails, reading_done, drop_item, drop_all, room_left}
use Rattle.hk_conn.proofs.answer.put_keys.Goals as goal

pub loop-key-init : goal.loop-key-init
loop-key-init g c = (search rules, reading_starts _ _ _ _ _ _)

pub loop-key-preserved : goal.loop-key-preserved
loop-key-preserved g c =
    let h = c.loop-key.invariant.1 in
    let lt : c.loop-key.key-index < length c.args.keys.now = omega arith in
    (c.loop-key.invariant.0, reading_goes_on (Ok c.in-Ok-None.field-0) _ _ _ _ (g.D.Desk.asks c.args.desk.now) (g.D.Desk.asks c.loop-key.desk) (g.D.Desk.asks c.put_key.new.desk) c.args.out.now.items c.loop-key.out.items c.put_key.new.out.items c.key-item.result c.args.keys.now c.loop-key.key-index (drop_item _ _ _ lt c.key-item.is) h (room_left c.args.out.now.items c.loop-key.out.items h.text c.len-start.result c.len.result 67108859 c.loop-key.invariant.0 (search rules) h.put) (ap Ok c.in-Ok-None.field-0-is) c.in-Ok-None.ensures)

pub returns-in-Ok-Some : goal.returns-in-Ok-Some
returns-in-Ok-Some g c =
    let h = c.loop-key.invariant.1 in
    let lt : c.loop-key.key-index < length c.args.keys.now = omega arith in
    reading_fails c.in-Ok-Some.error _ _ _ _ (g.D.Desk.asks c.args.desk.now) (g.D.Desk.asks c.loop-key.desk) (g.D.Desk.asks c.put_key.new.desk) c.args.out.now.items c.loop-key.out.items c.put_key.new.out.items c.key-item.result _ c.args.keys.now c.loop-key.key-index (drop_item _ _ _ lt c.key-item.is) h (room_left c.args.out.now.items c.loop-key.out.items h.text c.len-start.result c.len.result 67108859 c.loop-key.invariant.0 (search rules) h.put) (rw c.in-Ok-Some.field-0-is at c.in-Ok-Some.ensures)

pub returns-in-Err : goal.returns-in-Err
returns-in-Err g c =
    let h = c.loop-key.invariant.1 in
    let lt : c.loop-key.key-index < length c.args.keys.now = omega arith in
    reading_stops c.in-Err.memory _ _ _ _ (g.D.Desk.asks c.args.desk.now) (g.D.Desk.asks c.loop-key.desk) (g.D.Desk.asks c.put_key.new.desk) c.args.out.now.items c.loop-key.out.items c.put_key.new.out.items c.key-item.result _ c.args.keys.now c.loop-key.key-index (drop_item _ _ _ lt c.key-item.is) h (room_left c.args.out.now.items c.loop-key.out.items h.text c.len-start.result c.len.result 67108859 c.loop-key.invariant.0 (search rules) h.put) c.in-Err.ensures

pub returns : goal.returns
returns g c =
    let h = c.loop-key.invariant.1 in
    let le : length c.args.keys.now ≤ c.loop-key.key-index = omega arith in
    reading_done _ _ _ (g.D.Desk.asks c.args.desk.now) (g.D.Desk.asks c.loop-key.desk) _ _ c.args.keys.now c.loop-key.key-index (drop_all _ _ le) h
