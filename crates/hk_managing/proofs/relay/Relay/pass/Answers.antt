use Rattle.std.proofs.Common.{◌≤◌, ◌+◌, arith}
use Rattle.hk_durable.specs.declared.post.TheConstants.{MOST_PARCELS}
use Rattle.hk_managing.proofs.Passing.{front_noted, last_noted, next_passed, on_err}
use Rattle.hk_managing.proofs.relay.Relay.pass.Goals as goal

pub returns-in_err-noted-clause-err : goal.returns-in_err-noted-clause-err
returns-in_err-noted-clause-err g c =
    let few : c.loop-taken._taken + 1 ≤ MOST_PARCELS = omega (arith, c.loop-taken-test.true) in
    on_err c.from_residual.result
    (front_noted c.args.now c.loop-taken._taken c.args.office.now c.loop-taken.office c.args.self.now.inlet c.loop-taken.self.inlet c.args.self.now.outlet c.loop-taken.self.outlet c.loop-taken.invariant c.in-Some.parcel
    c.take.new.self c.hand_on-has_room.new.outlet c.hand_on-has_room.result c.in-Some.ensures.link c.in-Some.ensures.taken c.hand_on-has_room.ensures.link c.hand_on-has_room.ensures.put few c.note-noted.new.office
    c.in_err-noted.ensures.err)

pub returns-then-not-has_room-clause-ok : goal.returns-then-not-has_room-clause-ok
returns-then-not-has_room-clause-ok g c =
    let few : c.loop-taken._taken + 1 ≤ MOST_PARCELS = omega (arith, c.loop-taken-test.true) in
    last_noted c.args.now c.loop-taken._taken c.args.office.now c.loop-taken.office c.args.self.now.inlet c.loop-taken.self.inlet c.args.self.now.outlet c.loop-taken.self.outlet c.loop-taken.invariant c.in-Some.parcel
    c.take.new.self c.hand_on-has_room.new.outlet c.hand_on-has_room.result c.in-Some.ensures.link c.in-Some.ensures.taken c.hand_on-has_room.ensures.link c.hand_on-has_room.ensures.put few c.note-noted.new.office
    c.in_ok-noted.ensures.ok

pub loop-taken-preserved : goal.loop-taken-preserved
loop-taken-preserved g c =
    next_passed c.args.now c.loop-taken._taken c.args.office.now c.loop-taken.office c.args.self.now.inlet c.loop-taken.self.inlet c.args.self.now.outlet c.loop-taken.self.outlet c.loop-taken.invariant c.in-Some.parcel
    c.take.new.self c.hand_on-has_room.new.outlet c.hand_on-has_room.result c.in-Some.ensures.link c.in-Some.ensures.taken c.hand_on-has_room.ensures.link c.hand_on-has_room.ensures.put
    c.if-not-has_room.false c.note-noted.new.office c.in_ok-noted.ensures.ok
