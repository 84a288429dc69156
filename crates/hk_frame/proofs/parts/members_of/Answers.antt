use Rattle.std.proofs.Common.{◌≡◌, ◌++◌, ◌∷◌, [], rules}
use Rattle.std.proofs.lemmas.Result.{err_from_is_err_and}
use Rattle.hk_frame.specs.Reading.{members_of}
use Rattle.hk_frame.proofs.Loops.{members_go_on, members_stop, members_done}
use Rattle.hk_frame.proofs.parts.members_of.Goals as goal

pub returns-in_err-member : goal.returns-in_err-member
returns-in_err-member c =
    let p = err_from_is_err_and c.from_residual.result c.from_residual.ensures.1 in
    rw (p.1, p.2) (members_stop c.in_err-member.field-0.0 c.loop.members c.args.next c.loop.least c.args.count c.loop.counter c.loop.rest.now (members_of c.args.next 0 c.args.count c.args.bytes.now) c.loop-test.true c.in_err-member.ensures.exact c.loop.invariant)

pub loop-preserved : goal.loop-preserved
loop-preserved c =
    let e : c.push.new.self ≡ c.loop.members ++ record { 0 = c.in_ok-member.member } ∷ [] = search rules in
    let l : c.from-least.result ≡ c.in_ok-member.member = search rules in
    rw (e, l) (members_go_on c.loop.members c.args.next c.loop.least c.args.count c.loop.counter c.loop.rest.now c.in_ok-member.member c.in_ok-member.after.now (members_of c.args.next 0 c.args.count c.args.bytes.now) c.loop-test.true c.in_ok-member.ensures.exact c.loop.invariant)

pub returns : goal.returns
returns c = members_done c.loop.members c.args.next c.loop.least c.args.count c.loop.counter c.loop.rest.now (members_of c.args.next 0 c.args.count c.args.bytes.now) c.loop-test.false c.loop.invariant
