use Rattle.std.proofs.Common.{rules, ◌≡◌, ◌<◌, ◌≤◌, ◌+◌, length, get_or}
use Rattle.hk_storm.proofs.Comparing.{next_one, first_one, told_unlike, told_none, all_compared}
use Rattle.hk_storm.proofs.compare.compare.Goals as goal

pub returns-in-Some : goal.returns-in-Some
returns-in-Some c =
    let drawn = c.args.drawn.now in
    let made = c.args.made.now in
    let place = c.loop-place.place in
    let call = c.index-drawn-place.result in
    let within : c.loop-place.place < length c.args.drawn.now = search rules in
    let is : c.index-drawn-place.result ≡ get_or c.args.drawn.now c.loop-place.place c.index-drawn-place.result = search rules in
    first_one drawn made place call c.in-Some.unlike within is c.loop-place.invariant
    (told_unlike drawn made (place + 1) call c.in_ok-unlike.field-0 c.in-Some.unlike c.in-Some.is (c.in_ok-unlike.ensures drawn made c.in_ok-drawn_tally.ensures c.in_ok-made_tally.ensures))

pub loop-place-preserved : goal.loop-place-preserved
loop-place-preserved c =
    let drawn = c.args.drawn.now in
    let made = c.args.made.now in
    let place = c.loop-place.place in
    let call = c.index-drawn-place.result in
    let within : c.loop-place.place < length c.args.drawn.now = search rules in
    let is : c.index-drawn-place.result ≡ get_or c.args.drawn.now c.loop-place.place c.index-drawn-place.result = search rules in
    next_one drawn made place call within is c.loop-place.invariant
    (told_none drawn made (place + 1) call c.in_ok-unlike.field-0 c.in-None.is (c.in_ok-unlike.ensures drawn made c.in_ok-drawn_tally.ensures c.in_ok-made_tally.ensures))

pub returns : goal.returns
returns c =
    let past : length c.args.drawn.now ≤ c.loop-place.place = search rules in
    all_compared c.compare_all.result c.args.drawn.now c.args.made.now c.loop-place.place past c.loop-place.invariant c.compare_all.ensures
