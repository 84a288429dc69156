-- What is known where an end has a whole right.
use Rattle.std.proofs.Common.{◌≤◌, length, sym, ap, ◌∙◌, arith, length-append}
use Rattle.std.proofs.lemmas.List.{append-nil}
use mathlib.Core.List.{IsPrefix}
use Rattle.hk_link.specs.Share.{all, IsWhole}
use Rattle.hk_link.specs.Ends.{End, WasFull, WasEmpty}

pub full_for_one : (end : End) → WasFull end → IsWhole end.known.put.share → end.room ≤ length end.known.put.seen
full_for_one end full whole =
    let moment = full.2 in
    let seen = ap length (moment.put.all_seen whole) in
    let order = ap length moment.in_order in
    let parts = length-append moment.all_taken full.0 in
    let room = full.1 in omega (arith, seen, order, parts, room)

pub empty_for_one : (end : End) → WasEmpty end → IsWhole end.known.taken.share → IsPrefix end.known.put.seen end.known.taken.seen
empty_for_one end moment whole =
    let told = moment.put.beginning in
    (told.0, told.1 ∙ (moment.in_order ∙ (append-nil moment.all_taken ∙ sym (moment.taken.all_seen whole))))

pub all_is_whole : IsWhole all
all_is_whole scale h = omega arith
