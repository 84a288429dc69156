use Rattle.std.proofs.Common.{rules, ◌≡◌, Ok, Err, sym, Result}
use Rattle.std.specs.Map.{keys_of}
use Rattle.std.specs.List.Sorted.{IsStrictlySortedBy}
use Rattle.hk_lease.specs.declared.grants.NotPast.{NotPast}
use Rattle.hk_lease.specs.Grants.{by_number}
use Rattle.hk_lease.specs.Past.{past_answer}
use Rattle.hk_lease.proofs.Least.{least}
use Rattle.hk_lease.proofs.grants.Grants.all_past.Goals as goal

pub returns-then-may_run-clause-least : goal.returns-then-may_run-clause-least
returns-then-may_run-clause-least c =
    let answer : Result Unit NotPast = Err (record { node = c.in-Some.node.now; end = c.in-Some.until.now }) in
    let same : answer ≡ past_answer c.args.self.now c.args.view.now c.args.now = search rules in
    let rising : IsStrictlySortedBy by_number (keys_of c.args.self.now) = rw (sym c.self.view_is) c.iter-node-items.ensures.ordered in
    least answer c.args.self.now c.args.view.now c.args.now rising same

pub returns-clause-least : goal.returns-clause-least
returns-clause-least c =
    let answer : Result Unit NotPast = Ok tt in
    let same : answer ≡ past_answer c.args.self.now c.args.view.now c.args.now = search rules in
    let rising : IsStrictlySortedBy by_number (keys_of c.args.self.now) = rw (sym c.self.view_is) c.iter-node-items.ensures.ordered in
    least answer c.args.self.now c.args.view.now c.args.now rising same
