use Rattle.std.proofs.Common.{rules, ◌≡◌, Some, None, ◌∙◌}
use Rattle.hk_safety.specs.Run.{printed}
use Rattle.hk_safety.specs.Kept.{KeptState, KeyState, find_key, kept_order}
use Rattle.hk_safety.proofs.Asked.{answer_is, order_found, order_unfound}
use Rattle.hk_safety.proofs.live.LiveRun.order.Goals as goal

pub returns-in-Some-clause-exact : goal.returns-in-Some-clause-exact
returns-in-Some-clause-exact c =
    let k : KeptState = c.in_ok-kept.kept.now in
    let state : KeyState = c.in-Some.key_run.now in
    let found : find_key c.args.key.now k.keys ≡ Some state = search rules in
    answer_is c.order.result (kept_order state) (printed c.args.self.now c.args.key.now) c.order.ensures.exact
    (order_found k c.args.self.now c.in_ok-kept.ensures.kept c.args.key.now c.runs_keep_parts.ensures c.in_ok-kept.ensures.run state found c.order.ensures.ordered)

pub returns-in-None-clause-exact : goal.returns-in-None-clause-exact
returns-in-None-clause-exact c =
    let k : KeptState = c.in_ok-kept.kept.now in
    let none : find_key c.args.key.now k.keys ≡ None = search rules in
    c.new.ensures ∙ order_unfound k c.args.self.now c.in_ok-kept.ensures.kept c.args.key.now c.runs_keep_parts.ensures c.in_ok-kept.ensures.run none
