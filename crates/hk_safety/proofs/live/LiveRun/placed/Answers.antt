use Rattle.std.proofs.Common.{rules, ◌≡◌, Some, None, ◌∙◌}
use Rattle.hk_safety.specs.Placed.{placed, kept_placed, at_moments}
use Rattle.hk_safety.specs.Kept.{KeptState, KeyState, find_key}
use Rattle.hk_safety.proofs.Asked.{answer_is, placed_found, placed_unfound}
use Rattle.hk_safety.proofs.live.LiveRun.placed.Goals as goal

pub returns-in-Some : goal.returns-in-Some
returns-in-Some c =
    let k : KeptState = c.in_ok-kept.kept.now in
    let state : KeyState = c.in-Some.key_run.now in
    let found : find_key c.args.key.now k.keys ≡ Some state = search rules in
    answer_is c.placed.result (at_moments c.len-last.result (kept_placed state)) (placed c.args.self.now c.args.key.now) c.placed.ensures.exact
    (placed_found k c.args.self.now c.in_ok-kept.ensures.kept c.args.key.now c.runs_keep_parts.ensures c.in_ok-kept.ensures.run c.len-last.result c.len-last.ensures state found c.placed.ensures.ordered)

pub returns-in-None : goal.returns-in-None
returns-in-None c =
    let k : KeptState = c.in_ok-kept.kept.now in
    let none : find_key c.args.key.now k.keys ≡ None = search rules in
    c.new.ensures ∙ placed_unfound k c.args.self.now c.in_ok-kept.ensures.kept c.args.key.now c.runs_keep_parts.ensures c.in_ok-kept.ensures.run c.len-last.result c.len-last.ensures none
