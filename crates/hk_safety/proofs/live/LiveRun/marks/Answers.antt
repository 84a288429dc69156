use Rattle.std.proofs.Common.{rules, ◌≡◌, Some, None, map, ap, ◌∙◌}
use Rattle.hk_safety.specs.Marks.{mark_of}
use Rattle.hk_safety.specs.Kept.{KeptState, KeyState, find_key}
use Rattle.hk_safety.proofs.Asked.{history_found, history_unfound}
use Rattle.hk_safety.proofs.live.LiveRun.marks.Goals as goal

pub returns-in-Some : goal.returns-in-Some
returns-in-Some c =
    let k : KeptState = c.in_ok-kept.kept.now in
    let state : KeyState = c.in-Some.run'.now in
    let found : find_key c.args.key.now k.keys ≡ Some state = search rules in
    c.marks.ensures ∙ ap (map mark_of) (history_found k c.args.self.now c.in_ok-kept.ensures.kept c.args.key.now state found)

pub returns-in-None : goal.returns-in-None
returns-in-None c =
    let k : KeptState = c.in_ok-kept.kept.now in
    let none : find_key c.args.key.now k.keys ≡ None = search rules in
    ap (map mark_of) (history_unfound k c.args.self.now c.in_ok-kept.ensures.kept c.args.key.now none)
