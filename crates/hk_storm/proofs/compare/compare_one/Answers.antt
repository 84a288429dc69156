use Rattle.std.proofs.Common.{refl, sym, subst, ◌∙◌}
use Rattle.hk_storm.specs.Calls.{Stands}
use Rattle.hk_storm.proofs.Comparing.{as_often, often}
use Rattle.hk_storm.proofs.compare.compare_one.Goals as goal

pub returns-then-drawn-made : goal.returns-then-drawn-made
returns-then-drawn-made c = λ ds ms drawn_tally made_tally.
    as_often c.lines_are_one.ensures.events c.args.drawn.now.entries c.args.made.now.entries c.args.call.now c.in_ok-line.ensures.written c.in_ok-line.line c.in_ok-line.ensures.line ds ms drawn_tally made_tally
    (sym c.count_of-drawn.ensures ∙ (c.if-drawn-made.true ∙ c.count_of-made.ensures))

pub returns : goal.returns
returns c = λ ds ms drawn_tally made_tally.
    let drawn = often c.lines_are_one.ensures.events c.args.drawn.now.entries c.args.made.now.entries c.args.call.now c.in_ok-line.ensures.written c.in_ok-line.line c.in_ok-line.ensures.line ds ms drawn_tally made_tally
    c.args.drawn.now.entries ds drawn_tally in
    let made = often c.lines_are_one.ensures.events c.args.drawn.now.entries c.args.made.now.entries c.args.call.now c.in_ok-line.ensures.written c.in_ok-line.line c.in_ok-line.ensures.line ds ms drawn_tally made_tally
    c.args.made.now.entries ms made_tally in
    (refl, subst (Stands c.args.call.now ds) (sym c.count_of-drawn.ensures) drawn, subst (Stands c.args.call.now ms) (sym c.count_of-made.ensures) made, c.if-drawn-made.false)
