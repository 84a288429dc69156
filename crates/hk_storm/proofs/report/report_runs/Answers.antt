use Rattle.std.proofs.Common.{rules}
use Rattle.hk_storm.specs.Calls.{AreDrawn}
use Rattle.hk_storm.proofs.Reporting.{come_to_legal}
use Rattle.hk_storm.proofs.report.report_runs.Goals as goal

pub returns : goal.returns
returns c = λ groups came.
    let same : AreDrawn c.in_ok-drawn.drawn.items c.in_ok-made.made.items = search rules in
    come_to_legal c.args.opts.now groups c.args.runs.now came c.in_ok-drawn.drawn.items c.in_ok-made.made.items c.in_ok-drawn.ensures c.in_ok-made.ensures c.runs_are_legal.ensures c.requires.runs c.in_ok-outcomes.outcomes c.in_ok-outcomes.ensures same
