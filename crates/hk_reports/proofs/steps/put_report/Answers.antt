use Rattle.std.proofs.Common.{rules, ◌≡◌, subst, sym}
use Rattle.hk_reports.specs.Reports.{with_report, AreOneEach}
use Rattle.hk_reports.proofs.Lists.{one_each}
use Rattle.hk_reports.proofs.steps.put_report.Goals as goal

pub returns-clause-each : goal.returns-clause-each
returns-clause-each c =
    let made : c.put_first.new.items.items ≡ with_report c.args.last c.args.came.now.items = search rules in
    subst AreOneEach (sym made) (one_each c.args.last c.args.came.now.items c.requires.each)
