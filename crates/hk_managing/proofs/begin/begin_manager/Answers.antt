use Rattle.std.proofs.Common.{rules, ◌≡◌, List, subst, Ok}
use Rattle.hk_log.specs.declared.entry.Entry.{Entry}
use Rattle.hk_restore.specs.Restoring.{restored}
use Rattle.hk_managing.specs.Begins.{IsBegun}
use Rattle.hk_managing.proofs.Beginning.{begins_by}
use Rattle.hk_managing.proofs.begin.begin_manager.Goals as goal

pub returns-in-Ok-begin_by-clause-begins : goal.returns-in-Ok-begin_by-clause-begins
returns-in-Ok-begin_by-clause-begins g c =
    let same : c.as_slice.result.now ≡ c.in-Ok.recovered.records = search rules in
    begins_by g.F.LogFile.holds g.F.LogFile.is_sure c.args.terms c.args.drawn c.args.first.now c.args.now c.in-Ok.recovered.writer.file c.in-Ok.recovered.writer.check.0 c.in-Ok-begin_by.begun c.in-Ok.recovered.records c.in-Ok.ensures.sure.0
    (subst (λ (records : List (List Entry)). IsBegun (Ok c.in-Ok-begin_by.begun) c.args.terms c.args.drawn c.args.first.now c.args.now (restored c.args.terms c.args.first.now records)) same c.in-Ok-begin_by.ensures)
