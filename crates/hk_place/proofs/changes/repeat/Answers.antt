use Rattle.std.proofs.Common.{◌≡◌, ℕ, List, ◌++◌, sym, ap, ◌∙◌}
use Rattle.hk_node.specs.declared.report.Report.{Report}
use Rattle.hk_node.specs.declared.report.PriorRow.{PriorRow}
use Rattle.hk_node.specs.Report.{changed_rows}
use Rattle.hk_journal.specs.Journal.{after}
use Rattle.hk_place.specs.Past.{tickets_in}
use Rattle.hk_place.proofs.Noting.{on_ok, step_told}
use Rattle.hk_place.proofs.changes.repeat.Goals as goal

pub returns-clause-noted : goal.returns-clause-noted
returns-clause-noted c =
    let rows : c.as_slice.result.now ≡ changed_rows c.args.node.now.rows (after c.args.node.now c.args.entry.now).rows =
    c.as_slice.ensures ∙ ap (λ (r : Report). r.rows) c.in_ok-out.ensures.out.reported in
    on_ok c.note_all.result
    (λ noted k. noted k ∙ ap (λ (l : List ℕ). tickets_in c.args.kept.now.entries k ++ l) (step_told k c.args.node.now c.args.entry.now c.as_slice.result.now rows))
    c.note_all.ensures
