-- The report of each step has just the rows that it changed.
use Rattle.std.proofs.Common.{ℕ, List, [], Option, refl, subst}
use Rattle.hk_base.specs.declared.call.CallNo.{CallNo}
use Rattle.hk_base.specs.declared.call.Op.{Op}
use Rattle.hk_key.specs.declared.row.Row.{Row}
use Rattle.hk_node.specs.declared.report.PriorRow.{PriorRow}
use Rattle.hk_node.specs.declared.event.NodeEvent.TheVariants.{Call}
use Rattle.hk_node.specs.Rows.{Rows, row_at, with_row}
use Rattle.hk_node.specs.Node.{NodeState}
use Rattle.hk_node.specs.Stepped.{Stepped}
use Rattle.hk_node.specs.Copying.{prior_of}
use Rattle.hk_node.specs.Sound.{IsNode}
use Rattle.hk_node.specs.Report.{AreChanged, IsMade, changed_by, changed_rows}
use Rattle.hk_node.specs.Laws.{key_of, ReportsAreExact}
use Rattle.hk_node.proofs.Order.{Rising, rising_with}
use Rattle.hk_node.proofs.Placed.{made_changed, nothing_changed}
use Rattle.hk_node.proofs.Keeps.{begun}
use Rattle.hk_node.proofs.KeepsMore.{rising_merged}
use Rattle.hk_node.proofs.PutRows.{laid_replaced}
use Rattle.hk_node.proofs.Merged.{quiet_rows, merging_first, merges}
use Rattle.hk_node.proofs.Acts.{acts_make}
use Rattle.hk_node.proofs.Stamps.{begun_made}
use Rattle.hk_node.proofs.Reports.{changed_are}
use Rattle.hk_node.proofs.Installed.{install_changed}
use Rattle.hk_node.proofs.StepCases.{CallCases, StepCases, by_call, by_event}

-- what is told just as it changed, the report has
exact : (old new : Rows) (prior : List PriorRow) → Rising new → AreChanged prior old new → AreChanged (changed_rows old new) old new
exact old new prior rising are = subst (λ (l : List PriorRow). AreChanged l old new) (changed_are old new prior rising are) are

module _ (node : NodeState) (ok : IsNode node) where
  abbrev Exact : Stepped → Type 0
  Exact stepped = AreChanged (changed_rows node.rows stepped.node.rows) node.rows stepped.node.rows

  same : AreChanged (changed_rows node.rows node.rows) node.rows node.rows
  same = exact node.rows node.rows [] ok.ordered (nothing_changed node.rows)

  of_row : (key : List ℕ) (row : Row) → IsMade node.rows key row → AreChanged (changed_rows node.rows (with_row key row node.rows)) node.rows (with_row key row node.rows)
  of_row key row made = exact node.rows (with_row key row node.rows) (changed_by key row node.rows) (rising_with key row node.rows ok.ordered) (made_changed key row node.rows ok.ordered made)

  ways : (named : Option (List ℕ)) → StepCases Exact node named
  ways named = record {
    quiet = λ clock granted ends activated. same;
    sends = λ letters within. same;
    row = λ key done names acts. of_row key done.row (acts_make key node.rows done ok.touched acts);
    takes = λ cursor done items none unready within.
        let merge = merges items items node.rows [] ok.ordered (quiet_rows node.id _ node.rows ok.rows ok.touched (ok.shadow unready)) within (merging_first items node.rows [] refl) in
        exact node.rows _ (prior_of merge.0 node.rows) (rising_merged items node.rows ok.ordered)
        (subst (λ (l : Rows). AreChanged (prior_of merge.0 node.rows) node.rows l) merge.1.same (laid_replaced merge.0 node.rows merge.1.rising merge.1.differ));
    installs = λ view activated none acts. let changed = install_changed node view ok in exact node.rows _ _ changed.0 changed.1;
  }

  call_ways : (call : CallNo) (key : List ℕ) (op : Op) → CallCases Exact node call key op
  call_ways call key op = record {
    answered = λ answer. same;
    begins = λ s ready valid next. of_row key (begun node call op (row_at key node.rows) s).row (begun_made node call key op s next);
  }

pub reports_are_exact : ReportsAreExact
reports_are_exact node (Call call key op) ok within = by_call (Exact node ok) node call key op ok (call_ways node ok call key op)
reports_are_exact node event ok within = by_event (Exact node ok) node ok event within tt (ways node ok (key_of event))
