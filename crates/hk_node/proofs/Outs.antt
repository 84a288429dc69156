-- What is told of a step, where one row makes it and where nothing changes.
use Rattle.std.proofs.Common.{◌≡◌, ℕ, List, [], map, Some, None, refl, sym, ap, ◌∙◌, subst}
use Rattle.hk_base.specs.declared.view.View.{View}
use Rattle.hk_key.specs.Table.{Done}
use Rattle.hk_node.specs.declared.report.PriorRow.{PriorRow}
use Rattle.hk_node.specs.declared.report.Report.{Report}
use Rattle.hk_node.specs.declared.report.Undo.{Undo}
use Rattle.hk_node.specs.declared.report.Undo.TheVariants.{Nothing}
use Rattle.hk_node.specs.declared.out.NodeOut.{NodeOut}
use Rattle.hk_node.specs.Rows.{Rows, with_row}
use Rattle.hk_node.specs.Node.{NodeState}
use Rattle.hk_node.specs.Sends.{at_view, sent}
use Rattle.hk_node.specs.Stepped.{Stepped, row_step, replies_of, told_of}
use Rattle.hk_node.specs.Report.{AreChanged, IsMade, rows_report, changed_by, undo_rolled_back, rolled_back}
use Rattle.hk_node.specs.Outs.{IsOutOf}
use Rattle.hk_node.specs.Sound.{IsNode}
use Rattle.hk_node.proofs.Order.{Rising, rising_with}
use Rattle.hk_node.proofs.Reports.{reported}
use Rattle.hk_node.proofs.Sent.{sent_alike}
use Rattle.hk_node.proofs.Placed.{made_changed, made_undone, nothing_changed}

module _ (node : NodeState) (ok : IsNode node) (key : List ℕ) (done : Done) (made : IsMade node.rows key done.row) where
  pub out_of_row : (out : NodeOut) → out.letters ≡ sent node key done.row done.out.send → out.replies ≡ replies_of (row_step node key done) → out.installed ≡ None →
      out.undo ≡ Nothing → out.report ≡ rows_report node (changed_by key done.row node.rows) → IsOutOf out node (row_step node key done)
  out_of_row out letters replies installed undo reports = record {
    letters = letters;
    replies = replies;
    installed = installed;
    reported = reports ∙ reported node (row_step node key done).node (changed_by key done.row node.rows) refl (rising_with key done.row node.rows ok.ordered) changed;
    changed = subst (λ (r : Report). AreChanged r.rows node.rows (with_row key done.row node.rows)) (sym reports) changed;
    undone = back out.report.rows out.undo undo (ap (λ (r : Report). r.rows) reports);
  }
    where
      changed : AreChanged (changed_by key done.row node.rows) node.rows (with_row key done.row node.rows)
      changed = made_changed key done.row node.rows ok.ordered made

      back : (f : List PriorRow) (b : Undo) → b ≡ Nothing → f ≡ changed_by key done.row node.rows → rolled_back f b (row_step node key done).node ≡ node
      back f b is rows = rw (is, rows) (ap (λ (l : Rows). record node { rows = l }) (made_undone key done.row node.rows ok.ordered made))

-- what is told where something beside rows is replaced, or nothing
pub out_of_undo : (node : NodeState) (stepped : Stepped) (out : NodeOut) (undo : Undo) → IsNode node → stepped.node.rows ≡ node.rows → stepped.node.ready ≡ node.ready →
    undo_rolled_back undo stepped.node ≡ node → out.letters ≡ stepped.letters → out.replies ≡ replies_of stepped → out.installed ≡ stepped.installed →
    out.undo ≡ undo → out.report ≡ rows_report node [] → IsOutOf out node stepped
out_of_undo node stepped out undo ok same ready undone letters replies installed is reports = record {
  letters = letters;
  replies = replies;
  installed = installed;
  reported = reports ∙ reported node stepped.node [] ready (subst Rising (sym same) ok.ordered) changed;
  changed = subst (λ (r : Report). AreChanged r.rows node.rows stepped.node.rows) (sym reports) changed;
  undone = back out.report.rows out.undo is (ap (λ (r : Report). r.rows) reports);
}
  where
    changed : AreChanged [] node.rows stepped.node.rows
    changed = subst (λ (r : Rows). AreChanged [] node.rows r) (sym same) (nothing_changed node.rows)

    back : (f : List PriorRow) (b : Undo) → b ≡ undo → f ≡ [] → rolled_back f b stepped.node ≡ node
    back f b e w = rw (e, w) undone

pub out_of_still : (node : NodeState) (stepped : Stepped) (out : NodeOut) → IsNode node → stepped.node ≡ node → out.letters ≡ stepped.letters →
    out.replies ≡ replies_of stepped → out.installed ≡ stepped.installed → out.undo ≡ Nothing → out.report ≡ rows_report node [] → IsOutOf out node stepped
out_of_still node stepped out ok same letters replies installed undo reports =
    out_of_undo node stepped out Nothing ok (ap (λ (n : NodeState). n.rows) same) (ap (λ (n : NodeState). n.ready) same) same letters replies installed undo reports

-- the same, of a node as its fields have it
pub finished : (node inside : NodeState) (view : View) (key : List ℕ) (done : Done) (out : NodeOut) → inside ≡ node → inside.view ≡ Some view → IsNode inside → IsMade inside.rows key done.row →
    out.letters ≡ sent (at_view inside.id view) key done.row done.out.send → out.replies ≡ map (λ t. t.1) (told_of key done.out.reply) → out.installed ≡ None →
    out.undo ≡ Nothing → out.report ≡ rows_report inside (changed_by key done.row inside.rows) → IsOutOf out node (row_step node key done)
finished node inside view key done out same seen ok made letters replies installed undo reports =
    subst (λ (n : NodeState). IsOutOf out n (row_step n key done)) same
    (out_of_row inside ok key done made out (letters ∙ sent_alike inside.id view inside key done.row done.out.send refl seen) replies installed undo reports)
