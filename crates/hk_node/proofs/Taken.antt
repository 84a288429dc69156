-- A node that takes a batch of copied rows.
use Rattle.std.proofs.Common.{◌≡◌, ◌≢◌, List, [], Bool, true, false, not, ◌&&◌, if◌then◌else◌, Option, None, refl, sym, ap, ◌∙◌, subst}
use Rattle.std.specs.Option.{option_or}
use Rattle.hk_base.specs.declared.letter.CopyItem.{CopyItem}
use Rattle.hk_base.specs.Range.{IsBatch}
use Rattle.hk_copy.specs.Batches.{last_key}
use Rattle.hk_node.specs.declared.out.NodeOut.{NodeOut}
use Rattle.hk_node.specs.declared.report.PriorRow.{PriorRow}
use Rattle.hk_node.specs.declared.report.Report.{Report}
use Rattle.hk_node.specs.declared.report.Undo.{Undo}
use Rattle.hk_node.specs.declared.report.Undo.TheVariants.{Cursor}
use Rattle.hk_node.specs.Rows.{Rows}
use Rattle.hk_node.specs.Node.{NodeState, epoch_of}
use Rattle.hk_node.specs.Stepped.{Stepped, idle}
use Rattle.hk_node.specs.Copies.{merged, is_next, takes_copy}
use Rattle.hk_node.specs.Copying.{IsMerge, put_rows, prior_of}
use Rattle.hk_node.specs.Report.{AreChanged, rows_rolled_back, rolled_back}
use Rattle.hk_node.specs.Outs.{IsOutOf}
use Rattle.hk_node.specs.Sound.{IsNode}
use Rattle.hk_node.proofs.Order.{Key}
use Rattle.hk_node.proofs.Leaving.{batch_items}
use Rattle.hk_node.proofs.KeepsMore.{takes_copy_kept, rising_merged}
use Rattle.hk_node.proofs.Reports.{reported_ready}
use Rattle.hk_node.proofs.PutRows.{prior_undone, laid_replaced}

-- the node with a batch taken
abbrev pub with_copy : NodeState → Bool → List CopyItem → NodeState
with_copy node done items = record node { ready = done; cursor = option_or (last_key items) node.cursor; rows = merged items node.rows }

abbrev pub taken : NodeState → Bool → List CopyItem → Stepped
taken node done items = record { node = with_copy node done items; letters = []; told = []; installed = None }

pub takes_ready : (node : NodeState) (after : Option Key) (done : Bool) (items : List CopyItem) → node.ready ≡ true → takes_copy node after done items ≡ idle node
takes_ready node after done items e = rw e refl

pub takes_elsewhere : (node : NodeState) (after : Option Key) (done : Bool) (items : List CopyItem) → is_next after node.cursor ≡ false → takes_copy node after done items ≡ idle node
takes_elsewhere node after done items e = by_ready node.ready
  where
    by_ready : (b : Bool) → (if not b && is_next after node.cursor then taken node done items else idle node) ≡ idle node
    by_ready true = refl
    by_ready false = ap (λ (t : Bool). if t then taken node done items else idle node) e

pub takes_is : (node : NodeState) (after : Option Key) (done : Bool) (items : List CopyItem) → node.ready ≡ false → is_next after node.cursor ≡ true → takes_copy node after done items ≡ taken node done items
takes_is node after done items ready next = ap (λ (b : Bool). if not b && is_next after node.cursor then taken node done items else idle node) ready
    ∙ ap (λ (t : Bool). if t then taken node done items else idle node) next

pub taken_kept : (node : NodeState) (after : Option Key) (done : Bool) (items : List CopyItem) (changes rows : Rows) (cursor : Option Key) → IsNode node → node.view ≢ None →
    node.ready ≡ false → is_next after node.cursor ≡ true → IsBatch items → IsMerge items node.rows changes →
    cursor ≡ option_or (last_key items) node.cursor → rows ≡ put_rows changes node.rows → IsNode (record node { ready = done; cursor = cursor; rows = rows })
taken_kept node after done items changes rows cursor ok seen ready next batch merge moved put =
    subst (λ (k : Option Key). IsNode (record node { ready = done; cursor = k; rows = rows })) (sym moved)
    (subst (λ (l : Rows). IsNode (record node { ready = done; cursor = option_or (last_key items) node.cursor; rows = l })) (sym (put ∙ merge.same))
    (subst (λ (s : Stepped). IsNode s.node) (takes_is node after done items ready next)
    (takes_copy_kept node after done items seen (batch_items items batch) ok)))

out_of_taken : (node : NodeState) (done : Bool) (items : List CopyItem) (changes : Rows) (out : NodeOut) → IsNode node → node.ready ≡ false → IsMerge items node.rows changes →
    out.letters ≡ [] → out.replies ≡ [] → out.installed ≡ None → out.undo ≡ Cursor node.cursor →
    out.report ≡ record { epoch = epoch_of node; readied = done; rows = prior_of changes node.rows } → IsOutOf out node (taken node done items)
out_of_taken node done items changes out ok ready merge letters replies installed undo reports = record {
  letters = letters;
  replies = replies;
  installed = installed;
  reported = reported_ready node (with_copy node done items) (prior_of changes node.rows) out.report ready (rising_merged items node.rows ok.ordered) changed reports;
  changed = subst (λ (r : Report). AreChanged r.rows node.rows (merged items node.rows)) (sym reports) changed;
  undone = back out.report.rows out.undo undo (ap (λ (r : Report). r.rows) reports);
}
  where
    changed : AreChanged (prior_of changes node.rows) node.rows (merged items node.rows)
    changed = subst (λ (l : Rows). AreChanged (prior_of changes node.rows) node.rows l) merge.same (laid_replaced changes node.rows merge.rising merge.differ)

    undone : rows_rolled_back (prior_of changes node.rows) (merged items node.rows) ≡ node.rows
    undone = ap (rows_rolled_back (prior_of changes node.rows)) (sym merge.same) ∙ prior_undone changes node.rows ok.ordered

    back : (f : List PriorRow) (b : Undo) → b ≡ Cursor node.cursor → f ≡ prior_of changes node.rows → rolled_back f b (with_copy node done items) ≡ node
    back f b is rows = rw (is, rows) (ap (λ (l : Rows). record node { ready = false; rows = l }) undone ∙ ap (λ (t : Bool). record node { ready = t }) (sym ready))

pub taken_told : (inside node : NodeState) (after : Option Key) (done : Bool) (items : List CopyItem) (changes : Rows) (out : NodeOut) → inside ≡ node → IsNode inside →
    inside.ready ≡ false → is_next after inside.cursor ≡ true → IsMerge items inside.rows changes →
    out.letters ≡ [] → out.replies ≡ [] → out.installed ≡ None → out.undo ≡ Cursor inside.cursor →
    out.report ≡ record { epoch = epoch_of inside; readied = done; rows = prior_of changes inside.rows } → IsOutOf out node (takes_copy node after done items)
taken_told inside node after done items changes out same ok ready next merge letters replies installed undo reports =
    subst (λ (n : NodeState). IsOutOf out n (takes_copy n after done items)) same
    (subst (λ (s : Stepped). IsOutOf out inside s) (sym (takes_is inside after done items ready next))
    (out_of_taken inside done items changes out ok ready merge letters replies installed undo reports))

pub seen_inside : (inside node : NodeState) → inside ≡ node → node.view ≢ None → inside.view ≢ None
seen_inside inside node same seen none = seen (sym (ap (λ (n : NodeState). n.view) same) ∙ none)
