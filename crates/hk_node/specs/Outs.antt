-- What a node tells of its step.
use Rattle.std.specs.Prelude.{◌≡◌, ℕ, List, map, false, None}
use Rattle.hk_base.specs.declared.stamp.NodeId.{NodeId}
use Rattle.hk_base.specs.declared.view.View.{View}
use Rattle.hk_key.specs.declared.row.Row.{Row}
use Rattle.hk_key.specs.Table.{Done}
use Rattle.hk_node.specs.declared.report.Undo.TheVariants.{Nothing}
use Rattle.hk_node.specs.declared.out.NodeOut.{NodeOut}
use Rattle.hk_node.specs.Node.{NodeState}
use Rattle.hk_node.specs.Sends.{at_view, sent}
use Rattle.hk_node.specs.Stepped.{Stepped, replies_of, told_of}
use Rattle.hk_node.specs.Report.{AreChanged, report, rolled_back, prior_of_row}

-- This is told of a step from `old`: its letters, its replies, the view that was installed, and what it did to the node: just the
-- rows that changed. With that undone the node is as before.
pub record IsOutOf (out : NodeOut) (old : NodeState) (stepped : Stepped) : Type 0 where
  pub letters : out.letters ≡ stepped.letters
  pub replies : out.replies ≡ replies_of stepped
  pub installed : out.installed ≡ stepped.installed
  pub reported : out.report ≡ report old stepped.node
  pub changed : AreChanged out.report.rows old.rows stepped.node.rows
  pub undone : rolled_back out.report.rows out.undo stepped.node ≡ old

-- This is told of a step that made `done` of the row that stood at the key, at a node of this number and view.
pub record IsOutOfRow (id : NodeId) (view : View) (key : List ℕ) (old : Row) (done : Done) (out : NodeOut) : Type 0 where
  pub letters : out.letters ≡ sent (at_view id view) key done.row done.out.send
  pub replies : out.replies ≡ map (λ t. t.1) (told_of key done.out.reply)
  pub installed : out.installed ≡ None
  pub undo : out.undo ≡ Nothing
  pub report : out.report ≡ record { epoch = view.epoch; readied = false; rows = prior_of_row key old done.row }
