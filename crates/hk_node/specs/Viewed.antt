-- What a node that installs a view makes of its rows.
use Rattle.std.specs.Prelude.{ℕ, List, [], ◌∷◌, Some, IfSome, if◌then◌else◌}
use Rattle.hk_base.specs.declared.stamp.NodeId.{NodeId}
use Rattle.hk_base.specs.declared.view.View.{View}
use Rattle.hk_base.specs.declared.call.Reply.{Reply}
use Rattle.hk_base.specs.declared.letter.Letter.{Letter}
use Rattle.hk_base.specs.Range.{IsWithin}
use Rattle.hk_key.specs.declared.row.Row.{Row}
use Rattle.hk_key.specs.Same.{is_same_row}
use Rattle.hk_key.specs.Table.{Done, on_view}
use Rattle.hk_node.specs.declared.report.PriorRow.{PriorRow}
use Rattle.hk_node.specs.Sends.{at_view, sent}
use Rattle.hk_node.specs.Stepped.{told_of}

-- stamps within the limit
pub record IsFitRow (r : List ℕ × Row) : Type 0 where
  pub row : IsWithin r.1.stamp
  pub pending : IfSome r.1.pending (λ p. IsWithin p.stamp)

module _ (id : NodeId) (view : View) where
  -- the step of a row
  abbrev pub view_done : List ℕ × Row → Done
  view_done r = on_view id view.members r.1

  abbrev pub view_letters : List ℕ × Row → List Letter
  view_letters r = sent (at_view id view) r.0 (view_done r).row (view_done r).out.send

  abbrev pub view_told : List ℕ × Row → List (List ℕ × Reply)
  view_told r = told_of r.0 (view_done r).out.reply

  -- the row that is new, and the one that was there, where they differ
  abbrev pub view_new : List ℕ × Row → List PriorRow
  view_new r = if is_same_row r.1 (view_done r).row then [] else record { key = r.0; row = Some (view_done r).row } ∷ []

  abbrev pub view_old : List ℕ × Row → List PriorRow
  view_old r = if is_same_row r.1 (view_done r).row then [] else record { key = r.0; row = Some r.1 } ∷ []
