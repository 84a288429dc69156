-- Letters that are taken at a row.
use Rattle.std.proofs.Common.{◌≡◌, ℕ, List, Bool, true, false, Option, Some, None, IfSome, if◌then◌else◌, ◌&&◌, ◌==◌, sym, ap, ◌∙◌, subst}
use Rattle.hk_base.specs.declared.stamp.Stamp.{Stamp}
use Rattle.hk_base.specs.declared.stamp.NodeId.{NodeId}
use Rattle.hk_base.specs.declared.stamp.Kind.{Kind}
use Rattle.hk_base.specs.declared.call.Content.{Content}
use Rattle.hk_base.specs.declared.view.View.{View}
use Rattle.hk_base.specs.declared.letter.Body.TheVariants.{Inv, Ack, Val}
use Rattle.hk_base.specs.View.{IsView}
use Rattle.hk_base.specs.Range.{IsWithin, Leaves}
use Rattle.hk_key.specs.declared.row.Row.{Row}
use Rattle.hk_key.specs.declared.out.Out.{Out}
use Rattle.hk_key.specs.Sound.{IsOther}
use Rattle.hk_key.specs.Table.{Done, no_out, on_inv, on_ack, on_val, still}
use Rattle.hk_node.specs.Rows.{find_row, row_at, with_row}
use Rattle.hk_node.specs.Node.{NodeState, epoch_of, members_of, is_other}
use Rattle.hk_node.specs.Stepped.{Stepped, idle, row_step}
use Rattle.hk_base.specs.declared.letter.Actor.{Actor}
use Rattle.hk_base.specs.declared.letter.Actor.TheVariants.{Node}
use Rattle.hk_base.specs.declared.letter.Letter.{Letter}
use Rattle.hk_node.specs.Steps.{on_found, received, is_addressed, receives_from, receives}
use Rattle.hk_node.specs.Sound.{IsViewOf, IsNode}
use Rattle.hk_node.specs.Report.{IsMade}
use Rattle.hk_node.proofs.Acts.{acts_make, inv_acts, ack_acts, val_acts}
use Rattle.hk_node.proofs.Keeps.{sound_at}
use Rattle.hk_node.proofs.KeepsMore.{received_kept}
use Rattle.hk_node.proofs.Parts.{other_is}
use Rattle.hk_node.proofs.Finishing.{Inside, done_is, members_seen}
use Rattle.hk_node.proofs.Again.{found_sound, found_make}

-- ---- INV
module _ (inside node : NodeState) (same : inside ≡ node) (ok : IsNode inside) (key : List ℕ) (row : Row) (is : row ≡ row_at key node.rows)
    (from : NodeId) (s : Stamp) (kind : Kind) (content : Option Content) (within : IsWithin s) (leaves : Leaves kind content) (other : is_other node from ≡ true) where
  pub inv_within : IsWithin row.stamp
  inv_within = subst (λ (r : Row). IsWithin r.stamp) (sym is) (sound_at node key (subst IsNode same ok)).within

  inv_same : on_inv row from s kind content ≡ on_inv (row_at key node.rows) from s kind content
  inv_same = ap (λ (r : Row). on_inv r from s kind content) is

  pub inv_kept : (new : Row) → new ≡ (on_inv row from s kind content).row → IsNode (record node { rows = with_row key new node.rows })
  inv_kept new made = subst (λ (r : Row). IsNode (record node { rows = with_row key r node.rows })) (sym (made ∙ ap (λ (d : Done). d.row) inv_same))
      (received_kept (Inv key s kind content) node from (within, leaves) other (subst IsNode same ok))

  pub inv_put : (new : Row) → new ≡ (on_inv row from s kind content).row → IsMade node.rows key new
  inv_put new made = subst (IsMade node.rows key) (sym (made ∙ ap (λ (d : Done). d.row) inv_same))
      (acts_make key node.rows (on_inv (row_at key node.rows) from s kind content) (subst IsNode same ok).touched
      (inv_acts key node.id (members_of node) (row_at key node.rows) (sound_at node key (subst IsNode same ok)) from s kind content within leaves))

  pub inv_made : (new : Row) (out : Out) → new ≡ (on_inv row from s kind content).row → out ≡ (on_inv row from s kind content).out →
      row_step node key (record { row = new; out = out }) ≡ received (Inv key s kind content) node from
  inv_made new out made told = ap (λ (d : Done). row_step node key d) (done_is new out (on_inv row from s kind content) made told ∙ inv_same)

-- ---- ACK
pub view_inside : (inside node : NodeState) (view : View) → Inside inside node view → IsView view
view_inside inside node view at = (subst (λ (o : Option View). IfSome o (λ v. IsViewOf inside v)) at.seen at.ok.view).is_view

pub other_inside : (inside node : NodeState) (view : View) (from : NodeId) → Inside inside node view → is_other node from ≡ true → IsOther inside.id view.members from
other_inside inside node view from at other =
    subst (λ (n : NodeId). IsOther n view.members from) (sym (ap (λ (n : NodeState). n.id) at.same))
    (subst (λ (m : List NodeId). IsOther node.id m from) (members_seen inside node view at.same at.seen) (other_is node from other))

pub ack_none : (node : NodeState) (key : List ℕ) (s top : Stamp) (from : NodeId) → find_row key node.rows ≡ None → received (Ack key s top) node from ≡ idle node
ack_none node key s top from e = ap (λ (o : Option Row). on_found o node key (λ row. on_ack node.id (members_of node) row from s top)) e

module _ (inside node : NodeState) (view : View) (at : Inside inside node view) (key : List ℕ) (row : Row) (found : find_row key node.rows ≡ Some row)
    (from : NodeId) (s top : Stamp) (within : IsWithin s) (within_top : IsWithin top) (other : is_other node from ≡ true) where
  ack_same : on_ack inside.id view.members row from s top ≡ on_ack node.id (members_of node) row from s top
  ack_same = ap (λ (n : NodeId). on_ack n view.members row from s top) (ap (λ (n : NodeState). n.id) at.same)
      ∙ ap (λ (m : List NodeId). on_ack node.id m row from s top) (sym (members_seen inside node view at.same at.seen))

  ack_found : received (Ack key s top) node from ≡ row_step node key (on_ack node.id (members_of node) row from s top)
  ack_found = ap (λ (o : Option Row). on_found o node key (λ r. on_ack node.id (members_of node) r from s top)) found

  pub ack_kept : (new : Row) → new ≡ (on_ack inside.id view.members row from s top).row → IsNode (record node { rows = with_row key new node.rows })
  ack_kept new is = subst (λ (r : Row). IsNode (record node { rows = with_row key r node.rows })) (sym (is ∙ ap (λ (d : Done). d.row) ack_same))
      (subst (λ (t : Stepped). IsNode t.node) ack_found (received_kept (Ack key s top) node from (within, within_top) other (subst IsNode at.same at.ok)))

  pub ack_put : (new : Row) → new ≡ (on_ack inside.id view.members row from s top).row → IsMade node.rows key new
  ack_put new is = subst (IsMade node.rows key) (sym (is ∙ ap (λ (d : Done). d.row) ack_same))
      (found_make node key row (on_ack node.id (members_of node) row from s top) (subst IsNode at.same at.ok) found
      (ack_acts key node.id (members_of node) row (found_sound node key row (subst IsNode at.same at.ok) found) from s top))

  pub ack_made : (new : Row) (out : Out) → new ≡ (on_ack inside.id view.members row from s top).row → out ≡ (on_ack inside.id view.members row from s top).out →
      row_step node key (record { row = new; out = out }) ≡ received (Ack key s top) node from
  ack_made new out is told = ap (λ (d : Done). row_step node key d) (done_is new out (on_ack inside.id view.members row from s top) is told ∙ ack_same) ∙ sym ack_found

-- ---- VAL
pub val_none : (node : NodeState) (key : List ℕ) (s : Stamp) (from : NodeId) → find_row key node.rows ≡ None → received (Val key s) node from ≡ idle node
val_none node key s from e = ap (λ (o : Option Row). on_found o node key (λ row. still (on_val row s))) e

module _ (node : NodeState) (key : List ℕ) (row copy : Row) (found : find_row key node.rows ≡ Some row) (is : copy ≡ row) (from : NodeId) (s : Stamp) where
  val_found : received (Val key s) node from ≡ row_step node key (still (on_val row s))
  val_found = ap (λ (o : Option Row). on_found o node key (λ r. still (on_val r s))) found

  pub val_made : (new : Row) → new ≡ on_val copy s → row_step node key (record { row = new; out = no_out }) ≡ received (Val key s) node from
  val_made new made = ap (λ (r : Row). row_step node key (still r)) (made ∙ ap (λ (r : Row). on_val r s) is) ∙ sym val_found

  pub val_kept : (inside : NodeState) (new : Row) → IsNode inside → inside ≡ node → IsWithin s → is_other node from ≡ true → new ≡ on_val copy s → IsNode (record node { rows = with_row key new node.rows })
  val_kept inside new ok same within other made = subst (λ (t : Stepped). IsNode t.node) (sym (val_made new made)) (received_kept (Val key s) node from within other (subst IsNode same ok))

  pub val_put : (inside : NodeState) (new : Row) → IsNode inside → inside ≡ node → new ≡ on_val copy s → IsMade node.rows key new
  val_put inside new ok same made = subst (IsMade node.rows key) (sym (made ∙ ap (λ (r : Row). on_val r s) is))
      (found_make node key row (still (on_val row s)) (subst IsNode same ok) found (val_acts key node.id (members_of node) row (found_sound node key row (subst IsNode same ok) found) s))

  pub val_within : (inside : NodeState) → IsNode inside → inside ≡ node → IsWithin copy.stamp
  val_within inside ok same = subst (λ (r : Row). IsWithin r.stamp) (sym is) (found_sound node key row (subst IsNode same ok) found).within

-- ---- a letter that is not admitted
pub dropped : (node : NodeState) (letter : Letter) (from : NodeId) → letter.from ≡ Node from →
    (is_addressed node letter.to && ((letter.epoch == epoch_of node) && is_other node from)) ≡ false → receives node letter ≡ idle node
dropped node letter from is e = ap (λ (a : Actor). receives_from a node letter) is
    ∙ ap (λ (b : Bool). if b then received letter.body node from else idle node) e
