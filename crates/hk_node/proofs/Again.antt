-- Updates that are sent again: INV of a pending update, and replays.
use Rattle.std.proofs.Common.{◌≡◌, ℕ, List, [], Bool, true, false, if◌then◌else◌, Option, Some, None, Result, Ok, Err, IfOk, unwrap_or, refl, sym, ap, ◌∙◌, subst}
use Rattle.hk_base.specs.declared.stamp.NodeId.{NodeId}
use Rattle.hk_base.specs.declared.call.State.{State}
use Rattle.hk_base.specs.declared.call.State.TheVariants.{Valid, Invalid, Write, Replay, Trans}
use Rattle.hk_base.specs.declared.view.View.{View}
use Rattle.hk_key.specs.declared.row.Pending.{Pending}
use Rattle.hk_key.specs.declared.row.Row.{Row}
use Rattle.hk_key.specs.declared.out.Out.{Out}
use Rattle.hk_key.specs.Sound.{IsSound}
use Rattle.hk_key.specs.Table.{Done, first_row, resend, resend_at, replay, replay_at, still}
use Rattle.hk_key.proofs.Steps.{replay_keeps_sound}
use Rattle.hk_node.specs.declared.out.NodeOut.{NodeOut}
use Rattle.hk_node.specs.Rows.{Rows, find_row, row_at, with_row}
use Rattle.hk_node.specs.Node.{NodeState, members_of}
use Rattle.hk_node.specs.Stepped.{Stepped, idle, row_step}
use Rattle.hk_node.specs.declared.report.Undo.TheVariants.{Nothing}
use Rattle.hk_node.specs.Sends.{at_view, sent}
use Rattle.hk_base.specs.declared.call.CallNo.{CallNo}
use Rattle.hk_base.specs.declared.call.Op.{Op}
use Rattle.hk_base.specs.declared.memory.Memory.{Memory}
use Rattle.hk_base.specs.Range.{IsWithin}
use Rattle.hk_node.specs.declared.node.step.Decision.{Decision}
use Rattle.hk_node.specs.Calls.{at_state}
use Rattle.hk_node.specs.Decided.{decided, is_invalid}
use Rattle.hk_node.specs.Steps.{on_found, resent, replayed}
use Rattle.hk_node.specs.Outs.{IsOutOf}
use Rattle.hk_node.specs.Sound.{IsNode}
use Rattle.hk_node.specs.Report.{IsMade, rows_report}
use Rattle.hk_node.proofs.Order.{Rising, with_itself}
use Rattle.hk_node.proofs.Acts.{Acts, acts_make, replay_acts}
use Rattle.hk_node.proofs.Keeps.{row_step_kept, sound_at}
use Rattle.hk_node.proofs.Sent.{sent_alike}
use Rattle.hk_node.proofs.Outs.{out_of_still}
use Rattle.hk_node.proofs.Parts.{true_not_false}
use Rattle.hk_node.proofs.Finishing.{Inside, done_is, seen_of, members_seen}

pub row_of_found : (key : List ℕ) (row : Row) (rs : Rows) → find_row key rs ≡ Some row → row_at key rs ≡ row
row_of_found key row rs e = ap (λ (o : Option Row). unwrap_or o first_row) e

-- where the row that stands there is put, nothing changes
with_found : (key : List ℕ) (row : Row) (rs : Rows) → Rising rs → find_row key rs ≡ Some row → with_row key row rs ≡ rs
with_found key row rs rising e = ap (λ (r : Row). with_row key r rs) (sym (row_of_found key row rs e)) ∙ with_itself key rs rising

pub found_sound : (node : NodeState) (key : List ℕ) (row : Row) → IsNode node → find_row key node.rows ≡ Some row → IsSound node.id (members_of node) row
found_sound node key row ok e = subst (λ (r : Row). IsSound node.id (members_of node) r) (row_of_found key row node.rows e) (sound_at node key ok)

still_is_idle : (node : NodeState) (key : List ℕ) (row : Row) → Rising node.rows → find_row key node.rows ≡ Some row → row_step node key (still row) ≡ idle node
still_is_idle node key row rising e = ap (λ (rs : Rows). record { node = record node { rows = rs }; letters = []; told = []; installed = None }) (with_found key row node.rows rising e)

-- what a step of a row that is there makes
pub found_make : (node : NodeState) (key : List ℕ) (row : Row) (done : Done) → IsNode node → find_row key node.rows ≡ Some row → Acts key row done → IsMade node.rows key done.row
found_make node key row done ok found acts = acts_make key node.rows done ok.touched (subst (λ (r : Row). Acts key r done) (sym (row_of_found key row node.rows found)) acts)

-- ---- INV of a pending update is sent again
abbrev pub tells : NodeState → List ℕ → Row → Stepped
tells node key row = record { node = node; letters = sent node key row (resend row).out.send; told = []; installed = None }

pub resent_is : (node : NodeState) (key : List ℕ) (row : Row) → Rising node.rows → find_row key node.rows ≡ Some row → resent node key ≡ tells node key row
resent_is node key row rising e = ap (λ (o : Option Row). on_found o node key resend) e ∙ by_pending row.pending
  where
    by_pending : (o : Option Pending) → row_step node key (resend_at o row) ≡ record { node = node; letters = sent node key row (resend_at o row).out.send; told = []; installed = None }
    by_pending None = ap (λ (rs : Rows). record { node = record node { rows = rs }; letters = []; told = []; installed = None }) (with_found key row node.rows rising e)
    by_pending (Some p) = ap (λ (rs : Rows). record { node = record node { rows = rs }; letters = sent node key row (resend_at (Some p) row).out.send; told = []; installed = None }) (with_found key row node.rows rising e)

pub resent_none : (node : NodeState) (key : List ℕ) → find_row key node.rows ≡ None → resent node key ≡ idle node
resent_none node key e = ap (λ (o : Option Row). on_found o node key resend) e

pub resent_unseen : (node : NodeState) (key : List ℕ) → IsNode node → node.view ≡ None → resent node key ≡ idle node
resent_unseen node key ok none = resent_none node key (ap (λ (rs : Rows). find_row key rs) (ok.resting none))

-- ---- replays
pub replayed_unready : (node : NodeState) (key : List ℕ) → node.ready ≡ false → replayed node key ≡ idle node
replayed_unready node key e = ap (λ (b : Bool). if b then on_found (find_row key node.rows) node key (replay node.id (members_of node)) else idle node) e

pub replayed_found : (node : NodeState) (key : List ℕ) (row : Row) → node.ready ≡ true → find_row key node.rows ≡ Some row → replayed node key ≡ row_step node key (replay node.id (members_of node) row)
replayed_found node key row ready e =
    ap (λ (b : Bool). if b then on_found (find_row key node.rows) node key (replay node.id (members_of node)) else idle node) ready
    ∙ ap (λ (o : Option Row). on_found o node key (replay node.id (members_of node))) e

pub replayed_none : (node : NodeState) (key : List ℕ) → find_row key node.rows ≡ None → replayed node key ≡ idle node
replayed_none node key e = by_ready node.ready
  where
    by_ready : (b : Bool) → (if b then on_found (find_row key node.rows) node key (replay node.id (members_of node)) else idle node) ≡ idle node
    by_ready true = ap (λ (o : Option Row). on_found o node key (replay node.id (members_of node))) e
    by_ready false = refl

replays_none : (state : State) (me : NodeId) (members : List NodeId) (row : Row) → is_invalid state ≡ false → replay_at state me members row ≡ still row
replays_none Invalid me members row e = true_not_false true refl e
replays_none Valid me members row e = refl
replays_none Write me members row e = refl
replays_none Replay me members row e = refl
replays_none Trans me members row e = refl

pub replayed_still : (node : NodeState) (key : List ℕ) (row : Row) → Rising node.rows → node.ready ≡ true → find_row key node.rows ≡ Some row → is_invalid row.state ≡ false → replayed node key ≡ idle node
replayed_still node key row rising ready e s = replayed_found node key row ready e
    ∙ ap (λ (d : Done). row_step node key d) (replays_none row.state node.id (members_of node) row s) ∙ still_is_idle node key row rising e

module _ (inside node : NodeState) (view : View) (at : Inside inside node view) (key : List ℕ) (row : Row) (found : find_row key node.rows ≡ Some row) where
  pub sound_inside : IsSound inside.id view.members row
  sound_inside = subst (λ (n : NodeId). IsSound n view.members row) (sym (ap (λ (n : NodeState). n.id) at.same))
      (subst (λ (m : List NodeId). IsSound node.id m row) (members_seen inside node view at.same at.seen) (found_sound node key row (subst IsNode at.same at.ok) found))

  replay_same : replay inside.id view.members row ≡ replay node.id (members_of node) row
  replay_same = ap (λ (n : NodeId). replay n view.members row) (ap (λ (n : NodeState). n.id) at.same)
      ∙ ap (λ (m : List NodeId). replay node.id m row) (sym (members_seen inside node view at.same at.seen))

  pub replay_kept : (new : Row) → node.ready ≡ true → new ≡ (replay inside.id view.members row).row → IsNode (record node { rows = with_row key new node.rows })
  replay_kept new ready is = subst (λ (r : Row). IsNode (record node { rows = with_row key r node.rows })) (sym (is ∙ ap (λ (d : Done). d.row) replay_same))
      (row_step_kept node key (replay node.id (members_of node) row) (subst IsNode at.same at.ok) (seen_of inside node view at.same at.seen)
      (replay_keeps_sound node.id (members_of node) row (found_sound node key row (subst IsNode at.same at.ok) found)) (λ r. true_not_false node.ready ready r))

  pub replay_put : (new : Row) → new ≡ (replay inside.id view.members row).row → IsMade node.rows key new
  replay_put new is = subst (IsMade node.rows key) (sym (is ∙ ap (λ (d : Done). d.row) replay_same))
      (found_make node key row (replay node.id (members_of node) row) (subst IsNode at.same at.ok) found
      (replay_acts key node.id (members_of node) row (found_sound node key row (subst IsNode at.same at.ok) found)))

  pub replay_made : (new : Row) (out : Out) → node.ready ≡ true → new ≡ (replay inside.id view.members row).row → out ≡ (replay inside.id view.members row).out →
      row_step node key (record { row = new; out = out }) ≡ replayed node key
  replay_made new out ready is told = ap (λ (d : Done). row_step node key d) (done_is new out (replay inside.id view.members row) is told ∙ replay_same)
      ∙ sym (replayed_found node key row ready found)

-- what is told of an update that is sent again
pub resent_told : (inside node : NodeState) (view : View) (key : List ℕ) (row : Row) (out : NodeOut) → Inside inside node view → find_row key node.rows ≡ Some row →
    out.letters ≡ sent (at_view inside.id view) key row (resend row).out.send → out.replies ≡ [] → out.installed ≡ None → out.undo ≡ Nothing → out.report ≡ rows_report inside [] →
    IsOutOf out node (resent node key)
resent_told inside node view key row out at found letters replies installed undo reports =
    subst (λ (s : Stepped). IsOutOf out node s) (sym (resent_is node key row (subst IsNode at.same at.ok).ordered found))
    (out_of_still node (tells node key row) out (subst IsNode at.same at.ok) refl
    (letters ∙ sent_alike inside.id view node key row (resend row).out.send (sym (ap (λ (n : NodeState). n.id) at.same)) (sym (ap (λ (n : NodeState). n.view) at.same) ∙ at.seen))
    replies installed undo (reports ∙ ap (λ (n : NodeState). rows_report n []) at.same))

-- ---- what becomes of a call at the row that is there
pub found_within : (inside node : NodeState) (key : List ℕ) (row : Row) → IsNode inside → inside ≡ node → find_row key node.rows ≡ Some row → IsWithin row.stamp
found_within inside node key row ok same found = (found_sound node key row (subst IsNode same ok) found).within

pub decides_found : (r : Result Decision Memory) (inside node : NodeState) (key : List ℕ) (op : Op) (row : Row) → inside ≡ node → find_row key node.rows ≡ Some row →
    IfOk r (λ decision. (n : NodeState) (call : CallNo) (k : List ℕ) → n.id ≡ inside.id → decided decision n call k ≡ at_state row.state n call k op row) →
    IfOk r (λ decision. (call : CallNo) → decided decision node call key ≡ at_state (row_at key node.rows).state node call key op (row_at key node.rows))
decides_found (Ok decision) inside node key op row same found h = λ call.
    subst (λ (r : Row). decided decision node call key ≡ at_state r.state node call key op r) (sym (row_of_found key row node.rows found))
    (h node call key (sym (ap (λ (n : NodeState). n.id) same)))
decides_found (Err e) inside node key op row same found h = tt
