-- A resend, a replay and a request for copies are, for each key, effects.
use Rattle.std.proofs.Common.{◌≡◌, ◌≢◌, ℕ, Bool, true, false, cond, not, ◌&&◌, List, [], ◌∷◌, ◌∙◌, refl, ap, subst, ⊎_elim, None, sym}
use Rattle.hk_base.specs.declared.stamp.NodeId.{NodeId}
use Rattle.hk_base.specs.declared.call.State.{State}
use Rattle.hk_base.specs.declared.call.State.TheVariants as State
use Rattle.hk_base.specs.declared.letter.Body.TheVariants.{CopyAsk}
use Rattle.hk_key.specs.declared.row.Row.{Row}
use Rattle.hk_key.specs.Notes.{all_noted}
use Rattle.hk_key.specs.Table.{Done, resend, replay, replay_at}
use Rattle.hk_key.proofs.Answers.{replay_answers_none, resend_answers_none}
use Rattle.hk_key.proofs.Unchanged.{resend_keeps_row}
use Rattle.hk_key.proofs.Rising.{replay_never_lowers}
use Rattle.hk_node.proofs.Acts.{untouched_stays}
use Rattle.hk_register.specs.Parts.{Parts}
use Rattle.hk_node.specs.Rows.{find_row, row_at}
use Rattle.hk_node.specs.Node.{NodeState, members_of, is_other}
use Rattle.hk_node.specs.Sends.{letters_to}
use Rattle.hk_node.specs.Stepped.{idle, row_step}
use Rattle.hk_node.specs.Copies.{asks_copy}
use Rattle.hk_node.specs.Steps.{on_found, resent, replayed}
use Rattle.hk_effects.specs.Projection.{has_copied, phase_of, pending_stamp, Trace, project}
use Rattle.hk_effects.specs.Own.{IsOwn, IsTrace, Agrees}
use Rattle.hk_effects.proofs.Order.{cases_key}
use Rattle.hk_effects.proofs.Replies.{reply_items}
use Rattle.hk_effects.proofs.Shapes.{shaped_of_holds}
use Rattle.hk_effects.proofs.Steps.{Owes, quiet_step, resend_step}
use Rattle.hk_effects.proofs.Starts.{replay_step}
use Rattle.hk_effects.proofs.Nodes.{quiet_node, idle_step, own_told, other_told, found_step}
use Rattle.hk_effects.proofs.Rests.{row_sound}
use Rattle.hk_effects.proofs.LiveSteps.{IsLive, here, node_sound, members_are, ready_some}
use Rattle.hk_effects.proofs.Takes.{Owed}

module _ (V : ℕ → List ℕ) (key : List ℕ) (t : Trace) (parts : Parts V (project key t)) (own : IsOwn t.world) (agrees : Agrees t.world V) (tok : IsTrace t) (x : NodeState) (alive : IsLive V key t parts own agrees tok x) where
  -- the row is that of the key, or of another
  by_key : (k : List ℕ) (r : Row) → row_at k x.rows ≡ r → (step : Row → Done) → Owed V key t parts own agrees tok x alive (row_step x key (step (row_at key x.rows))) → Owed V key t parts own agrees tok x alive (row_step x k (step r))
  by_key k r at_r step owed =
      ⊎_elim
      (λ (same : key ≡ k).
      let r_is : row_at key x.rows ≡ r = ap (λ (j : List ℕ). row_at j x.rows) same ∙ at_r in
      subst (λ (k : List ℕ). Owed V key t parts own agrees tok x alive (row_step x k (step r))) same (subst (λ (r : Row). Owed V key t parts own agrees tok x alive (row_step x key (step r))) r_is owed))
      (λ (other : key ≢ k). other_told V (project key t) parts key x (here V key t parts own agrees tok x alive) k (step r) other) (cases_key key k)

  resend_here : Owed V key t parts own agrees tok x alive (row_step x key (resend (row_at key x.rows)))
  resend_here =
      let row = row_at key x.rows in
      own_told V (project key t) parts key x (here V key t parts own agrees tok x alive) (resend row) [] (λ _. resend_keeps_row row) (ap (reply_items (pending_stamp (phase_of row.state row.pending))) (resend_answers_none row))
      (resend_step V (project key t) parts key x (has_copied x key) row (here V key t parts own agrees tok x alive) row.pending refl (shaped_of_holds row.state row.pending row.stamp (row_sound x (node_sound V key t parts own agrees tok x alive) key).holds))

  pub resend_owed : (k : List ℕ) → Owed V key t parts own agrees tok x alive (resent x k)
  resend_owed k = found_step V (project key t) parts key x (here V key t parts own agrees tok x alive) k resend (λ r at_r. by_key k r at_r resend resend_here) (find_row k x.rows) refl

  replay_state : x.ready ≡ true → (state : State) → (row_at key x.rows).state ≡ state → Owes V (project key t) parts key x (has_copied x key) (row_at key x.rows) (here V key t parts own agrees tok x alive) (replay_at state x.id (members_of x) (row_at key x.rows)) [] []
  replay_state ready State.Invalid e =
      replay_step V (project key t) parts key x (has_copied x key) (row_at key x.rows) (here V key t parts own agrees tok x alive) (members_are V key t parts own agrees tok x alive (ready_some V key t parts own agrees tok x alive ready)) e ready (all_noted x.id (members_of x) []) refl
  replay_state ready State.Valid e = quiet_step V (project key t) parts key x (has_copied x key) (row_at key x.rows) (here V key t parts own agrees tok x alive)
  replay_state ready State.Write e = quiet_step V (project key t) parts key x (has_copied x key) (row_at key x.rows) (here V key t parts own agrees tok x alive)
  replay_state ready State.Replay e = quiet_step V (project key t) parts key x (has_copied x key) (row_at key x.rows) (here V key t parts own agrees tok x alive)
  replay_state ready State.Trans e = quiet_step V (project key t) parts key x (has_copied x key) (row_at key x.rows) (here V key t parts own agrees tok x alive)

  replay_here : x.ready ≡ true → Owed V key t parts own agrees tok x alive (row_step x key (replay x.id (members_of x) (row_at key x.rows)))
  replay_here ready =
      let row = row_at key x.rows in
      own_told V (project key t) parts key x (here V key t parts own agrees tok x alive) (replay x.id (members_of x) row) [] (untouched_stays key x.rows (replay x.id (members_of x) row).row (node_sound V key t parts own agrees tok x alive).touched (replay_never_lowers x.id (members_of x) row) (λ first none. ap (λ (r : Row). (replay x.id (members_of x) r).row) first ∙ sym first))
      (ap (reply_items (pending_stamp (phase_of row.state row.pending))) (replay_answers_none x.id (members_of x) row)) (replay_state ready row.state refl)

  replay_at_ready : (k : List ℕ) (b : Bool) → x.ready ≡ b → Owed V key t parts own agrees tok x alive (cond b (on_found (find_row k x.rows) x k (replay x.id (members_of x))) (idle x))
  replay_at_ready k true ready = found_step V (project key t) parts key x (here V key t parts own agrees tok x alive) k (replay x.id (members_of x)) (λ r at_r. by_key k r at_r (replay x.id (members_of x)) (replay_here ready)) (find_row k x.rows) refl
  replay_at_ready k false shadow = idle_step V (project key t) parts key x (here V key t parts own agrees tok x alive)

  pub replay_owed : (k : List ℕ) → Owed V key t parts own agrees tok x alive (replayed x k)
  replay_owed k = replay_at_ready k x.ready refl

  -- a request for copies tells nothing of the key
  pub asks_owed : (from : NodeId) (room : ℕ) → Owed V key t parts own agrees tok x alive (asks_copy x from room)
  asks_owed from room = by_test (not x.ready && is_other x from)
    where
      by_test : (b : Bool) → Owed V key t parts own agrees tok x alive (cond b (record { node = x; letters = letters_to x (CopyAsk x.cursor room) (from ∷ []); told = []; installed = None }) (idle x))
      by_test true = quiet_node V (project key t) parts key x (here V key t parts own agrees tok x alive) (record { node = x; letters = letters_to x (CopyAsk x.cursor room) (from ∷ []); told = []; installed = None }) [] refl refl refl
      by_test false = idle_step V (project key t) parts key x (here V key t parts own agrees tok x alive)
