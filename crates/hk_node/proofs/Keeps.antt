-- Steps of one row, calls, clocks and leases keep what every node keeps.
use Rattle.std.proofs.Common.{◌≡◌, ◌≢◌, ◌≤◌, ◌+◌, ℕ, List, length, Bool, true, false, not, ◌&&◌, if◌then◌else◌, nat_lt, Option, Some, None, IfSome, refl, sym, arith, subst}
use Rattle.std.proofs.lemmas.Option.{IfSome_then, none-some}
use Rattle.hk_base.specs.declared.stamp.Stamp.{Stamp}
use Rattle.hk_base.specs.declared.stamp.NodeId.{NodeId}
use Rattle.hk_base.specs.declared.time.TheConstants.{MAX_TIME}
use Rattle.hk_base.specs.declared.call.CallNo.{CallNo}
use Rattle.hk_base.specs.declared.call.Op.{Op}
use Rattle.hk_base.specs.declared.call.State.{State}
use Rattle.hk_base.specs.declared.call.State.TheVariants.{Valid, Invalid, Write, Replay, Trans}
use Rattle.hk_base.specs.declared.view.View.{View}
use Rattle.hk_base.specs.Register.{act}
use Rattle.hk_base.specs.Stamp.{tag_of}
use Rattle.hk_key.specs.declared.row.Row.{Row}
use Rattle.hk_key.specs.Sound.{IsSound}
use Rattle.hk_key.specs.Table.{Done, begin, resend, replay}
use Rattle.hk_key.proofs.Steps.{first_is_sound, begin_is_sound, replay_keeps_sound}
use Rattle.hk_key.proofs.Unchanged.{resend_keeps_row}
use Rattle.hk_node.specs.Rows.{Rows, find_row, row_at}
use Rattle.hk_node.specs.Node.{NodeState, members_of, is_other}
use Rattle.hk_node.specs.Stepped.{Stepped, idle, row_step}
use Rattle.hk_node.specs.Calls.{kind_of, next_stamp, register_in, at_limit, at_turn, at_state, at_lease, lease_end, called}
use Rattle.hk_node.specs.Copies.{asks_copy, gives_copy}
use Rattle.hk_node.specs.Heard.{raised}
use Rattle.hk_node.specs.Steps.{on_found, resent, replayed, ticks, grants, granted_by, asks_lease}
use Rattle.hk_node.specs.Sound.{IsViewOf, IsNode}
use Rattle.hk_node.proofs.Order.{holds_found, holds_at, all_with, rising_with, touched_with}
use Rattle.hk_node.proofs.Managed.{end_within, ends_heard, activated_heard}
use Rattle.hk_node.proofs.Leaving.{act_leaves, later_above}
use Rattle.hk_node.proofs.Parts.{next_is_next, leased_is_ready, ready_seen, true_not_false}

-- a step that is made by a test, or else nothing
pub if_kept : (b : Bool) (node : NodeState) (stepped : Stepped) → IsNode node → (b ≡ true → IsNode stepped.node) → IsNode (if b then stepped else idle node).node
if_kept true node stepped ok step = step refl
if_kept false node stepped ok step = ok

-- the view of a node is one of another that has the same number
pub view_of_same : (node other : NodeState) → other.id ≡ node.id → (o : Option View) → IfSome o (λ view. IsViewOf node view) → IfSome o (λ view. IsViewOf other view)
view_of_same node other same o h = IfSome_then o h (λ (view : View) (v : IsViewOf node view). record { is_view = v.is_view; member = rw same v.member })

-- each row of a node is sound, and so is the first row, which stands for one that is not there
pub sound_at : (node : NodeState) (key : List ℕ) → IsNode node → IsSound node.id (members_of node) (row_at key node.rows)
sound_at node key ok = holds_at (IsSound node.id (members_of node)) key node.rows (first_is_sound node.id (members_of node)) ok.rows

pub none_pending_at : (node : NodeState) (key : List ℕ) → IsNode node → node.ready ≡ false → (row_at key node.rows).pending ≡ None
none_pending_at node key ok e = holds_at (λ row. row.pending ≡ None) key node.rows refl (ok.shadow e)

-- a node that has a row has a view
pub found_seen : (node : NodeState) (key : List ℕ) (row : Row) → IsNode node → find_row key node.rows ≡ Some row → node.view ≢ None
found_seen node key row ok found none = none-some row (subst (λ (rows : Rows). find_row key rows ≡ Some row) (ok.resting none) found)

-- A row makes a step to a sound row: the node is one still.
pub row_step_kept : (node : NodeState) (key : List ℕ) (done : Done) → IsNode node → node.view ≢ None → IsSound node.id (members_of node) done.row →
    (node.ready ≡ false → done.row.pending ≡ None) → IsNode (row_step node key done).node
row_step_kept node key done ok seen sound shadow = record {
  view = view_of_same node (row_step node key done).node refl node.view ok.view;
  resting = λ none. absurd (seen none);
  unready = ok.unready;
  ordered = rising_with key done.row node.rows ok.ordered;
  rows = all_with (IsSound node.id (members_of node)) key done.row node.rows sound ok.rows;
  touched = touched_with key done.row node.rows ok.touched;
  shadow = λ e. all_with (λ row. row.pending ≡ None) key done.row node.rows (shadow e) (ok.shadow e);
  clock_runs = ok.clock_runs;
  clock = ok.clock;
  granted = ok.granted;
  skew = ok.skew;
  heard = ok.heard;
}

-- the same of a row that is there, if it is
pub on_found_kept : (node : NodeState) (key : List ℕ) (step : Row → Done) → IsNode node →
    ((row : Row) → IsSound node.id (members_of node) row → IsSound node.id (members_of node) (step row).row) →
    (node.ready ≡ false → (row : Row) → row.pending ≡ None → (step row).row.pending ≡ None) →
    IsNode (on_found (find_row key node.rows) node key step).node
on_found_kept node key step ok sound shadow = by_found (find_row key node.rows) refl
  where
    by_found : (o : Option Row) → find_row key node.rows ≡ o → IsNode (on_found o node key step).node
    by_found None e = ok
    by_found (Some row) e = row_step_kept node key (step row) ok (found_seen node key row ok e)
        (sound row (subst (λ (o : Option Row). IfSome o (IsSound node.id (members_of node))) e (holds_found (IsSound node.id (members_of node)) key node.rows ok.rows)))
        (λ r. shadow r row (subst (λ (o : Option Row). IfSome o (λ q. q.pending ≡ None)) e (holds_found (λ q. q.pending ≡ None) key node.rows (ok.shadow r))))

pub resent_kept : (node : NodeState) (key : List ℕ) → IsNode node → IsNode (resent node key).node
resent_kept node key ok = on_found_kept node key resend ok
    (λ row sound. subst (IsSound node.id (members_of node)) (sym (resend_keeps_row row)) sound)
    (λ r row none. subst (λ (q : Row). q.pending ≡ None) (sym (resend_keeps_row row)) none)

pub replayed_kept : (node : NodeState) (key : List ℕ) → IsNode node → IsNode (replayed node key).node
replayed_kept node key ok = if_kept node.ready node (on_found (find_row key node.rows) node key (replay node.id (members_of node))) ok
    (λ ready. on_found_kept node key (replay node.id (members_of node)) ok (replay_keeps_sound node.id (members_of node)) (λ r. true_not_false node.ready ready r))

-- ---- calls
-- the step of a row by which a call begins its update of the stamp
abbrev pub begun : NodeState → CallNo → Op → Row → Stamp → Done
begun node call op row s = begin node.id (members_of node) (record { call = call; answer = (act op (register_in row) (tag_of s)).answer }) s
    (kind_of op) (act op (register_in row) (tag_of s)).register.content

pub called_kept : (node : NodeState) (call : CallNo) (key : List ℕ) (op : Op) → IsNode node → IsNode (called node call key op).node
called_kept node call key op ok = by_lease (nat_lt (lease_end node) (node.clock + node.skew)) refl
  where
    the_row : Row
    the_row = row_at key node.rows

    by_limit : (o : Option Stamp) → node.ready ≡ true → next_stamp (kind_of op) the_row.stamp node.id ≡ o → IsNode (at_limit o node call key op the_row).node
    by_limit None ready e = ok
    by_limit (Some s) ready e = row_step_kept node key (begun node call op the_row s) ok (ready_seen node ok ready)
        (begin_is_sound node.id (members_of node) (record { call = call; answer = (act op (register_in the_row) (tag_of s)).answer }) s (kind_of op)
        (act op (register_in the_row) (tag_of s)).register.content (next_is_next (kind_of op) the_row.stamp node.id s e).within
        (later_above the_row.stamp s (next_is_next (kind_of op) the_row.stamp node.id s e).above) (act_leaves op the_row.content (tag_of the_row.stamp) (tag_of s)))
        (λ r. true_not_false node.ready ready r)

    by_turn : (b : Bool) → node.ready ≡ true → IsNode (at_turn b node call key op the_row).node
    by_turn false ready = ok
    by_turn true ready = by_limit (next_stamp (kind_of op) the_row.stamp node.id) ready refl

    by_state : (state : State) → node.ready ≡ true → IsNode (at_state state node call key op the_row).node
    by_state Valid ready = by_turn (act op (register_in the_row) 0).changed ready
    by_state Invalid ready = ok
    by_state Write ready = ok
    by_state Replay ready = ok
    by_state Trans ready = ok

    by_lease : (b : Bool) → nat_lt (lease_end node) (node.clock + node.skew) ≡ b → IsNode (at_lease b node call key op).node
    by_lease true e = ok
    by_lease false e = by_state the_row.state (leased_is_ready node ok e)

-- ---- clocks, leases, and what changes no node
pub ticks_kept : (node : NodeState) (now : ℕ) → now ≤ MAX_TIME → IsNode node → IsNode (ticks node now).node
ticks_kept node now within ok =
    let runs = ok.clock_runs in
    let clock = ok.clock in
    record {
      view = view_of_same node (ticks node now).node refl node.view ok.view;
      resting = ok.resting;
      unready = ok.unready;
      ordered = ok.ordered;
      rows = ok.rows;
      touched = ok.touched;
      shadow = ok.shadow;
      clock_runs = grind arith;
      clock = grind arith;
      granted = ok.granted;
      skew = ok.skew;
      heard = ok.heard;
    }

pub grants_kept : (node : NodeState) (end : ℕ) → end ≤ MAX_TIME → IsNode node → IsNode (grants node end).node
grants_kept node end within ok =
    let granted = ok.granted in
    record {
      view = view_of_same node (grants node end).node refl node.view ok.view;
      resting = ok.resting;
      unready = ok.unready;
      ordered = ok.ordered;
      rows = ok.rows;
      touched = ok.touched;
      shadow = ok.shadow;
      clock_runs = ok.clock_runs;
      clock = ok.clock;
      granted = grind arith;
      skew = ok.skew;
      heard = ok.heard;
    }

-- a manager granted an end
pub granted_kept : (node : NodeState) (manager end : ℕ) → end ≤ MAX_TIME → IsNode node → IsNode (granted_by node manager end).node
granted_kept node manager end within ok =
    let heard = ends_heard node.managers node.ends node.activated manager end within ok.heard in
    let before = ok.granted in
    let granted = end_within (raised manager end node.ends) heard.within in
    record {
      view = view_of_same node (granted_by node manager end).node refl node.view ok.view;
      resting = ok.resting;
      unready = ok.unready;
      ordered = ok.ordered;
      rows = ok.rows;
      touched = ok.touched;
      shadow = ok.shadow;
      clock_runs = ok.clock_runs;
      clock = ok.clock;
      granted = grind arith;
      skew = ok.skew;
      heard = heard;
    }

-- other ACTIVATEs are kept
pub noted_kept : (node : NodeState) (activated : List ℕ) → length activated ≡ node.managers → IsNode node → IsNode (record node { activated = activated })
noted_kept node activated each ok = record {
  view = view_of_same node (record node { activated = activated }) refl node.view ok.view;
  resting = ok.resting;
  unready = ok.unready;
  ordered = ok.ordered;
  rows = ok.rows;
  touched = ok.touched;
  shadow = ok.shadow;
  clock_runs = ok.clock_runs;
  clock = ok.clock;
  granted = ok.granted;
  skew = ok.skew;
  heard = activated_heard node.managers node.ends node.activated activated each ok.heard;
}

pub asks_lease_kept : (node : NodeState) (manager : ℕ) → IsNode node → IsNode (asks_lease node manager).node
asks_lease_kept node manager ok = if_kept (nat_lt manager node.managers) node _ ok (λ asks. ok)

pub asks_copy_kept : (node : NodeState) (from : NodeId) (room : ℕ) → IsNode node → IsNode (asks_copy node from room).node
asks_copy_kept node from room ok = if_kept (not node.ready && is_other node from) node _ ok (λ asks. ok)

pub gives_copy_kept : (node : NodeState) (to : NodeId) (after : Option (List ℕ)) (room : ℕ) → IsNode node → IsNode (gives_copy node to after room).node
gives_copy_kept node to after room ok = if_kept node.ready node _ ok (λ gives. ok)
