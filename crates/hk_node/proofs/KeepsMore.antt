-- Copies, views and letters keep what every node keeps, and so does each step.
use Rattle.std.proofs.Common.{◌≡◌, ◌≢◌, ◌≤◌, arith, ℕ, List, [], ◌∷◌, map, Bool, true, false, not, ◌&&◌, ◌==◌, nat_lt, Option, Some, None, refl, sym, subst, ◌∙◌}
use Rattle.std.specs.Option.{option_or}
use Rattle.std.specs.List.{AllByRecursion}
use Rattle.std.specs.List.Sorted.{IsStrictlySortedBy}
use Rattle.std.proofs.lemmas.Bool.{and_parts}
use Rattle.std.proofs.lemmas.Bool.Decides.{nat_tests}
use Rattle.std.proofs.lemmas.Option.{none-some}
use Rattle.std.proofs.lemmas.Map.Made.{keys_of-map_values}
use Rattle.hk_base.specs.declared.stamp.NodeId.{NodeId}
use Rattle.hk_base.specs.declared.view.View.{View}
use Rattle.hk_base.specs.declared.letter.Actor.{Actor}
use Rattle.hk_base.specs.declared.letter.Actor.TheVariants.{Node, Manager}
use Rattle.hk_base.specs.declared.letter.CopyItem.{CopyItem}
use Rattle.hk_base.specs.declared.letter.Letter.{Letter}
use Rattle.hk_base.specs.declared.letter.Body.{Body}
use Rattle.hk_base.specs.declared.letter.Body.TheVariants.{Inv, Ack, Val, CopyAsk, CopyGive, LeaseAsk, LeaseGive, Prepare, Promise, Accept, Accepted, Chosen, Activate}
use Rattle.hk_base.specs.View.{IsView, is_member}
use Rattle.hk_base.specs.Range.{IsBody, IsLetter}
use Rattle.hk_copy.specs.Batches.{last_key, key_cmp}
use Rattle.hk_base.specs.Stamp.{tag_of}
use Rattle.hk_key.specs.declared.row.Row.{Row}
use Rattle.hk_key.specs.Sound.{IsSound}
use Rattle.hk_key.specs.Table.{first_row, on_inv, on_ack, on_val, on_view, on_copy, still}
use Rattle.hk_key.proofs.Steps.{first_is_sound, inv_keeps_sound, ack_keeps_sound, val_keeps_sound, view_keeps_sound, copy_keeps_sound}
use Rattle.hk_key.proofs.Rising.{view_never_lowers}
use Rattle.hk_node.specs.Rows.{Rows, row_at, is_touched, with_row}
use Rattle.hk_node.specs.Node.{NodeState, epoch_of, members_of, is_other}
use Rattle.hk_node.specs.Copies.{merged, is_next, takes_copy}
use Rattle.hk_node.specs.Heard.{raised, is_greatest, has_majority}
use Rattle.hk_node.specs.Steps.{installed_in, installs, installs_by_majority, activated_by, heard, received, is_addressed, receives_from, receives}
use Rattle.hk_node.specs.declared.event.NodeEvent.TheVariants.{Call, Receive, Resend, Replay, AskLease, AskCopy, Tick, Grant, Install}
use Rattle.hk_node.specs.Sound.{IsNode}
use Rattle.hk_node.specs.Laws.{StepKeepsNode}
use Rattle.hk_node.proofs.Order.{Rising, AreTouched, holds_at, all_with, rising_with, touched_with}
use Rattle.hk_node.proofs.Leaving.{IsItem, batch_items}
use Rattle.hk_node.proofs.Parts.{other_is, other_seen, inv_pends_none, ack_pends_none, val_pends_none, view_pends_none, copy_pends_none}
use Rattle.hk_node.proofs.Keeps.{if_kept, view_of_same, sound_at, none_pending_at, row_step_kept, on_found_kept, called_kept, resent_kept, replayed_kept, asks_copy_kept, gives_copy_kept, ticks_kept, grants_kept, granted_kept, noted_kept, asks_lease_kept}
use Rattle.hk_node.proofs.Managed.{length-raised}

-- ---- copies: what holds of each row, and of each that an item makes of such a row, holds of the merged rows
pub all_merged : (P : Row → Type 0) → P first_row → (items : List CopyItem) → AllByRecursion (λ (item : CopyItem). (row : Row) → P row → P (on_copy row item)) items →
    (rows : Rows) → AllByRecursion (λ (r : List ℕ × Row). P r.1) rows → AllByRecursion (λ (r : List ℕ × Row). P r.1) (merged items rows)
all_merged P first [] keeps rows all = all
all_merged P first (item ∷ items) keeps rows all = all_merged P first items keeps.1 (with_row item.key (on_copy (row_at item.key rows) item) rows)
    (all_with P item.key (on_copy (row_at item.key rows) item) rows (keeps.0 (row_at item.key rows) (holds_at P item.key rows first all)) all)

pub rising_merged : (items : List CopyItem) (rows : Rows) → Rising rows → Rising (merged items rows)
rising_merged [] rows rising = rising
rising_merged (item ∷ items) rows rising = rising_merged items (with_row item.key (on_copy (row_at item.key rows) item) rows) (rising_with item.key (on_copy (row_at item.key rows) item) rows rising)

pub touched_merged : (items : List CopyItem) (rows : Rows) → AreTouched rows → AreTouched (merged items rows)
touched_merged [] rows all = all
touched_merged (item ∷ items) rows all = touched_merged items (with_row item.key (on_copy (row_at item.key rows) item) rows) (touched_with item.key (on_copy (row_at item.key rows) item) rows all)

-- a stamp that does not fall stays above `0.0`
touched_up : (old new : Row) → tag_of old.stamp ≤ tag_of new.stamp → is_touched old ≡ true → is_touched new ≡ true
touched_up old new up touched = grind (arith, nat_tests)

-- what holds of all holds of each
each_of : {X : Type 0} (P : X → Type 0) → ((x : X) → P x) → (xs : List X) → AllByRecursion P xs
each_of P h [] = tt
each_of P h (x ∷ xs) = (h x, each_of P h xs)

each_from : {X : Type 0} (P Q : X → Type 0) → ((x : X) → P x → Q x) → (xs : List X) → AllByRecursion P xs → AllByRecursion Q xs
each_from P Q h [] all = tt
each_from P Q h (x ∷ xs) all = (h x all.0, each_from P Q h xs all.1)

not_is : (b : Bool) → not b ≡ true → b ≡ false
not_is true e = sym e
not_is false e = refl

pub takes_copy_kept : (node : NodeState) (after : Option (List ℕ)) (done : Bool) (items : List CopyItem) → node.view ≢ None →
    AllByRecursion IsItem items → IsNode node → IsNode (takes_copy node after done items).node
takes_copy_kept node after done items seen fit ok = if_kept (not node.ready && is_next after node.cursor) node (record { node = after_copy; letters = []; told = []; installed = None }) ok (λ t.
    let unready = not_is node.ready (and_parts (not node.ready) (is_next after node.cursor) t).0 in
    record {
      view = view_of_same node after_copy refl node.view ok.view;
      resting = λ none. absurd (seen none);
      unready = λ none. absurd (seen none);
      ordered = rising_merged items node.rows ok.ordered;
      rows = all_merged (IsSound node.id (members_of node)) (first_is_sound node.id (members_of node)) items
          (each_from IsItem (λ item. (row : Row) → IsSound node.id (members_of node) row → IsSound node.id (members_of node) (on_copy row item))
          (λ item w row sound. copy_keeps_sound node.id (members_of node) row item w.0 w.1 sound) items fit) node.rows ok.rows;
      touched = touched_merged items node.rows ok.touched;
      shadow = λ e. all_merged (λ row. row.pending ≡ None) refl items
          (each_of (λ item. (row : Row) → row.pending ≡ None → (on_copy row item).pending ≡ None) (λ item row none. copy_pends_none row item none) items) node.rows (ok.shadow unready);
      clock_runs = ok.clock_runs;
      clock = ok.clock;
      granted = ok.granted;
      skew = ok.skew;
      heard = ok.heard;
    })
  where
    after_copy : NodeState
    after_copy = record node { ready = done; cursor = option_or (last_key items) node.cursor; rows = merged items node.rows }

-- ---- views
all_mapped : (P Q : Row → Type 0) (step : Row → Row) → ((row : Row) → P row → Q (step row)) → (rows : Rows) → AllByRecursion (λ (r : List ℕ × Row). P r.1) rows →
    AllByRecursion (λ (r : List ℕ × Row). Q r.1) (map (λ (r : List ℕ × Row). (r.0, step r.1)) rows)
all_mapped P Q step h [] all = tt
all_mapped P Q step h (r ∷ rows) all = (h r.1 all.0, all_mapped P Q step h rows all.1)

-- The rows are sound for the members of the view before: all rows of a node that installs a view are sound for its members.
pub installs_kept : (node : NodeState) (view : View) → IsView view → IsNode node → IsNode (installs node view).node
installs_kept node view is_view ok = if_kept (nat_lt (epoch_of node) view.epoch && is_member node.id view.members) node (installed_in new view.epoch) ok (λ t.
    record {
      view = record { is_view = is_view; member = (and_parts (nat_lt (epoch_of node) view.epoch) (is_member node.id view.members) t).1 };
      resting = λ none. absurd (none-some view (sym none));
      unready = λ none. absurd (none-some view (sym none));
      ordered = subst (λ (keys : List (List ℕ)). IsStrictlySortedBy key_cmp keys) (sym (keys_of-map_values step node.rows)) ok.ordered;
      rows = all_mapped (IsSound node.id (members_of node)) (IsSound node.id view.members) step (view_keeps_sound node.id (members_of node) view.members) node.rows ok.rows;
      touched = all_mapped (λ row. is_touched row ≡ true) (λ row. is_touched row ≡ true) step (λ row. touched_up row (step row) (view_never_lowers node.id view.members row)) node.rows ok.touched;
      shadow = λ e. all_mapped (λ row. row.pending ≡ None) (λ row. row.pending ≡ None) step (view_pends_none node.id view.members) node.rows (ok.shadow e);
      clock_runs = ok.clock_runs;
      clock = ok.clock;
      granted = ok.granted;
      skew = ok.skew;
      heard = ok.heard;
    })
  where
    new : NodeState
    new = record node { view = Some view }

    step : Row → Row
    step row = (on_view node.id view.members row).row

-- ---- letters
pub received_kept : (body : Body) (node : NodeState) (from : NodeId) → IsBody body → is_other node from ≡ true → IsNode node → IsNode (received body node from).node
received_kept (Inv key s kind content) node from within other ok =
    row_step_kept node key (on_inv (row_at key node.rows) from s kind content) ok (other_seen node from other)
    (inv_keeps_sound node.id (members_of node) (row_at key node.rows) from s kind content within.0 within.1 (sound_at node key ok))
    (λ e. inv_pends_none (row_at key node.rows) from s kind content (none_pending_at node key ok e))
received_kept (Ack key s top) node from within other ok = on_found_kept node key (λ row. on_ack node.id (members_of node) row from s top) ok
    (λ row sound. ack_keeps_sound node.id (members_of node) row from s top (other_is node from other) sound)
    (λ e row none. ack_pends_none node.id (members_of node) row from s top none)
received_kept (Val key s) node from within other ok = on_found_kept node key (λ row. still (on_val row s)) ok
    (λ row sound. val_keeps_sound node.id (members_of node) row s sound)
    (λ e row none. val_pends_none row s none)
received_kept (CopyAsk after room) node from within other ok = gives_copy_kept node from after room ok
received_kept (CopyGive after done items) node from within other ok =
    takes_copy_kept node after done items (other_seen node from other) (batch_items items within) ok
received_kept (LeaseAsk asked) node from within other ok = ok
received_kept (LeaseGive end) node from within other ok = ok
received_kept (Prepare ballot) node from within other ok = ok
received_kept (Promise ballot vote) node from within other ok = ok
received_kept (Accept ballot view) node from within other ok = ok
received_kept (Accepted ballot) node from within other ok = ok
received_kept (Chosen view) node from within other ok = ok
received_kept (Activate view) node from within other ok = ok

-- ---- managers
-- a view that a majority activated is installed, or it is not
pub majority_kept : (node : NodeState) (view : View) → IsView view → IsNode node → IsNode (installs_by_majority node view).node
majority_kept node view is_view ok = if_kept (has_majority view.epoch node.activated) node (installs node view) ok (λ many. installs_kept node view is_view ok)

activated_kept : (node : NodeState) (manager : ℕ) (view : View) → IsView view → IsNode node → IsNode (activated_by node manager view).node
activated_kept node manager view is_view ok =
    if_kept (is_greatest view.epoch node.activated) node (installs_by_majority (record node { activated = raised manager view.epoch node.activated }) view) ok
    (λ greatest. majority_kept (record node { activated = raised manager view.epoch node.activated }) view is_view
    (noted_kept node (raised manager view.epoch node.activated) (length-raised manager view.epoch node.activated ∙ ok.heard.each_epoch) ok))

heard_kept : (body : Body) (node : NodeState) (manager : ℕ) → IsBody body → IsNode node → IsNode (heard body node manager).node
heard_kept (LeaseGive end) node manager within ok = granted_kept node manager end within ok
heard_kept (Activate view) node manager within ok = activated_kept node manager view within ok
heard_kept (Inv key s kind content) node manager within ok = ok
heard_kept (Ack key s top) node manager within ok = ok
heard_kept (Val key s) node manager within ok = ok
heard_kept (CopyAsk after room) node manager within ok = ok
heard_kept (CopyGive after done items) node manager within ok = ok
heard_kept (LeaseAsk asked) node manager within ok = ok
heard_kept (Prepare ballot) node manager within ok = ok
heard_kept (Promise ballot vote) node manager within ok = ok
heard_kept (Accept ballot view) node manager within ok = ok
heard_kept (Accepted ballot) node manager within ok = ok
heard_kept (Chosen view) node manager within ok = ok

pub receives_kept : (node : NodeState) (letter : Letter) → IsLetter letter → IsNode node → IsNode (receives node letter).node
receives_kept node letter within ok = by_sender letter.from
  where
    by_sender : (actor : Actor) → IsNode (receives_from actor node letter).node
    by_sender (Manager from) = if_kept (is_addressed node letter.to && nat_lt from node.managers) node (heard letter.body node from) ok (λ t. heard_kept letter.body node from within.body ok)
    by_sender (Node from) = if_kept (is_addressed node letter.to && ((letter.epoch == epoch_of node) && is_other node from)) node (received letter.body node from) ok (λ t.
        let rest = and_parts (is_addressed node letter.to) ((letter.epoch == epoch_of node) && is_other node from) t in
        let other = and_parts (letter.epoch == epoch_of node) (is_other node from) rest.1 in
        received_kept letter.body node from within.body other.1 ok)

pub step_keeps_node : StepKeepsNode
step_keeps_node node (Call call key op) ok within = called_kept node call key op ok
step_keeps_node node (Receive letter) ok within = receives_kept node letter within ok
step_keeps_node node (Resend key) ok within = resent_kept node key ok
step_keeps_node node (Replay key) ok within = replayed_kept node key ok
step_keeps_node node (AskLease manager) ok within = asks_lease_kept node manager ok
step_keeps_node node (AskCopy from room) ok within = asks_copy_kept node from room ok
step_keeps_node node (Tick now) ok within = ticks_kept node now within ok
step_keeps_node node (Grant end) ok within = grants_kept node end within ok
step_keeps_node node (Install view) ok within = installs_kept node view within ok
