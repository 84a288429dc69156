-- The ways that a step of a node can go. What holds in each way holds of every step.
use Rattle.std.proofs.Common.{◌≡◌, ◌+◌, ℕ, List, [], ◌∷◌, Bool, true, false, not, ◌&&◌, ◌==◌, if◌then◌else◌, nat_lt, max, Option, Some, None, IfSome, unwrap_or, refl, sym, ap, subst, arith}
use Rattle.std.specs.Option.{option_or}
use Rattle.std.specs.List.{AllByRecursion}
use Rattle.std.proofs.lemmas.Bool.{and_parts}
use Rattle.std.proofs.lemmas.Bool.Decides.{nat_tests}
use Rattle.std.proofs.lemmas.List.Elements.{recursion_from_All}
use Rattle.hk_base.specs.declared.stamp.Stamp.{Stamp}
use Rattle.hk_base.specs.declared.stamp.NodeId.{NodeId}
use Rattle.hk_base.specs.declared.call.CallNo.{CallNo}
use Rattle.hk_base.specs.declared.call.Answer.{Answer}
use Rattle.hk_base.specs.declared.call.Op.{Op}
use Rattle.hk_base.specs.declared.call.State.{State}
use Rattle.hk_base.specs.declared.view.View.{View}
use Rattle.hk_base.specs.declared.letter.Actor.{Actor}
use Rattle.hk_base.specs.declared.letter.Actor.TheVariants.{Node, Manager}
use Rattle.hk_base.specs.declared.letter.CopyItem.{CopyItem}
use Rattle.hk_base.specs.declared.letter.Letter.{Letter}
use Rattle.hk_base.specs.declared.letter.Body.{Body}
use Rattle.hk_base.specs.declared.letter.Body.TheVariants.{Inv, Ack, Val, CopyAsk, CopyGive, LeaseAsk, LeaseGive, Prepare, Promise, Accept, Accepted, Chosen, Activate}
use Rattle.hk_base.specs.Range.{IsWithin, IsBody, IsLetter}
use Rattle.hk_base.specs.Register.{act}
use Rattle.hk_copy.specs.Batches.{is_nil, last_key}
use Rattle.hk_lease.specs.Ends.{granted_end}
use Rattle.hk_key.specs.declared.row.Row.{Row}
use Rattle.hk_key.specs.Sound.{IsSound}
use Rattle.hk_key.specs.Table.{Done, first_row, on_inv, on_ack, on_val, on_view, still, resend, replay}
use Rattle.hk_node.specs.declared.event.NodeEvent.{NodeEvent}
use Rattle.hk_node.specs.declared.event.NodeEvent.TheVariants.{Call, Receive, Resend, Replay, AskLease, AskCopy, Tick, Grant, Install}
use Rattle.hk_node.specs.Rows.{Rows, find_row, row_at}
use Rattle.hk_node.specs.Node.{NodeState, epoch_of, members_of, is_other}
use Rattle.hk_base.specs.View.{is_member}
use Rattle.hk_node.specs.Sends.{letters_to}
use Rattle.hk_node.specs.Stepped.{Stepped, idle, row_step}
use Rattle.hk_node.specs.Calls.{kind_of, next_stamp, register_in, answers, at_limit, at_turn, at_state, at_lease, lease_end, called}
use Rattle.hk_node.specs.Copies.{merged, is_next, batch_behind}
use Rattle.hk_node.specs.Heard.{raised, is_greatest, has_majority}
use Rattle.hk_node.specs.Steps.{on_found, viewed, installed_in, installs, installs_by_majority, heard, received, is_addressed, receives_from, receives, node_step}
use Rattle.hk_node.specs.Sound.{IsNode, IsNodeEvent}
use Rattle.hk_node.specs.Laws.{key_in, key_of, IsNoCall}
use Rattle.hk_node.proofs.Order.{holds_found}
use Rattle.hk_node.proofs.Parts.{leased_is_ready}
use Rattle.hk_node.proofs.Keeps.{begun, sound_at}
use Rattle.hk_node.proofs.Acts.{Acts, inv_acts, ack_acts, val_acts, resend_acts, replay_acts, view_acts}
use Rattle.hk_node.proofs.Batched.{batch_within}

-- ---- a call is answered at once, or begins
pub record CallCases (P : Stepped → Type 0) (node : NodeState) (call : CallNo) (key : List ℕ) (op : Op) : Type 0 where
  pub answered : (answer : Answer) → P (answers node key call answer)
  pub begins : (s : Stamp) → node.ready ≡ true → (row_at key node.rows).state ≡ State.Valid → next_stamp (kind_of op) (row_at key node.rows).stamp node.id ≡ Some s →
      P (row_step node key (begun node call op (row_at key node.rows) s))

pub by_call : (P : Stepped → Type 0) (node : NodeState) (call : CallNo) (key : List ℕ) (op : Op) → IsNode node → CallCases P node call key op → P (called node call key op)
by_call P node call key op ok ways = by_lease (nat_lt (lease_end node) (node.clock + node.skew)) refl
  where
    the_row : Row
    the_row = row_at key node.rows

    by_limit : (o : Option Stamp) → node.ready ≡ true → the_row.state ≡ State.Valid → next_stamp (kind_of op) the_row.stamp node.id ≡ o → P (at_limit o node call key op the_row)
    by_limit None ready valid e = ways.answered _
    by_limit (Some s) ready valid e = ways.begins s ready valid e

    by_turn : (b : Bool) → node.ready ≡ true → the_row.state ≡ State.Valid → P (at_turn b node call key op the_row)
    by_turn false ready valid = ways.answered _
    by_turn true ready valid = by_limit (next_stamp (kind_of op) the_row.stamp node.id) ready valid refl

    by_state : (state : State) → node.ready ≡ true → the_row.state ≡ state → P (at_state state node call key op the_row)
    by_state State.Valid ready e = by_turn (act op (register_in the_row) 0).changed ready e
    by_state State.Invalid ready e = ways.answered _
    by_state State.Write ready e = ways.answered _
    by_state State.Replay ready e = ways.answered _
    by_state State.Trans ready e = ways.answered _

    by_lease : (b : Bool) → nat_lt (lease_end node) (node.clock + node.skew) ≡ b → P (at_lease b node call key op)
    by_lease true e = ways.answered _
    by_lease false e = by_state the_row.state (leased_is_ready node ok e) refl

-- ---- every other event, by the key that it names
pub record StepCases (P : Stepped → Type 0) (node : NodeState) (named : Option (List ℕ)) : Type 0 where
  -- no more than a clock, a lease or what was heard from managers changes
  pub quiet : (clock granted : ℕ) (ends activated : List ℕ) → P (idle (record node { clock = clock; granted = granted; ends = ends; activated = activated }))
  -- nothing changes, and something of no row is sent
  pub sends : (letters : List Letter) → AllByRecursion IsLetter letters → P (record { node = node; letters = letters; told = []; installed = None })
  -- the row of the key makes a step
  pub row : (key : List ℕ) (done : Done) → named ≡ Some key → Acts key (row_at key node.rows) done → P (row_step node key done)
  -- rows are copied
  pub takes : (cursor : Option (List ℕ)) (done : Bool) (items : List CopyItem) → named ≡ None → node.ready ≡ false → AllByRecursion (λ item. IsWithin item.stamp) items →
      P (record { node = record node { ready = done; cursor = cursor; rows = merged items node.rows }; letters = []; told = []; installed = None })
  -- all rows make the step of a view
  pub installs : (view : View) (activated : List ℕ) → named ≡ None → AllByRecursion (λ r. Acts r.0 r.1 (viewed (record node { view = Some view; activated = activated }) r)) node.rows →
      P (installed_in (record node { view = Some view; activated = activated }) view.epoch)

pub letters_within : (node : NodeState) (body : Body) (to : List NodeId) → IsBody body → AllByRecursion IsLetter (letters_to node body to)
letters_within node body [] h = tt
letters_within node body (n ∷ to) h = (record { from = tt; to = tt; body = h }, letters_within node body to h)

by_if : (P : Stepped → Type 0) (b : Bool) (node : NodeState) (stepped : Stepped) → P (idle node) → (b ≡ true → P stepped) → P (if b then stepped else idle node)
by_if P true node stepped rests steps = steps refl
by_if P false node stepped rests steps = rests

not_is : (b : Bool) → not b ≡ true → b ≡ false
not_is true e = sym e
not_is false e = refl

views_act : (me : NodeId) (old new : List NodeId) (rows : Rows) → AllByRecursion (λ r. IsSound me old r.1) rows →
    AllByRecursion (λ (r : List ℕ × Row). Acts r.0 r.1 (on_view me new r.1)) rows
views_act me old new [] all = tt
views_act me old new (r ∷ rows) all = (view_acts r.0 me old r.1 all.0 new, views_act me old new rows all.1)

module _ (P : Stepped → Type 0) (node : NodeState) (ok : IsNode node) where
  by_found : (named : Option (List ℕ)) (key : List ℕ) (step : Row → Done) → StepCases P node named → named ≡ Some key →
      ((row : Row) → IsSound node.id (members_of node) row → Acts key row (step row)) → P (on_found (find_row key node.rows) node key step)
  by_found named key step ways names acts = by_row (find_row key node.rows) refl
    where
      by_row : (o : Option Row) → find_row key node.rows ≡ o → P (on_found o node key step)
      by_row None e = ways.quiet node.clock node.granted node.ends node.activated
      by_row (Some row) e = ways.row key (step row) names (subst (λ (r : Row). Acts key r (step row)) (sym (ap (λ (o : Option Row). unwrap_or o first_row) e))
          (acts row (subst (λ (o : Option Row). IfSome o (IsSound node.id (members_of node))) e (holds_found (IsSound node.id (members_of node)) key node.rows ok.rows))))

  by_body : (body : Body) (from : NodeId) → IsBody body → StepCases P node (key_in body) → P (received body node from)
  by_body (Inv key s kind content) from within ways = ways.row key (on_inv (row_at key node.rows) from s kind content) refl
      (inv_acts key node.id (members_of node) (row_at key node.rows) (sound_at node key ok) from s kind content within.0 within.1)
  by_body (Ack key s top) from within ways = by_found (Some key) key (λ row. on_ack node.id (members_of node) row from s top) ways refl
      (λ row sound. ack_acts key node.id (members_of node) row sound from s top)
  by_body (Val key s) from within ways = by_found (Some key) key (λ row. still (on_val row s)) ways refl (λ row sound. val_acts key node.id (members_of node) row sound s)
  by_body (CopyAsk after room) from within ways = by_if P node.ready node _ (ways.quiet node.clock node.granted node.ends node.activated)
      (λ t. ways.sends _ (letters_within node (CopyGive after (is_nil (batch_behind node after room).left) (batch_behind node after room).taken) (from ∷ []) (batch_within node after room ok within)))
  by_body (CopyGive after done items) from within ways = by_if P (not node.ready && is_next after node.cursor) node _ (ways.quiet node.clock node.granted node.ends node.activated)
      (λ t. ways.takes (option_or (last_key items) node.cursor) done items refl (not_is node.ready (and_parts (not node.ready) (is_next after node.cursor) t).0)
      (recursion_from_All (λ item. IsWithin item.stamp) items within.within))
  by_body (LeaseAsk asked) from within ways = ways.quiet node.clock node.granted node.ends node.activated
  by_body (LeaseGive end) from within ways = ways.quiet node.clock node.granted node.ends node.activated
  by_body (Prepare ballot) from within ways = ways.quiet node.clock node.granted node.ends node.activated
  by_body (Promise ballot vote) from within ways = ways.quiet node.clock node.granted node.ends node.activated
  by_body (Accept ballot view) from within ways = ways.quiet node.clock node.granted node.ends node.activated
  by_body (Accepted ballot) from within ways = ways.quiet node.clock node.granted node.ends node.activated
  by_body (Chosen view) from within ways = ways.quiet node.clock node.granted node.ends node.activated
  by_body (Activate view) from within ways = ways.quiet node.clock node.granted node.ends node.activated

  -- what a manager says names no key
  by_heard : (body : Body) (manager : ℕ) → StepCases P node (key_in body) → P (heard body node manager)
  by_heard (LeaseGive end) manager ways =
      let ends = raised manager end node.ends in
      ways.quiet node.clock (max node.granted (granted_end ends)) ends node.activated
  by_heard (Activate view) manager ways = by_if P (is_greatest view.epoch node.activated) node (installs_by_majority noted view) (ways.quiet node.clock node.granted node.ends node.activated)
      (λ g. by_if P (has_majority view.epoch after) noted (installs noted view) rests
      (λ m. by_if P (nat_lt (epoch_of node) view.epoch && is_member node.id view.members) noted (installed_in (record noted { view = Some view }) view.epoch) rests
      (λ t. ways.installs view after refl (views_act node.id (members_of node) view.members node.rows ok.rows))))
    where
      after : List ℕ
      after = raised manager view.epoch node.activated

      noted : NodeState
      noted = record node { activated = after }

      rests : P (idle noted)
      rests = ways.quiet node.clock node.granted node.ends after
  by_heard (Inv key s kind content) manager ways = ways.quiet node.clock node.granted node.ends node.activated
  by_heard (Ack key s top) manager ways = ways.quiet node.clock node.granted node.ends node.activated
  by_heard (Val key s) manager ways = ways.quiet node.clock node.granted node.ends node.activated
  by_heard (CopyAsk after room) manager ways = ways.quiet node.clock node.granted node.ends node.activated
  by_heard (CopyGive after done items) manager ways = ways.quiet node.clock node.granted node.ends node.activated
  by_heard (LeaseAsk asked) manager ways = ways.quiet node.clock node.granted node.ends node.activated
  by_heard (Prepare ballot) manager ways = ways.quiet node.clock node.granted node.ends node.activated
  by_heard (Promise ballot vote) manager ways = ways.quiet node.clock node.granted node.ends node.activated
  by_heard (Accept ballot view) manager ways = ways.quiet node.clock node.granted node.ends node.activated
  by_heard (Accepted ballot) manager ways = ways.quiet node.clock node.granted node.ends node.activated
  by_heard (Chosen view) manager ways = ways.quiet node.clock node.granted node.ends node.activated

  -- a lease is asked of a manager that is there
  asked_within : (manager : ℕ) → nat_lt manager node.managers ≡ true →
      AllByRecursion IsLetter (record { epoch = epoch_of node; from = Node node.id; to = Manager manager; body = LeaseAsk node.clock } ∷ [])
  asked_within manager there = let few = ok.heard.few in (record { from = tt; to = grind (arith, nat_tests); body = ok.clock }, tt)

  by_letter : (letter : Letter) → IsLetter letter → StepCases P node (key_in letter.body) → P (receives node letter)
  by_letter letter within ways = by_sender letter.from
    where
      by_sender : (actor : Actor) → P (receives_from actor node letter)
      by_sender (Manager from) = by_if P (is_addressed node letter.to && nat_lt from node.managers) node (heard letter.body node from)
          (ways.quiet node.clock node.granted node.ends node.activated) (λ t. by_heard letter.body from ways)
      by_sender (Node from) = by_if P (is_addressed node letter.to && ((letter.epoch == epoch_of node) && is_other node from)) node (received letter.body node from)
          (ways.quiet node.clock node.granted node.ends node.activated) (λ t. by_body letter.body from within.body ways)

  pub by_event : (event : NodeEvent) → IsNodeEvent event → IsNoCall event → StepCases P node (key_of event) → P (node_step node event)
  by_event (Call call key op) within other ways = absurd other
  by_event (Receive letter) within other ways = by_letter letter within ways
  by_event (Resend key) within other ways = by_found (Some key) key resend ways refl (λ row sound. resend_acts key node.id (members_of node) row sound)
  by_event (Replay key) within other ways = by_if P node.ready node (on_found (find_row key node.rows) node key (replay node.id (members_of node))) (ways.quiet node.clock node.granted node.ends node.activated)
      (λ t. by_found (Some key) key (replay node.id (members_of node)) ways refl (λ row sound. replay_acts key node.id (members_of node) row sound))
  by_event (AskLease manager) within other ways = by_if P (nat_lt manager node.managers) node _ (ways.quiet node.clock node.granted node.ends node.activated)
      (λ t. ways.sends _ (asked_within manager t))
  by_event (AskCopy from room) within other ways = by_if P (not node.ready && is_other node from) node _ (ways.quiet node.clock node.granted node.ends node.activated)
      (λ t. ways.sends _ (letters_within node (CopyAsk node.cursor room) (from ∷ []) within))
  by_event (Tick now) within other ways = ways.quiet (max node.clock now) node.granted node.ends node.activated
  by_event (Grant end) within other ways = ways.quiet node.clock (max node.granted end) node.ends node.activated
  by_event (Install view) within other ways = by_if P (nat_lt (epoch_of node) view.epoch && is_member node.id view.members) node (installed_in (record node { view = Some view }) view.epoch)
      (ways.quiet node.clock node.granted node.ends node.activated) (λ t. ways.installs view node.activated refl (views_act node.id (members_of node) view.members node.rows ok.rows))
