-- Notes of read-modify-writes are exact, whatever step a node makes.
use Rattle.std.proofs.Common.{◌≡◌, ℕ, Bool, true, false, cond, not, ◌&&◌, ◌+◌, List, [], ◌∷◌, ◌∙◌, sym, refl, ap, subst, inl, Option, Some, None, eqb, ltb, nat_cmp}
use Rattle.std.specs.Option.{option_or}
use Rattle.hk_base.specs.declared.stamp.Stamp.{Stamp}
use Rattle.hk_base.specs.declared.stamp.NodeId.{NodeId}
use Rattle.hk_base.specs.declared.call.CallNo.{CallNo}
use Rattle.hk_base.specs.declared.call.Op.{Op}
use Rattle.hk_base.specs.declared.call.Reply.{Reply}
use Rattle.hk_base.specs.declared.call.State.{State}
use Rattle.hk_base.specs.declared.call.State.TheVariants as State
use Rattle.hk_base.specs.declared.letter.Actor.{Actor}
use Rattle.hk_base.specs.declared.letter.Actor.TheVariants as Actor
use Rattle.hk_base.specs.declared.letter.Body.{Body}
use Rattle.hk_base.specs.declared.letter.Body.TheVariants.{Inv, Ack, Val, CopyAsk, CopyGive, LeaseAsk, LeaseGive, Prepare, Promise, Accept, Accepted, Chosen, Activate}
use Rattle.hk_base.specs.declared.letter.CopyItem.{CopyItem}
use Rattle.hk_base.specs.declared.letter.Letter.{Letter}
use Rattle.hk_base.specs.declared.view.View.{View}
use Rattle.hk_base.specs.Register.{act}
use Rattle.hk_base.specs.Stamp.{tag_of}
use Rattle.hk_copy.specs.Batches.{is_nil, last_key}
use Rattle.hk_key.specs.declared.row.Row.{Row}
use Rattle.hk_key.specs.Notes.{all_noted}
use Rattle.hk_key.specs.Table.{Done, begin, on_inv, on_ack, on_val, on_copy, resend, replay, still, unnoted}
use Rattle.hk_register.specs.Machine.{In}
use Rattle.hk_register.specs.Machine.{Message}
use Rattle.hk_node.specs.Calls.{kind_of, next_stamp, register_in, at_limit, at_turn, at_state, lease_end, at_lease, called}
use Rattle.hk_node.specs.Copies.{batch_behind, merged, is_next}
use Rattle.hk_node.specs.Node.{NodeState, epoch_of, members_of, is_other}
use Rattle.hk_base.specs.View.{is_member}
use Rattle.hk_node.specs.Rows.{Rows, find_row, row_at, with_row}
use Rattle.hk_node.specs.Sends.{letters_to}
use Rattle.hk_node.specs.Stepped.{Stepped, idle, row_step}
use Rattle.hk_node.specs.Heard.{raised, is_greatest, has_majority}
use Rattle.hk_node.specs.Steps.{on_found, installed_in, installs, installs_by_majority, heard, received, is_addressed, receives_from, receives}
use Rattle.hk_event.specs.declared.event.Event.{Event}
use Rattle.hk_event.specs.declared.event.Event.TheVariants as Event
use Rattle.hk_world.specs.World.{WorldState}
use Rattle.hk_effects.specs.Projection.{number_of, letters_of}
use Rattle.hk_effects.proofs.Order.{same_of}
use Rattle.hk_effects.proofs.Rests.{letter_sent, found_row, numbered_in}
use Rattle.hk_effects.proofs.Viewed.{row-viewed}
use Rattle.hk_parts.proofs.Cases.{Steps}
use Rattle.hk_parts.proofs.RowNotes.{IsNoted, TopIs, started_noted, inv_noted, ack_noted, val_noted, resend_noted, replay_noted, view_noted, copy_noted, with_row_noted}

merged_noted : (key : List ℕ) (items : List CopyItem) (rows : Rows) → IsNoted (row_at key rows).pending → IsNoted (row_at key (merged items rows)).pending
merged_noted key [] rows ok = ok
merged_noted key (i ∷ items) rows ok =
    merged_noted key items (with_row i.key (on_copy (row_at i.key rows) i) rows)
    (with_row_noted key i.key (on_copy (row_at i.key rows) i) rows ok (λ same. copy_noted (row_at i.key rows) i (subst (λ (k : List ℕ). IsNoted (row_at k rows).pending) same ok)))

module _ (key : List ℕ) (w : WorldState) (x : NodeState) (ok : IsNoted (row_at key x.rows).pending) (tops : (m e : ℕ) (s top : Stamp) → In (letters_of key w.letters) (Message.Ack m e (tag_of s) (tag_of top)) → TopIs (row_at key x.rows).pending s top) where
  abbrev Noted : Stepped → Type 0
  Noted s = IsNoted (row_at key s.node.rows).pending

  here : (k : List ℕ) (r : Row) → key ≡ k → row_at k x.rows ≡ r → IsNoted r.pending
  here k r same e = subst (λ (z : Row). IsNoted z.pending) (ap (λ (j : List ℕ). row_at j x.rows) same ∙ e) ok

  row_keeps : (k : List ℕ) (d : Done) → (key ≡ k → IsNoted d.row.pending) → Noted (row_step x k d)
  row_keeps k d good = with_row_noted key k d.row x.rows ok good

  found_keeps : (k : List ℕ) (step : Row → Done) → ((r : Row) → row_at k x.rows ≡ r → key ≡ k → IsNoted (step r).row.pending) → (o : Option Row) → find_row k x.rows ≡ o → Noted (on_found o x k step)
  found_keeps k step good None e = ok
  found_keeps k step good (Some r) e = row_keeps k (step r) (good r (found_row k x.rows r e))

  called_keeps : (call : CallNo) (k : List ℕ) (op : Op) → Noted (called x call k op)
  called_keeps call k op = by_lease (ltb (lease_end x) (x.clock + x.skew))
    where
      by_limit : (o : Option Stamp) → Noted (at_limit o x call k op (row_at k x.rows))
      by_limit None = ok
      by_limit (Some s) =
          let a = act op (register_in (row_at k x.rows)) (tag_of s) in
          let reply : Reply = record { call = call; answer = a.answer } in
          row_keeps k (begin x.id (members_of x) reply s (kind_of op) a.register.content) (λ same.
          started_noted (all_noted x.id (members_of x) []) (record { state = State.Write; stamp = s; kind = kind_of op; content = a.register.content; kept_val = false; pending = None }) (unnoted (Some reply) s (kind_of op) a.register.content) (λ rmw. tt))

      by_turn : (b : Bool) → Noted (at_turn b x call k op (row_at k x.rows))
      by_turn true = by_limit (next_stamp (kind_of op) (row_at k x.rows).stamp x.id)
      by_turn false = ok

      by_state : (s : State) → Noted (at_state s x call k op (row_at k x.rows))
      by_state State.Valid = by_turn (act op (register_in (row_at k x.rows)) 0).changed
      by_state State.Invalid = ok
      by_state State.Write = ok
      by_state State.Replay = ok
      by_state State.Trans = ok

      by_lease : (b : Bool) → Noted (at_lease b x call k op)
      by_lease true = ok
      by_lease false = by_state (row_at k x.rows).state

  -- by whether the node acts
  either : (b : Bool) (s : Stepped) → Noted s → Noted (cond b s (idle x))
  either true s good = good
  either false s good = ok

  received_keeps : (l : Letter) → In w.letters l → (body : Body) → l.body ≡ body → (from : NodeId) → Noted (received body x from)
  received_keeps l sent (Inv k s kind content) is from = row_keeps k (on_inv (row_at k x.rows) from s kind content) (λ same. inv_noted (nat_cmp (tag_of (row_at k x.rows).stamp) (tag_of s)) (row_at k x.rows) from s kind content (here k (row_at k x.rows) same refl))
  received_keeps l sent (Ack k s top) is from = found_keeps k (λ row. on_ack x.id (members_of x) row from s top) (λ r e same.
      let letter : In (letters_of key w.letters) (Message.Ack (number_of l.from) l.epoch (tag_of s) (tag_of top)) = letter_sent key w.letters l (Message.Ack (number_of l.from) l.epoch (tag_of s) (tag_of top)) sent (rw (is, same_of key k same) (inl refl)) in
      ack_noted x.id (members_of x) r from s top (here k r same e)
      (subst (λ (z : Row). TopIs z.pending s top) (ap (λ (j : List ℕ). row_at j x.rows) same ∙ e) (tops (number_of l.from) l.epoch s top letter))) (find_row k x.rows) refl
  received_keeps l sent (Val k s) is from = found_keeps k (λ row. still (on_val row s)) (λ r e same. val_noted r s (here k r same e)) (find_row k x.rows) refl
  received_keeps l sent (CopyAsk after room) is from = either x.ready (record { node = x; letters = letters_to x (CopyGive after (is_nil (batch_behind x after room).left) (batch_behind x after room).taken) (from ∷ []); told = []; installed = None }) ok
  received_keeps l sent (CopyGive after done items) is from =
      either (not x.ready && is_next after x.cursor) (record { node = record x { ready = done; cursor = option_or (last_key items) x.cursor; rows = merged items x.rows }; letters = []; told = []; installed = None }) (merged_noted key items x.rows ok)
  received_keeps l sent (LeaseAsk asked) is from = ok
  received_keeps l sent (LeaseGive end) is from = ok
  received_keeps l sent (Prepare ballot) is from = ok
  received_keeps l sent (Promise ballot vote) is from = ok
  received_keeps l sent (Accept ballot view) is from = ok
  received_keeps l sent (Accepted ballot) is from = ok
  received_keeps l sent (Chosen view) is from = ok
  received_keeps l sent (Activate view) is from = ok

  -- by whether it installs, with ACTIVATEs that say nothing of rows
  noted_installs : (v : View) (activated : List ℕ) → Noted (installs (record x { activated = activated }) v)
  noted_installs v activated = by_test (ltb (epoch_of x) v.epoch && is_member x.id v.members)
    where
      y : NodeState
      y = record x { view = Some v; activated = activated }

      by_test : (b : Bool) → Noted (cond b (installed_in y v.epoch) (idle (record x { activated = activated })))
      by_test true = subst (λ (r : Row). IsNoted r.pending) (sym (row-viewed y key x.rows)) (view_noted y.id (members_of y) (row_at key x.rows))
      by_test false = ok

  heard_keeps : (body : Body) (manager : ℕ) → Noted (heard body x manager)
  heard_keeps (LeaseGive end) manager = ok
  heard_keeps (Activate view) manager = by_greatest (is_greatest view.epoch x.activated)
    where
      after : List ℕ
      after = raised manager view.epoch x.activated

      by_majority : (b : Bool) → Noted (cond b (installs (record x { activated = after }) view) (idle (record x { activated = after })))
      by_majority true = noted_installs view after
      by_majority false = ok

      by_greatest : (b : Bool) → Noted (cond b (installs_by_majority (record x { activated = after }) view) (idle x))
      by_greatest true = by_majority (has_majority view.epoch after)
      by_greatest false = ok
  heard_keeps (Inv k s kind content) manager = ok
  heard_keeps (Ack k s top) manager = ok
  heard_keeps (Val k s) manager = ok
  heard_keeps (CopyAsk after room) manager = ok
  heard_keeps (CopyGive after done items) manager = ok
  heard_keeps (LeaseAsk asked) manager = ok
  heard_keeps (Prepare ballot) manager = ok
  heard_keeps (Promise ballot vote) manager = ok
  heard_keeps (Accept ballot view) manager = ok
  heard_keeps (Accepted ballot) manager = ok
  heard_keeps (Chosen view) manager = ok

  receives_keeps : (l : Letter) → In w.letters l → Noted (receives x l)
  receives_keeps l sent = by_from l.from
    where
      by_from : (a : Actor) → Noted (receives_from a x l)
      by_from (Actor.Manager m) = either (is_addressed x l.to && ltb m x.managers) (heard l.body x m) (heard_keeps l.body m)
      by_from (Actor.Node from) = either (is_addressed x l.to && (eqb l.epoch (epoch_of x) && is_other x from)) (received l.body x from) (received_keeps l sent l.body refl from)

  installs_keeps : (v : View) → Noted (installs x v)
  installs_keeps v = noted_installs v x.activated

  pub step_keeps : (event : Event) (s : Stepped) → Steps w x event s → IsNoted (row_at key s.node.rows).pending
  step_keeps (Event.Call id k op) s is = rw is (called_keeps (record { 0 = w.calls + 1 }) k op)
  step_keeps (Event.Take n) s is = rw is.2 (receives_keeps is.0 (numbered_in n w.letters is.0 is.1))
  step_keeps (Event.Tick actor to) s is = rw is ok
  step_keeps (Event.Resend id k) s is = rw is (found_keeps k resend (λ r e same. resend_noted r (here k r same e)) (find_row k x.rows) refl)
  step_keeps (Event.Replay id k) s is = rw is (either x.ready (on_found (find_row k x.rows) x k (replay x.id (members_of x))) (found_keeps k (replay x.id (members_of x)) (λ r e same. replay_noted x.id (members_of x) r (here k r same e)) (find_row k x.rows) refl))
  step_keeps (Event.Copy id from room) s is = rw is (either (not x.ready && is_other x from) (record { node = x; letters = letters_to x (CopyAsk x.cursor room) (from ∷ []); told = []; installed = None }) ok)
  step_keeps (Event.Install id epoch) s is = rw is.2 (installs_keeps is.0)
  step_keeps (Event.Lease id end) s is = rw is ok
  step_keeps (Event.AskLease id manager) s is = rw is (either (ltb manager x.managers) (record { node = x; letters = record { epoch = epoch_of x; from = Actor.Node x.id; to = Actor.Manager manager; body = LeaseAsk x.clock } ∷ []; told = []; installed = None }) ok)
  step_keeps (Event.TickAll to) s is = absurd is
  step_keeps (Event.Crash actor) s is = absurd is
  step_keeps (Event.Start id) s is = absurd is
  step_keeps (Event.Agree change) s is = absurd is
  step_keeps (Event.Propose manager base change) s is = absurd is
  step_keeps (Event.Activate manager) s is = absurd is
