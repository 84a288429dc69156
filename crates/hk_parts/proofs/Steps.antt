-- Each step of a node says what is so.
use Rattle.std.proofs.Common.{◌≡◌, ℕ, Bool, true, false, cond, not, ◌&&◌, ◌+◌, List, [], ◌∷◌, map, refl, subst, ⊎_elim, Option, Some, None, eqb, ltb, nat_cmp}
use Rattle.std.specs.List.{flat_map}
use Rattle.std.specs.Option.{option_or}
use Rattle.std.proofs.lemmas.Bool.{and_parts}
use Rattle.hk_base.specs.declared.stamp.Stamp.{Stamp}
use Rattle.hk_base.specs.declared.stamp.NodeId.{NodeId}
use Rattle.hk_base.specs.declared.call.CallNo.{CallNo}
use Rattle.hk_base.specs.declared.call.Op.{Op}
use Rattle.hk_base.specs.declared.call.Reply.{Reply}
use Rattle.hk_base.specs.declared.call.State.{State}
use Rattle.hk_base.specs.declared.call.State.TheVariants as State
use Rattle.hk_base.specs.declared.letter.Actor.{Actor}
use Rattle.hk_base.specs.declared.letter.Actor.TheVariants as Actor
use Rattle.hk_base.specs.declared.letter.Body.{Body}
use Rattle.hk_base.specs.declared.letter.Body.TheVariants.{Inv, Ack, Val, CopyAsk, CopyGive, LeaseAsk, LeaseGive, Prepare, Promise, Accept, Accepted, Chosen, Activate}
use Rattle.hk_base.specs.declared.letter.Letter.{Letter}
use Rattle.hk_base.specs.declared.letter.CopyItem.{CopyItem}
use Rattle.hk_base.specs.declared.view.View.{View}
use Rattle.hk_base.specs.Register.{act}
use Rattle.hk_base.specs.Stamp.{tag_of}
use Rattle.hk_base.specs.View.{member_numbers, is_member}
use Rattle.hk_copy.specs.Batches.{is_nil, last_key}
use Rattle.hk_key.specs.declared.row.Row.{Row}
use Rattle.hk_key.specs.Notes.{all_noted}
use Rattle.hk_key.specs.Table.{Done, begin, on_ack, on_val, resend, replay, still, unnoted, on_inv}
use Rattle.hk_key.proofs.Rising.{inv_never_lowers}
use Rattle.hk_node.proofs.Acts.{inv_untouched, untouched_stays}
use Rattle.hk_register.specs.Machine.{In, Message}
use Rattle.hk_register.proofs.Grow.{in_either}
use Rattle.hk_node.specs.Calls.{kind_of, next_stamp, register_in, at_limit, at_turn, at_state, lease_end, at_lease, called}
use Rattle.hk_node.specs.Copies.{batch_behind, asks_copy, gives_copy, merged, is_next}
use Rattle.hk_node.specs.Node.{NodeState, epoch_of, members_of, is_other}
use Rattle.hk_node.specs.Rows.{Rows, find_row, row_at, with_row}
use Rattle.hk_node.specs.Sends.{letters_to, sent}
use Rattle.hk_node.specs.Sound.{IsNode}
use Rattle.hk_node.specs.Stepped.{Stepped, idle, row_step}
use Rattle.hk_node.specs.Heard.{raised, is_greatest, has_majority}
use Rattle.hk_node.specs.Steps.{on_found, resent, replayed, asks_lease, viewed, installed_in, installs, installs_by_majority, heard, received, is_addressed, receives_from, receives}
use Rattle.hk_event.specs.declared.event.Event.{Event}
use Rattle.hk_event.specs.declared.event.Event.TheVariants.{Call, Take, Tick, TickAll, Crash, Resend, Replay, Copy, Start, Agree, Install, Lease, AskLease, Propose, Activate}
use Rattle.hk_world.specs.World.{WorldState}
use Rattle.hk_effects.specs.Projection.{letter_of}
use Rattle.hk_effects.proofs.Batches.{batch_tells}
use Rattle.hk_effects.proofs.Processes.{in_members}
use Rattle.hk_parts.specs.ViewPart.{IsOfReplicas}
use Rattle.hk_parts.proofs.Cases.{Steps}
use Rattle.hk_parts.proofs.LettersTell.{Says, AreSaid, Aims, letters_said, sent_said, to_one, started_aims, inv_said, ack_aims, resend_aims, replay_aims, view_aims, batch_is}

-- what tells of a key is a letter of replicas
pub of_replicas : (key : List ℕ) (l : Letter) (body : Body) (x : Message) → In (letter_of key l body) x → IsOfReplicas body
of_replicas key l (Inv k s kind content) x h = tt
of_replicas key l (Ack k s top) x h = tt
of_replicas key l (Val k s) x h = tt
of_replicas key l (CopyAsk after room) x h = tt
of_replicas key l (CopyGive after done items) x h = tt
of_replicas key l (LeaseAsk asked) x h = h
of_replicas key l (LeaseGive end) x h = h
of_replicas key l (Prepare ballot) x h = h
of_replicas key l (Promise ballot vote) x h = h
of_replicas key l (Accept ballot view) x h = h
of_replicas key l (Accepted ballot) x h = h
of_replicas key l (Chosen view) x h = h
of_replicas key l (Activate view) x h = h

all_said : (s : Stepped) → AreSaid s → AreSaid s
all_said s are = are

replicas_said : (s : Stepped) → ((l : Letter) → In s.letters l → IsOfReplicas l.body → Says s.node l) → (l : Letter) → In s.letters l → IsOfReplicas l.body → Says s.node l
replicas_said s said = said

module _ (x : NodeState) (ok : IsNode x) where
  idle_said : AreSaid (idle x)
  idle_said l h = absurd h

  row_said : (k : List ℕ) (d : Done) → Aims d → AreSaid (row_step x k d)
  row_said k d ok l h = sent_said (record x { rows = with_row k d.row x.rows }) k d.row d.out.send ok l h

  found_said : (k : List ℕ) (step : Row → Done) → ((r : Row) → Aims (step r)) → (o : Option Row) → AreSaid (on_found o x k step)
  found_said k step ok None = idle_said
  found_said k step ok (Some r) = row_said k (step r) (ok r)

  called_said : (call : CallNo) (k : List ℕ) (op : Op) → AreSaid (called x call k op)
  called_said call k op = by_lease (ltb (lease_end x) (x.clock + x.skew))
    where
      by_limit : (o : Option Stamp) → AreSaid (at_limit o x call k op (row_at k x.rows))
      by_limit None = λ l h. absurd h
      by_limit (Some s) =
          let a = act op (register_in (row_at k x.rows)) (tag_of s) in
          let reply : Reply = record { call = call; answer = a.answer } in
          row_said k (begin x.id (members_of x) reply s (kind_of op) a.register.content)
          (started_aims (all_noted x.id (members_of x) []) (record { state = State.Write; stamp = s; kind = kind_of op; content = a.register.content; kept_val = false; pending = None }) (unnoted (Some reply) s (kind_of op) a.register.content))

      by_turn : (b : Bool) → AreSaid (at_turn b x call k op (row_at k x.rows))
      by_turn true = by_limit (next_stamp (kind_of op) (row_at k x.rows).stamp x.id)
      by_turn false = λ l h. absurd h

      by_state : (s : State) → AreSaid (at_state s x call k op (row_at k x.rows))
      by_state State.Valid = by_turn (act op (register_in (row_at k x.rows)) 0).changed
      by_state State.Invalid = λ l h. absurd h
      by_state State.Write = λ l h. absurd h
      by_state State.Replay = λ l h. absurd h
      by_state State.Trans = λ l h. absurd h

      by_lease : (b : Bool) → AreSaid (at_lease b x call k op)
      by_lease true = λ l h. absurd h
      by_lease false = by_state (row_at k x.rows).state

  resent_said : (k : List ℕ) → AreSaid (resent x k)
  resent_said k = found_said k resend resend_aims (find_row k x.rows)

  replayed_said : (k : List ℕ) → AreSaid (replayed x k)
  replayed_said k = by_ready x.ready
    where
      by_ready : (b : Bool) → AreSaid (cond b (on_found (find_row k x.rows) x k (replay x.id (members_of x))) (idle x))
      by_ready true = found_said k (replay x.id (members_of x)) (replay_aims x.id (members_of x)) (find_row k x.rows)
      by_ready false = idle_said

  -- another member of the view
  other_in : (from : NodeId) → is_other x from ≡ true → In (member_numbers (members_of x)) from.0
  other_in from e = in_members from (members_of x) (and_parts (is_member from (members_of x)) (not (eqb from.0 x.id.0)) e).0

  asks_said : (from : NodeId) (room : ℕ) → AreSaid (asks_copy x from room)
  asks_said from room = by_test (not x.ready && is_other x from) refl
    where
      by_test : (b : Bool) → (not x.ready && is_other x from) ≡ b → AreSaid (cond b (record { node = x; letters = letters_to x (CopyAsk x.cursor room) (from ∷ []); told = []; installed = None }) (idle x))
      by_test true e = letters_said x (CopyAsk x.cursor room) (from ∷ []) (λ n. to_one x from n (other_in from (and_parts (not x.ready) (is_other x from) e).1)) tt
      by_test false e = idle_said

  gives_said : (to : NodeId) (after : Option (List ℕ)) (room : ℕ) → In (member_numbers (members_of x)) to.0 → AreSaid (gives_copy x to after room)
  gives_said to after room inside = by_ready x.ready refl
    where
      by_ready : (b : Bool) → x.ready ≡ b → AreSaid (cond b (record { node = x; letters = letters_to x (CopyGive after (is_nil (batch_behind x after room).left) (batch_behind x after room).taken) (to ∷ []); told = []; installed = None }) (idle x))
      by_ready true ready = letters_said x (CopyGive after (is_nil (batch_behind x after room).left) (batch_behind x after room).taken) (to ∷ []) (λ n. to_one x to n inside) (ready, batch_is x after room ok.ordered, λ key e. (batch_tells key x after room ok e).stamp)
      by_ready false ready = idle_said

  takes_said : (after : Option (List ℕ)) (done : Bool) (items : List CopyItem) (b : Bool) →
      AreSaid (cond b (record { node = record x { ready = done; cursor = option_or (last_key items) x.cursor; rows = merged items x.rows }; letters = []; told = []; installed = None }) (idle x))
  takes_said after done items true l h = absurd h
  takes_said after done items false l h = absurd h

  received_said : (body : Body) (from : NodeId) → In (member_numbers (members_of x)) from.0 → AreSaid (received body x from)
  received_said (Inv k s kind content) from inside = inv_said x k from s kind content inside (nat_cmp (tag_of (row_at k x.rows).stamp) (tag_of s)) refl (untouched_stays k x.rows (on_inv (row_at k x.rows) from s kind content).row ok.touched (inv_never_lowers (row_at k x.rows) from s kind content) (λ first none. inv_untouched k (row_at k x.rows) from s kind content none))
  received_said (Ack k s top) from inside = found_said k (λ row. on_ack x.id (members_of x) row from s top) (λ r. ack_aims x.id (members_of x) r from s top) (find_row k x.rows)
  received_said (Val k s) from inside = found_said k (λ row. still (on_val row s)) (λ r. tt) (find_row k x.rows)
  received_said (CopyAsk after room) from inside = gives_said from after room inside
  received_said (CopyGive after done items) from inside = takes_said after done items (not x.ready && is_next after x.cursor)
  received_said (LeaseAsk asked) from inside = idle_said
  received_said (LeaseGive end) from inside = idle_said
  received_said (Prepare ballot) from inside = idle_said
  received_said (Promise ballot vote) from inside = idle_said
  received_said (Accept ballot view) from inside = idle_said
  received_said (Accepted ballot) from inside = idle_said
  received_said (Chosen view) from inside = idle_said
  received_said (Activate view) from inside = idle_said

  -- a view over all rows
  viewed_said : (y : NodeState) (q rs : Rows) → (l : Letter) → In (flat_map (λ r. sent y r.0 (viewed y r).row (viewed y r).out.send) rs) l → Says (record y { rows = q }) l
  viewed_said y q [] l h = absurd h
  viewed_said y q (r ∷ rs) l h =
      ⊎_elim
      (sent_said (record y { rows = q }) r.0 (viewed y r).row (viewed y r).out.send (view_aims y.id (members_of y) r.1) l)
      (viewed_said y q rs l)
      (in_either (sent y r.0 (viewed y r).row (viewed y r).out.send) (flat_map (λ r. sent y r.0 (viewed y r).row (viewed y r).out.send) rs) l h)

  -- with whatever ACTIVATEs
  noted_installs : (v : View) (activated : List ℕ) → AreSaid (installs (record x { activated = activated }) v)
  noted_installs v activated = by_test (ltb (epoch_of x) v.epoch && is_member x.id v.members)
    where
      by_test : (b : Bool) → AreSaid (cond b (installed_in (record x { view = Some v; activated = activated }) v.epoch) (idle (record x { activated = activated })))
      by_test true = let y : NodeState = record x { view = Some v; activated = activated } in viewed_said y (map (λ r. (r.0, (viewed y r).row)) x.rows) x.rows
      by_test false = λ l h. absurd h

  installs_said : (v : View) → AreSaid (installs x v)
  installs_said v = noted_installs v x.activated

  -- what is heard from managers
  heard_said : (body : Body) (manager : ℕ) → AreSaid (heard body x manager)
  heard_said (LeaseGive end) manager = λ l h. absurd h
  heard_said (Activate view) manager = by_greatest (is_greatest view.epoch x.activated)
    where
      after : List ℕ
      after = raised manager view.epoch x.activated

      by_majority : (b : Bool) → AreSaid (cond b (installs (record x { activated = after }) view) (idle (record x { activated = after })))
      by_majority true = noted_installs view after
      by_majority false = λ l h. absurd h

      by_greatest : (b : Bool) → AreSaid (cond b (installs_by_majority (record x { activated = after }) view) (idle x))
      by_greatest true = by_majority (has_majority view.epoch after)
      by_greatest false = idle_said
  heard_said (Inv k s kind content) manager = idle_said
  heard_said (Ack k s top) manager = idle_said
  heard_said (Val k s) manager = idle_said
  heard_said (CopyAsk after room) manager = idle_said
  heard_said (CopyGive after done items) manager = idle_said
  heard_said (LeaseAsk asked) manager = idle_said
  heard_said (Prepare ballot) manager = idle_said
  heard_said (Promise ballot vote) manager = idle_said
  heard_said (Accept ballot view) manager = idle_said
  heard_said (Accepted ballot) manager = idle_said
  heard_said (Chosen view) manager = idle_said

  receives_said : (l : Letter) → AreSaid (receives x l)
  receives_said l = by_from l.from
    where
      by_test : (from : NodeId) (b : Bool) → (is_addressed x l.to && (eqb l.epoch (epoch_of x) && is_other x from)) ≡ b → AreSaid (cond b (received l.body x from) (idle x))
      by_test from true e =
          let p = and_parts (is_addressed x l.to) (eqb l.epoch (epoch_of x) && is_other x from) e in
          let q = and_parts (eqb l.epoch (epoch_of x)) (is_other x from) p.1 in
          received_said l.body from (other_in from q.1)
      by_test from false e = idle_said

      by_heard : (m : ℕ) (b : Bool) → AreSaid (cond b (heard l.body x m) (idle x))
      by_heard m true = heard_said l.body m
      by_heard m false = idle_said

      by_from : (a : Actor) → AreSaid (receives_from a x l)
      by_from (Actor.Manager m) = by_heard m (is_addressed x l.to && ltb m x.managers)
      by_from (Actor.Node from) = by_test from (is_addressed x l.to && (eqb l.epoch (epoch_of x) && is_other x from)) refl

  -- what is asked of a manager is nothing of replicas
  asks_lease_said : (manager : ℕ) (l : Letter) → In (asks_lease x manager).letters l → IsOfReplicas l.body → Says (asks_lease x manager).node l
  asks_lease_said manager = by_there (ltb manager x.managers)
    where
      ask : Letter
      ask = record { epoch = epoch_of x; from = Actor.Node x.id; to = Actor.Manager manager; body = LeaseAsk x.clock }

      asking : Bool → Stepped
      asking b = cond b (record { node = x; letters = ask ∷ []; told = []; installed = None }) (idle x)

      by_there : (b : Bool) (l : Letter) → In (asking b).letters l → IsOfReplicas l.body → Says (asking b).node l
      by_there true l h of = ⊎_elim (λ (is : l ≡ ask). absurd (subst (λ (k : Letter). IsOfReplicas k.body) is of)) (λ (none : ⊥). absurd none) h
      by_there false l h of = absurd h

  -- each letter of replicas that a step sends
  pub step_said : (w : WorldState) (event : Event) (s : Stepped) → Steps w x event s → (l : Letter) → In s.letters l → IsOfReplicas l.body → Says s.node l
  step_said w (Call id key op) s is l h of = all_said s (rw is (called_said (record { 0 = w.calls + 1 }) key op)) l h
  step_said w (Take n) s is l h of = all_said s (rw is.2 (receives_said is.0)) l h
  step_said w (Tick actor to) s is l h of = all_said s (rw is (λ l h. absurd h)) l h
  step_said w (Resend id key) s is l h of = all_said s (rw is (resent_said key)) l h
  step_said w (Replay id key) s is l h of = all_said s (rw is (replayed_said key)) l h
  step_said w (Copy id from room) s is l h of = all_said s (rw is (asks_said from room)) l h
  step_said w (Install id epoch) s is l h of = all_said s (rw is.2 (installs_said is.0)) l h
  step_said w (Lease id end) s is l h of = all_said s (rw is (λ l h. absurd h)) l h
  step_said w (AskLease id manager) s is l h of = replicas_said s (rw is (asks_lease_said manager)) l h of
  step_said w (TickAll to) s is l h of = absurd is
  step_said w (Crash actor) s is l h of = absurd is
  step_said w (Start id) s is l h of = absurd is
  step_said w (Agree change) s is l h of = absurd is
  step_said w (Propose manager base change) s is l h of = absurd is
  step_said w (Activate manager) s is l h of = absurd is
