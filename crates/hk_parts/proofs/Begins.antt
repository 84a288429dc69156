-- In every run each update was begun at a Valid row, whose stamp is its base.
use Rattle.std.proofs.Common.{◌≡◌, ◌⊎◌, ℕ, Bool, true, false, cond, ◌+◌, List, [], ◌∷◌, ◌++◌, map, ◌∙◌, sym, refl, ap, subst, inl, inr, ⊎_elim, append-nil, Option, Some, Ok, eqb, ltb}
use Rattle.std.proofs.lemmas.Bool.{false≢true, eq-eqb}
use Rattle.hk_base.specs.declared.stamp.NodeId.{NodeId}
use Rattle.hk_base.specs.declared.call.CallNo.{CallNo}
use Rattle.hk_base.specs.declared.call.Op.{Op}
use Rattle.hk_base.specs.declared.call.Reply.{Reply}
use Rattle.hk_base.specs.declared.call.State.{State}
use Rattle.hk_base.specs.declared.call.State.TheVariants as State
use Rattle.hk_register.specs.Machine.{In, Node, Update}
use Rattle.hk_register.specs.Machine.Phase.{Valid}
use Rattle.hk_register.specs.Machine.Item.{Called}
use Rattle.hk_register.proofs.Grow.{in_either}
use Rattle.hk_node.specs.Calls.{lease_end, at_lease, at_state, called}
use Rattle.hk_node.specs.Node.{NodeState}
use Rattle.hk_node.specs.Rows.{row_at}
use Rattle.hk_node.specs.Stepped.{Stepped}
use Rattle.hk_event.specs.declared.event.Event.{Event}
use Rattle.hk_event.specs.declared.event.Event.TheVariants.{Call, Take, Tick, TickAll, Crash, Resend, Replay, Copy, Start, Agree, Install, Lease, AskLease, Propose, Activate}
use Rattle.hk_event.specs.declared.event.Header.{Header}
use Rattle.hk_world.specs.World.{WorldState, node_of}
use Rattle.hk_world.specs.Steps.{acting_of, Accepted, calls_at, world_step}
use Rattle.hk_world.specs.Sound.{IsHeader, IsEvent}
use Rattle.hk_effects.specs.Projection.{Trace, traced, traced_by, key_node, node_at, phase_of, is_same_key, told_at, pending_stamp, reply_item, read_only_item, call_items, items_of, updates_of}
use Rattle.hk_effects.specs.Runs.{start_trace, Follows, RunsKeepParts}
use Rattle.hk_effects.proofs.Accepting.{alive, live_step}
use Rattle.hk_effects.proofs.Frames.{accepted}
use Rattle.hk_effects.proofs.Order.{same_true}
use Rattle.hk_effects.proofs.Processes.{numbered_node, node-put_same}
use Rattle.hk_effects.proofs.Replies.{replies_begin_none, looks_begin_none}
use Rattle.hk_effects.proofs.Worlds.{the_some, the_accepted}
use Rattle.hk_parts.specs.Moments.{BegunAt}
use Rattle.hk_parts.proofs.Moments.{always, world_is}
use Rattle.hk_parts.proofs.Cases.{Steps, Stepping, Beside, event_case}
use Rattle.hk_parts.proofs.Sending.{event_later}

-- a call at a row that is not Valid changes nothing
valid_or_same : (x : NodeState) (call : CallNo) (key : List ℕ) (op : Op) → ((row_at key x.rows).state ≡ State.Valid) ⊎ ((called x call key op).node ≡ x)
valid_or_same x call key op = by_lease (ltb (lease_end x) (x.clock + x.skew))
  where
    by_state : (s : State) → (row_at key x.rows).state ≡ s → ((row_at key x.rows).state ≡ State.Valid) ⊎ ((at_state s x call key op (row_at key x.rows)).node ≡ x)
    by_state State.Valid e = inl e
    by_state State.Invalid e = inr refl
    by_state State.Write e = inr refl
    by_state State.Replay e = inr refl
    by_state State.Trans e = inr refl

    by_lease : (b : Bool) → ((row_at key x.rows).state ≡ State.Valid) ⊎ ((at_lease b x call key op).node ≡ x)
    by_lease true = inr refl
    by_lease false = by_state (row_at key x.rows).state refl

-- replies alone begin nothing
replies_none : (id : ℕ) (z : Node) (s : ℕ) (rs : List Reply) → updates_of id z (map (reply_item s) rs) ≡ []
replies_none id z s rs = ap (updates_of id z) (sym (append-nil (map (reply_item s) rs))) ∙ replies_begin_none id z s rs []

-- a call that is made acts at its node, and shows its number
call_made : (w : WorldState) (i : NodeId) (k : List ℕ) (op : Op) (a : Accepted) → world_step w (Call i k op) ≡ Ok a → (acting_of a ≡ Some i) × (a.shown.call ≡ Some (record { 0 = w.calls + 1 }))
call_made w i k op a e = live_step ((acting_of a ≡ Some i) × (a.shown.call ≡ Some (record { 0 = w.calls + 1 }))) w a i (calls_at w i k op) (λ x at e.
    let call : CallNo = record { 0 = w.calls + 1 } in
    let is : a ≡ accepted w i x (called x call k op) (w.calls + 1) w.paces (Some call) = the_accepted a (accepted w i x (called x call k op) (w.calls + 1) w.paces (Some call)) (Ok a) refl (sym e) in
    (ap acting_of is, ap (λ (b : Accepted). b.shown.call) is)) e

-- What is begun is that of the event's call. Its base is the stamp of the row before, which was Valid, and its own is that of the
-- row after.
pub record IsBegunBy (key : List ℕ) (event : Event) (id n : ℕ) (was now : Node) (u : Update) : Type 0 where
  pub node : NodeId
  pub made : event ≡ Call node key u.op
  pub call : u.call ≡ n
  pub who : u.who ≡ id
  pub base : was.stamp ≡ u.base
  pub valid : was.phase ≡ Valid
  pub stamp : now.stamp ≡ u.stamp

module _ (key : List ℕ) (w : WorldState) (x : NodeState) where
  abbrev Was : Node
  Was = key_node key (Some x)

  module _ (id n : ℕ) (rs : List Reply) (u : Update) where
    abbrev Begins : Event → NodeState → Type 0
    Begins event y = IsBegunBy key event id n Was (key_node key (Some y)) u

    not_in : (event : Event) (y : NodeState) (us : List Update) → us ≡ [] → In us u → Begins event y
    not_in event y us none h = absurd (rw none at h)

    replies_only : (event : Event) (y : NodeState) → In (updates_of id Was (map (reply_item (pending_stamp Was.phase)) rs)) u → Begins event y
    replies_only event y h = not_in event y _ (replies_none id Was (pending_stamp Was.phase) rs) h

    of_call : (i : NodeId) (k : List ℕ) (op : Op) (y : NodeState) → y ≡ (called x (record { 0 = w.calls + 1 }) k op).node → key ≡ k → (b : Bool) → eqb (key_node key (Some y)).stamp Was.stamp ≡ b →
        In (updates_of id Was (call_items b n op Was (key_node key (Some y)) rs)) u → Begins (Call i k op) y
    of_call i k op y now same true e h = not_in (Call i k op) y (updates_of id Was (map (read_only_item n op Was) rs)) (looks_begin_none id Was n op Was rs) h
    of_call i k op y now same false e h =
        ⊎_elim
        (λ (is : (row_at k x.rows).state ≡ State.Valid).
        let h' = subst (λ (us : List Update). In us u) (replies_begin_none id Was (key_node key (Some y)).stamp rs (Called n (key_node key (Some y)).stamp op ∷ [])) h in
        let state : (row_at key x.rows).state ≡ State.Valid = ap (λ (j : List ℕ). (row_at j x.rows).state) same ∙ is in
        let valid : Was.phase ≡ Valid = ap (λ (s : State). phase_of s (row_at key x.rows).pending) state in
        let made : Call i k op ≡ Call i key op = ap (λ (j : List ℕ). Call i j op) (sym same) in
        the_one _ h' (record { node = i; made = made; call = refl; who = refl; base = refl; valid = valid; stamp = refl }))
        (λ (still : (called x (record { 0 = w.calls + 1 }) k op).node ≡ x).
        let same_stamp : (key_node key (Some y)).stamp ≡ Was.stamp = ap (λ (z : NodeState). (key_node key (Some z)).stamp) (now ∙ still) in
        absurd (false≢true (sym e ∙ eq-eqb (key_node key (Some y)).stamp Was.stamp same_stamp)))
        (valid_or_same x (record { 0 = w.calls + 1 }) k op)
      where
        the_one : (v : Update) → In (v ∷ []) u → IsBegunBy key (Call i k op) id n Was (key_node key (Some y)) v → Begins (Call i k op) y
        the_one v (inl is) o = rw is o
        the_one v (inr none) o = absurd none

    -- whatever the event
    of_event : (event : Event) (s : Stepped) → Steps w x event s → In (updates_of id Was (items_of key event n Was (key_node key (Some s.node)) rs)) u → Begins event s.node
    of_event (Call i k op) s is h = by_key (is_same_key key k) refl h
      where
        by_key : (b : Bool) → is_same_key key k ≡ b → In (updates_of id Was (cond b (call_items (eqb (key_node key (Some s.node)).stamp Was.stamp) n op Was (key_node key (Some s.node)) rs) [])) u → Begins (Call i k op) s.node
        by_key true e h = of_call i k op s.node (ap (λ (o : Stepped). o.node) is) (same_true key k e) (eqb (key_node key (Some s.node)).stamp Was.stamp) refl h
        by_key false e h = absurd h
    of_event (Take l) s is h = replies_only (Take l) s.node h
    of_event (Tick actor to) s is h = replies_only (Tick actor to) s.node h
    of_event (TickAll to) s is h = absurd is
    of_event (Crash actor) s is h = absurd is
    of_event (Resend i k) s is h = replies_only (Resend i k) s.node h
    of_event (Replay i k) s is h = replies_only (Replay i k) s.node h
    of_event (Copy i from room) s is h = replies_only (Copy i from room) s.node h
    of_event (Start i) s is h = absurd is
    of_event (Agree change) s is h = absurd is
    of_event (Install i epoch) s is h = replies_only (Install i epoch) s.node h
    of_event (Lease i end) s is h = replies_only (Lease i end) s.node h
    of_event (AskLease i manager) s is h = replies_only (AskLease i manager) s.node h
    of_event (Propose manager base change) s is h = absurd is
    of_event (Activate manager) s is h = absurd is

module _ (runs : RunsKeepParts) (key : List ℕ) (h : Header) (header : IsHeader h) where
  abbrev Begun : List Event → Trace → Type 0
  Begun past t = (u : Update) → In t.begun u → BegunAt key (record { header = h; events = past }) u

  begun_later : (past : List Event) (event : Event) (u : Update) → BegunAt key (record { header = h; events = past }) u → BegunAt key (record { header = h; events = past ++ event ∷ [] }) u
  begun_later past event u o = record { at = event_later key h past event o.at; event = o.event; call = o.call; valid = o.valid; base = o.base; stamp = o.stamp }

  goes_on : (past : List Event) (t : Trace) (event : Event) (a : Accepted) → Follows key (start_trace h) past t → world_step t.world event ≡ Ok a → IsEvent event → Begun past t → Begun (past ++ event ∷ []) (traced key t event a)
  goes_on past t event a f e event_ok begun u i = by_case (event_case t.world event a e)
    where
      of_node : (c : Stepping t.world event a) (x y : Option NodeState) → x ≡ Some c.x → y ≡ Some c.s.node → (n : ℕ) (rs : List Reply) → In (updates_of c.id.0 (key_node key x) (items_of key event n (key_node key x) (key_node key y) rs)) u → IsBegunBy key event c.id.0 n (key_node key x) (key_node key y) u
      of_node c x y is now n rs h' = rw (is, now) (of_event key t.world c.x c.id.0 n rs u event c.s c.how (rw (is, now) at h'))

      -- the node that acted is the call's
      fresh : (c : Stepping t.world event a) → IsBegunBy key event c.id.0 (t.world.calls + 1) (key_node key (node_at c.id.0 t.world.processes)) (key_node key (node_at c.id.0 a.world.processes)) u → BegunAt key (record { header = h; events = past ++ event ∷ [] }) u
      fresh c o =
          let made = call_made t.world o.node key u.op a (subst (λ (v : Event). world_step t.world v ≡ Ok a) o.made e) in
          let acting : acting_of a ≡ Some c.id = ap acting_of c.is in
          let node : o.node ≡ numbered_node u.who = the_some o.node c.id (sym made.0 ∙ acting) ∙ ap numbered_node (sym o.who) in
          let world = world_is key t event a (acting_of a) in
          record {
            at = record { past = past; event = event; later = []; split = refl; was = t; follows = f; accepted = a; accepts = e };
            event = o.made ∙ ap (λ (j : NodeId). Call j key u.op) node;
            call = made.1 ∙ ap (λ (k : ℕ). Some (record { 0 = k })) (sym o.call);
            valid = rw o.who o.valid;
            base = rw o.who o.base;
            stamp = rw (o.who, world) o.stamp;
          }

      by_case : Stepping t.world event a ⊎ Beside t.world a → BegunAt key (record { header = h; events = past ++ event ∷ [] }) u
      by_case (inl c) =
          let b : Accepted = accepted t.world c.id c.x c.s c.calls c.paces c.call in
          let i' : In (traced key t event b).begun u = subst (λ (z : Accepted). In (traced key t event z).begun u) c.is i in
          let was = key_node key (node_at c.id.0 t.world.processes) in
          let now = key_node key (node_at c.id.0 b.world.processes) in
          ⊎_elim
          (λ (new : In (updates_of c.id.0 was (items_of key event (t.world.calls + 1) was now (told_at key c.s.told))) u).
          fresh c (subst (λ (z : Accepted). IsBegunBy key event c.id.0 (t.world.calls + 1) was (key_node key (node_at c.id.0 z.world.processes)) u) (sym c.is)
          (of_node c (node_at c.id.0 t.world.processes) (node_at c.id.0 b.world.processes) (ap node_of c.there) (node-put_same c.id (alive c.s.node) t.world.processes) (t.world.calls + 1) (told_at key c.s.told) new)))
          (λ (old : In t.begun u). begun_later past event u (begun u old))
          (in_either (updates_of c.id.0 was (items_of key event (t.world.calls + 1) was now (told_at key c.s.told))) t.begun u i')
      by_case (inr b) = begun_later past event u (begun u (subst (λ (o : Option NodeId). In (traced_by key t event a o).begun u) b.acting i))

  pub begun_at : (events : List Event) (last : Trace) → Follows key (start_trace h) events last → Begun events last
  begun_at events last f = always key h Begun goes_on (λ u none. absurd none) events last f
