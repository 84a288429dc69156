-- A Read completes nothing, and is answered by its own event.
use Rattle.std.proofs.Common.{◌≡◌, ℕ, Bool, true, false, cond, ◌+◌, List, [], ◌∷◌, ◌++◌, map, ◌≤◌, ◌∙◌, sym, refl, ap, subst, inl, inr, ⊎_elim, arith, Option, Some, None, Ok, eqb}
use Rattle.std.specs.Prelude.{nat_le, nat_lt}
use Rattle.std.proofs.lemmas.Bool.{false≢true, eq-eqb, leb-true, ltb-true}
use Rattle.hk_base.specs.declared.call.Answer.{Answer}
use Rattle.hk_base.specs.declared.call.Answer.TheVariants.{Found, Missing, Busy}
use Rattle.hk_base.specs.declared.call.CallNo.{CallNo}
use Rattle.hk_base.specs.declared.call.Content.{Content}
use Rattle.hk_base.specs.declared.call.Op.TheVariants.{Read}
use Rattle.hk_base.specs.declared.call.Reply.{Reply}
use Rattle.hk_base.specs.declared.call.State.{State}
use Rattle.hk_base.specs.declared.call.State.TheVariants as State
use Rattle.hk_base.specs.declared.call.Why.TheVariants as Why
use Rattle.hk_base.specs.declared.stamp.NodeId.{NodeId}
use Rattle.hk_base.specs.Register.{act}
use Rattle.hk_base.specs.Stamp.{tag_of}
use Rattle.hk_clocks.specs.Clocks.{Paces}
use Rattle.hk_history.specs.History.{is_void}
use Rattle.hk_key.specs.declared.row.Row.{Row}
use Rattle.hk_register.specs.Machine.{In, Weaker, Marked, Mark, Node, Phase, Item, RegisterState}
use Rattle.hk_register.specs.Machine.Phase.{Valid, Invalid, Write, Replay, Trans}
use Rattle.hk_register.specs.Machine.Item.{ReadOnly, Rejected}
use Rattle.hk_register.specs.Facts.{ReadyCovers, Complete}
use Rattle.hk_register.specs.Effects.{row_mark, cover_mark}
use Rattle.hk_register.specs.Parts.{Parts, NodeOk, PhaseOk}
use Rattle.hk_register.proofs.Grow.{in_either}
use Rattle.hk_node.specs.declared.event.NodeEvent.TheVariants as NodeEvent
use Rattle.hk_node.specs.Calls.{register_in, answers, lease_end, at_lease, at_state, at_turn, called}
use Rattle.hk_node.specs.Node.{NodeState}
use Rattle.hk_node.specs.Rows.{row_at}
use Rattle.hk_node.specs.Stepped.{Stepped}
use Rattle.hk_node.specs.Steps.{node_step}
use Rattle.hk_event.specs.declared.event.Event.{Event}
use Rattle.hk_event.specs.declared.event.Event.TheVariants.{Call}
use Rattle.hk_world.specs.World.{WorldState}
use Rattle.hk_world.specs.Steps.{Accepted, acting_of, world_step}
use Rattle.hk_effects.specs.Projection.{Trace, project, key_node, node_at, told_at, read_only_item, call_items, items_of, moment_marks, pending_marks, install_marks, step_marks, traced}
use Rattle.hk_effects.specs.Orders.{family}
use Rattle.hk_effects.specs.Runs.{IsKept}
use Rattle.hk_effects.proofs.Frames.{accepted, step_change}
use Rattle.hk_effects.proofs.Order.{same_itself}
use Rattle.hk_effects.proofs.Runs.{world_is}
use Rattle.hk_effects.proofs.Worlds.{the_some}
use Rattle.hk_effects.proofs.WorldKept.{calls_after}
use Rattle.hk_safety.proofs.Acting.{next_call, IsStep, IsMadeBy, is_made_by}
use Rattle.hk_safety.proofs.Making.{found}
use Rattle.hk_safety.specs.Moment.{is_reached}
use Rattle.hk_joint.specs.Batch.{is_told}
use Rattle.hk_joint.proofs.Chain.{Views, kept_parts}
use Rattle.hk_joint.proofs.Earlier.{reached_is, reached_by}
use Rattle.hk_joint.proofs.Served.{complete_marks}

-- ---- the step of a node
unchanged : (content : Option Content) (tag : ℕ) → (act Read (record { content = content; tag = tag }) 0).changed ≡ false
unchanged None tag = refl
unchanged (Some c) tag = refl

-- a Read is answered at once, and nothing else
pub read_answers : (x : NodeState) (call : CallNo) (key : List ℕ) → (answer : Answer) × (called x call key Read ≡ answers x key call answer)
read_answers x call key = by_lease (nat_lt (lease_end x) (x.clock + x.skew))
  where
    row : Row
    row = row_at key x.rows

    by_state : (s : State) → (answer : Answer) × (at_state s x call key Read row ≡ answers x key call answer)
    by_state State.Valid = ((act Read (register_in row) 0).answer, ap (λ (b : Bool). at_turn b x call key Read row) (unchanged row.content (tag_of row.stamp)))
    by_state State.Invalid = (Busy (Why.Row row.state row.stamp), refl)
    by_state State.Write = (Busy (Why.Row row.state row.stamp), refl)
    by_state State.Replay = (Busy (Why.Row row.state row.stamp), refl)
    by_state State.Trans = (Busy (Why.Row row.state row.stamp), refl)

    by_lease : (b : Bool) → (answer : Answer) × (at_lease b x call key Read ≡ answers x key call answer)
    by_lease true = (Busy (Why.Lease (lease_end x) x.clock), refl)
    by_lease false = by_state row.state

-- ---- what a node that stays as it is shows anew was marked before
weaker_chain : (k j l : Mark) → Weaker k j → Weaker j l → Weaker k l
weaker_chain k j l a b = record { who = a.who ∙ b.who; epoch = a.epoch ∙ b.epoch; stamp = a.stamp ∙ b.stamp; exact = λ e. b.exact (a.exact e); ready = λ e. b.ready (a.ready e) }

module _ (V : ℕ → List ℕ) (st : RegisterState) (n : ℕ) (x : Node) (ok : NodeOk V st n x) where
  covered : (s : ℕ) → ReadyCovers st n x.epoch s → Marked st (cover_mark n x s)
  covered s c = (
    c.marked.0,
    record {
      who = sym c.who ∙ c.marked.1.who;
      epoch = sym c.epoch ∙ c.marked.1.epoch;
      stamp = sym c.stamp ∙ c.marked.1.stamp;
      exact = λ e. absurd (false≢true e);
      ready = λ e. c.marked.1.ready c.ready;
    },
    c.marked.2,
  )

  pending_old : (phase : Phase) → PhaseOk V st n x phase → (j : Mark) → In (pending_marks n x phase) j → Marked st j
  pending_old Valid o j h = absurd h
  pending_old Invalid o j h = absurd h
  pending_old (Write p) o j (inl e) = subst (Marked st) (sym e) (covered p.stamp o.0.covers)
  pending_old (Write p) o j (inr h) = absurd h
  pending_old (Replay p) o j (inl e) = subst (Marked st) (sym e) (covered p.stamp o.0.covers)
  pending_old (Replay p) o j (inr h) = absurd h
  pending_old (Trans p) o j (inl e) = subst (Marked st) (sym e) (covered p.stamp o.0.covers)
  pending_old (Trans p) o j (inr h) = absurd h

  moment_old : (j : Mark) → In (moment_marks n x) j → Marked st j
  moment_old j h = by_test (nat_le 1 x.epoch) refl h
    where
      by_test : (b : Bool) → nat_le 1 x.epoch ≡ b → In (cond b (row_mark n x ∷ pending_marks n x x.phase) []) j → Marked st j
      by_test true e (inl is) = subst (Marked st) (sym is) (ok.marked (leb-true 1 x.epoch e))
      by_test true e (inr h) = pending_old x.phase ok.phase j h
      by_test false e h = absurd h

  install_none : (j : Mark) → In (install_marks n x x) j → ⊥
  install_none j h = by_test (nat_lt x.epoch x.epoch) refl h
    where
      by_test : (b : Bool) → nat_lt x.epoch x.epoch ≡ b → In (cond b (pending_marks n x x.phase) []) j → ⊥
      by_test true e h = let l = ltb-true x.epoch x.epoch e in absurd (omega (arith, l))
      by_test false e h = h

  stays_marked : (j : Mark) → In (step_marks n x x []) j → Marked st j
  stays_marked j h = ⊎_elim (moment_old j)
      (λ (k : In (install_marks n x x ++ []) j). absurd (⊎_elim (install_none j) (λ (none : ⊥). none) (in_either (install_marks n x x) [] j k)))
      (in_either (moment_marks n x) (install_marks n x x ++ []) j h)

-- ---- the event of a Read
module _ (t : Trace) (id : NodeId) (key : List ℕ) (a : Accepted) (e : world_step t.world (Call id key Read) ≡ Ok a) where
  abbrev pub event : Event
  event = Call id key Read

  -- what it makes
  pub record IsReadBy : Type 0 where
    pub node : NodeId
    pub x : NodeState
    pub at : node_at node.0 t.world.processes ≡ Some x
    pub answer : Answer
    pub paces : Paces
    pub is : a ≡ accepted t.world node x (answers x key (next_call t.world) answer) (calls_after event t.world.calls) paces (Some (next_call t.world))

  pub read_is : IsReadBy
  read_is = by_way (is_made_by t.world a event e)
    where
      by_way : IsMadeBy t.world event a → IsReadBy
      by_way (inl s) =
          let st : IsStep t.world event a s.0 = s.1 in
          let r = read_answers st.x (next_call t.world) key in
          let same : NodeEvent.Call (next_call t.world) key Read ≡ st.how.0 = the_some _ _ st.how.1 in
          let o : st.o ≡ answers st.x key (next_call t.world) r.0 = st.how.2 ∙ (ap (node_step st.x) (sym same) ∙ r.1) in
          record {
            node = s.0;
            x = st.x;
            at = found t.world event a s.0 st;
            answer = r.0;
            paces = st.paces;
            is = st.is ∙ ap (λ (o : Stepped). accepted t.world s.0 st.x o (calls_after event t.world.calls) st.paces (Some (next_call t.world))) o;
          }
      by_way (inr b) = absurd b.no_call

  abbrev made : IsReadBy → Accepted
  made r = accepted t.world r.node r.x (answers r.x key (next_call t.world) r.answer) (calls_after event t.world.calls) r.paces (Some (next_call t.world))

  pub read_replies : a.shown.replies ≡ record { call = next_call t.world; answer = read_is.answer } ∷ []
  read_replies = ap (λ (b : Accepted). b.shown.replies) read_is.is

  -- for any key nothing is complete that was not
  module _ (k : List ℕ) (kept : IsKept k t) where
    parts : Parts (Views t) (project k t)
    parts = kept_parts k t kept

    marks_old : (r : IsReadBy) → (j : Mark) → Marked (project k (traced k t event (made r))) j → Marked (project k t) j
    marks_old r j h =
        let z : Node = key_node k (Some r.x) in
        let here : (project k t).node r.node.0 ≡ z = ap (key_node k) r.at in
        let ok : NodeOk (Views t) (project k t) r.node.0 z = subst (NodeOk (Views t) (project k t) r.node.0) here (parts.nodes r.node.0) in
        let ch = step_change k t event (calls_after event t.world.calls) r.paces (Some (next_call t.world)) r.node r.x (answers r.x key (next_call t.world) r.answer) r.at in
        let f = ch.marks_from j h in
        ⊎_elim
        (λ (new : In (step_marks r.node.0 z z []) f.0). let m = stays_marked (Views t) (project k t) r.node.0 z ok f.0 new in (m.0, weaker_chain j f.0 m.0 f.1 m.1, m.2))
        (λ (old : Marked (project k t) f.0). (old.0, weaker_chain j f.0 old.0 f.1 old.1, old.2))
        f.2

    complete_before : (r : IsReadBy) → (s : ℕ) → Complete (Views (traced k t event (made r))) (project k (traced k t event (made r))) s → Complete (Views t) (project k t) s
    complete_before r s c =
        let next : Trace = traced k t event (made r) in
        let there : Complete (Views t) (project k next) s =
        subst (λ (w : WorldState). Complete (family w.views) (project k next) s) (world_is k t event (made r) (acting_of (made r))) c in
        complete_marks (Views t) (project k next) (project k t) (marks_old r) s there

    pub read_completes_none : (s : ℕ) → Complete (Views (traced k t event a)) (project k (traced k t event a)) s → Complete (Views t) (project k t) s
    read_completes_none s c = complete_before read_is s (subst (λ (b : Accepted). Complete (Views (traced k t event b)) (project k (traced k t event b)) s) read_is.is c)

    pub read_reaches_none : (s : ℕ) → 1 ≤ s → is_reached k s (traced k t event a) ≡ true → is_reached k s t ≡ true
    read_reaches_none s one h =
        let r = reached_is (Views (traced k t event a)) (project k (traced k t event a)) s h in
        reached_by (Views t) (project k t) parts s r.update.stamp one r.not_below (read_completes_none r.update.stamp r.complete)

  -- of its own key the history tells it
  not_void : (answer : Answer) → is_told answer ≡ true → is_void (Some answer) ≡ false
  not_void (Found c tag) told = refl
  not_void Missing told = refl
  not_void answer told = absurd (false≢true told)

  read_looked : (r : IsReadBy) → is_told r.answer ≡ true →
      In (traced key t event (made r)).history (ReadOnly (t.world.calls + 1) (key_node key (Some r.x)).stamp Read (key_node key (Some r.x)).content r.answer)
  read_looked r told =
      let z : Node = key_node key (Some r.x) in
      let reply : Reply = record { call = next_call t.world; answer = r.answer } in
      let ch = step_change key t event (calls_after event t.world.calls) r.paces (Some (next_call t.world)) r.node r.x (answers r.x key (next_call t.world) r.answer) r.at in
      let one : told_at key ((key, reply) ∷ []) ≡ reply ∷ [] = ap (λ (b : Bool). cond b (reply ∷ []) []) (same_itself key) in
      let item : read_only_item (t.world.calls + 1) Read z reply ≡ ReadOnly (t.world.calls + 1) z.stamp Read z.content r.answer =
      ap (λ (b : Bool). cond b (Rejected (t.world.calls + 1) Read r.answer) (ReadOnly (t.world.calls + 1) z.stamp Read z.content r.answer)) (not_void r.answer told) in
      let said : items_of key event (t.world.calls + 1) z z (told_at key ((key, reply) ∷ [])) ≡ ReadOnly (t.world.calls + 1) z.stamp Read z.content r.answer ∷ [] =
      ap (λ (b : Bool). cond b (call_items (eqb z.stamp z.stamp) (t.world.calls + 1) Read z z (told_at key ((key, reply) ∷ []))) []) (same_itself key)
      ∙ (ap (λ (b : Bool). call_items b (t.world.calls + 1) Read z z (told_at key ((key, reply) ∷ []))) (eq-eqb z.stamp z.stamp refl)
      ∙ (ap (map (read_only_item (t.world.calls + 1) Read z)) one ∙ ap (λ (i : Item). i ∷ []) item)) in
      subst (λ (l : List Item). In l (ReadOnly (t.world.calls + 1) z.stamp Read z.content r.answer)) (sym (ch.history ∙ ap (λ (l : List Item). l ++ t.history) said)) (inl refl)

  pub record IsLookOf (call : ℕ) (next : Trace) : Type 0 where
    pub stamp : ℕ
    pub content : Option Content
    pub answer : Answer
    pub there : In next.history (ReadOnly call stamp Read content answer)

  pub read_look : is_told read_is.answer ≡ true → IsLookOf (t.world.calls + 1) (traced key t event a)
  read_look told = record {
    stamp = (key_node key (Some read_is.x)).stamp;
    content = (key_node key (Some read_is.x)).content;
    answer = read_is.answer;
    there = subst (λ (b : Accepted). In (traced key t event b).history (ReadOnly (t.world.calls + 1) (key_node key (Some read_is.x)).stamp Read (key_node key (Some read_is.x)).content read_is.answer)) (sym read_is.is) (read_looked read_is told);
  }
