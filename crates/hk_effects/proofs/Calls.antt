-- A call is, for each key, an effect or two.
use Rattle.std.proofs.Common.{◌≡◌, ◌≢◌, ℕ, ◌+◌, ◌*◌, Bool, true, false, cond, List, [], ◌∷◌, ◌++◌, map, ◌≤◌, ◌<◌, ◌∙◌, sym, refl, ap, subst, inl, ⊎_elim, arith, Option, Some, None, eqb, ltb, IsTrue}
use Rattle.std.proofs.lemmas.Bool.{eq-eqb, ne_eqb, ltb-false}
use Rattle.hk_base.specs.declared.stamp.Stamp.{Stamp}
use Rattle.hk_base.specs.declared.stamp.NodeId.{NodeId}
use Rattle.hk_base.specs.declared.stamp.Kind.{Kind}
use Rattle.hk_base.specs.declared.stamp.Kind.TheVariants as Kind
use Rattle.hk_base.specs.declared.stamp.TheConstants.{MAX_VERSION}
use Rattle.hk_base.specs.declared.call.CallNo.{CallNo}
use Rattle.hk_base.specs.declared.call.State.{State}
use Rattle.hk_base.specs.declared.call.State.TheVariants as State
use Rattle.hk_base.specs.declared.call.Op.{Op}
use Rattle.hk_base.specs.declared.call.Reply.{Reply}
use Rattle.hk_base.specs.declared.call.Answer.{Answer}
use Rattle.hk_base.specs.declared.call.Answer.TheVariants.{Busy, Exhausted}
use Rattle.hk_base.specs.declared.call.Why.TheVariants as Why
use Rattle.hk_base.specs.Stamp.{tag_of}
use Rattle.hk_base.specs.Register.{act}
use Rattle.hk_history.specs.History.{is_void, is_answered}
use Rattle.hk_key.specs.declared.row.Row.{Row}
use Rattle.hk_key.specs.Notes.{all_noted}
use Rattle.hk_key.specs.Table.{Done, begin}
use Rattle.hk_key.proofs.Unchanged.{started_stamp}
use Rattle.hk_register.specs.Machine.{Node, Item}
use Rattle.hk_register.specs.Machine.Phase.{Valid}
use Rattle.hk_register.specs.Machine.Item.{Called, ReadOnly, Rejected}
use Rattle.hk_register.specs.Effects.{Leased, Stays, step_of, register_of}
use Rattle.hk_register.specs.Effects.Effect.{Serve, Refuse}
use Rattle.hk_register.specs.Parts.{Parts}
use Rattle.hk_node.specs.Rows.{row_at, is_touched}
use Rattle.hk_node.specs.Node.{NodeState, epoch_of, members_of}
use Rattle.hk_node.specs.Stepped.{Stepped, row_step, told_of}
use Rattle.hk_node.specs.Calls.{kind_of, next_stamp, register_in, answers, at_limit, at_turn, at_state, lease_end, at_lease, called}
use Rattle.hk_event.specs.declared.event.Event.TheVariants.{Call}
use Rattle.hk_world.specs.Steps.{Accepted, calls_at, live}
use Rattle.hk_effects.specs.Projection.{key_node, has_copied, told_at, reply_item, read_only_item, call_items, Trace, project}
use Rattle.hk_effects.specs.Own.{IsOwn, IsTrace, Agrees}
use Rattle.hk_effects.proofs.Order.{cases_key, same_itself, same_not, row-with_same}
use Rattle.hk_effects.proofs.Frames.{items_said}
use Rattle.hk_effects.proofs.Accepting.{live_step}
use Rattle.hk_effects.proofs.Acts.{alike}
use Rattle.hk_effects.proofs.Replies.{reply_items, told_own, read_only_item_is, rejected_item, reply_begins_none}
use Rattle.hk_effects.proofs.Starts.{beginning, begun_update, noted_update, begin_step}
use Rattle.hk_effects.proofs.Nodes.{OwesNode, said_node, quiet_node, own_row, other_row}
use Rattle.hk_effects.proofs.LiveSteps.{accepts, IsEffects, IsLive, here, stepped_effect, lives, fresh_call, node_own, node_sound, members_are, ready_some, leased_now}

-- the next stamp, where there is one
next_some : (kind : Kind) (s : Stamp) (n : NodeId) (u : Stamp) → next_stamp kind s n ≡ Some u → u ≡ record { version = s.version + step_of kind; node = n.0 }
next_some Kind.Write s n u e = by_test (ltb MAX_VERSION (s.version + 2)) e
  where
    by_test : (b : Bool) → cond b None (Some (record { version = s.version + 2; node = n.0 })) ≡ Some u → u ≡ record { version = s.version + 2; node = n.0 }
    by_test true e = cc
    by_test false e = let same : record { version = s.version + 2; node = n.0 } ≡ u = cc in sym same
next_some Kind.Rmw s n u e = by_test (ltb MAX_VERSION (s.version + 1)) e
  where
    by_test : (b : Bool) → cond b None (Some (record { version = s.version + 1; node = n.0 })) ≡ Some u → u ≡ record { version = s.version + 1; node = n.0 }
    by_test true e = cc
    by_test false e = let same : record { version = s.version + 1; node = n.0 } ≡ u = cc in sym same

step_some : (kind : Kind) → 1 ≤ step_of kind
step_some Kind.Write = omega arith
step_some Kind.Rmw = omega arith

above : (v m s n : ℕ) → m < 65536 → 1 ≤ s → v * 65536 + m < (v + s) * 65536 + n
above v m s n small some = omega arith

-- what a call that begins an update says
begins_said : (c : ℕ) (op : Op) (was z : Node) (s : ℕ) (rs : List Reply) → z.stamp ≡ s → s ≢ was.stamp → call_items (eqb z.stamp was.stamp) c op was z rs ≡ map (reply_item s) rs ++ Called c s op ∷ []
begins_said c op was z s rs same ne = ap (λ (n : ℕ). call_items (eqb n was.stamp) c op was (record z { stamp = n }) rs) same ∙ ap (λ (b : Bool). call_items b c op was (record z { stamp = s }) rs) (ne_eqb s was.stamp ne)

above_zero : (a b : ℕ) → a < b → ltb 0 b ≡ false → ⊥
above_zero a b less none = let le = ltb-false 0 b none in omega arith

module _ (V : ℕ → List ℕ) (key : List ℕ) (t : Trace) (parts : Parts V (project key t)) (own : IsOwn t.world) (agrees : Agrees t.world V) (tok : IsTrace t) (x : NodeState) (alive : IsLive V key t parts own agrees tok x) where
  abbrev at_key : (project key t).node x.id.0 ≡ key_node key (Some x)
  at_key = here V key t parts own agrees tok x alive

  -- the number of the call
  abbrev number : CallNo
  number = record { 0 = t.world.calls + 1 }

  -- what the step of a call owes
  abbrev pub OwesCall : List ℕ → Op → Stepped → Type 0
  OwesCall k op o = OwesNode V (project key t) parts key x (here V key t parts own agrees tok x alive) o (items_said key (Call x.id k op) (t.world.calls + 1) x o)

  other_said : (k : List ℕ) (op : Op) (o : Stepped) → key ≢ k → items_said key (Call x.id k op) (t.world.calls + 1) x o ≡ []
  other_said k op o ne = ap (λ (b : Bool). cond b (call_items (eqb (key_node key (Some o.node)).stamp (key_node key (Some x)).stamp) (t.world.calls + 1) op (key_node key (Some x)) (key_node key (Some o.node)) (told_at key o.told)) []) (same_not key k ne)

  -- the call of another key
  other_answer : (k : List ℕ) (op : Op) (answer : Answer) → key ≢ k → OwesCall k op (answers x k number answer)
  other_answer k op answer ne = quiet_node V (project key t) parts key x at_key (answers x k number answer) _ refl refl (other_said k op (answers x k number answer) ne)

  -- a call that is answered at once says that it is read-only, or was refused
  answer_said : (op : Op) (answer : Answer) → items_said key (Call x.id key op) (t.world.calls + 1) x (answers x key number answer) ≡ read_only_item (t.world.calls + 1) op (key_node key (Some x)) (record { call = number; answer = answer }) ∷ []
  answer_said op answer = rw (same_itself key, eq-eqb (tag_of (row_at key x.rows).stamp) (tag_of (row_at key x.rows).stamp) refl) refl

  -- a call that is Busy or Exhausted
  refused : (k : List ℕ) (op : Op) (answer : Answer) → IsTrue (is_void (Some answer)) → OwesCall k op (answers x k number answer)
  refused k op answer void =
      ⊎_elim
      (λ (same : key ≡ k).
      let item : Item = Rejected (t.world.calls + 1) op answer in
      let said : items_said key (Call x.id key op) (t.world.calls + 1) x (answers x key number answer) ≡ item ∷ [] = answer_said op answer ∙ ap (λ (i : Item). i ∷ []) (rejected_item (t.world.calls + 1) op (key_node key (Some x)) (record { call = number; answer = answer }) void) in
      subst (λ (k : List ℕ). OwesCall k op (answers x k number answer)) same
      (subst (λ (hs : List Item). OwesNode V (project key t) parts key x at_key (answers x key number answer) hs) (sym said)
      (said_node V (project key t) parts key x at_key (answers x key number answer) (item ∷ []) refl refl refl
      (λ new ch. inl (Refuse x.id.0 (t.world.calls + 1) op answer, record { allowed = (void, fresh_call V key t parts own agrees tok); change = rw at_key ch })))))
      (λ (other : key ≢ k). other_answer k op answer other) (cases_key key k)

  -- a call that changes nothing
  looked : (k : List ℕ) (op : Op) → (act op (register_in (row_at k x.rows)) 0).changed ≡ false → x.ready ≡ true → Leased V (project key t) x.id.0 → (row_at k x.rows).state ≡ State.Valid →
      OwesCall k op (answers x k number (act op (register_in (row_at k x.rows)) 0).answer)
  looked k op stays_so ready leased valid =
      ⊎_elim
      (λ (same : key ≡ k).
      let r = row_at key x.rows in
      let answer : Answer = (act op (register_in r) 0).answer in
      let r_is : row_at k x.rows ≡ r = ap (λ (j : List ℕ). row_at j x.rows) (sym same) in
      let stays' : (act op (register_in r) 0).changed ≡ false = rw r_is at stays_so in
      let valid' : r.state ≡ State.Valid = rw r_is at valid in
      let phase : (key_node key (Some x)).phase ≡ Valid = rw valid' refl in
      let fixed : Stays op (register_of r.content (tag_of r.stamp)) answer = λ tag. (alike op r.content (tag_of r.stamp) 0 tag).stays stays' in
      let answered : IsTrue (is_answered (Some answer)) = (alike op r.content (tag_of r.stamp) 0 0).answered in
      let item : Item = ReadOnly (t.world.calls + 1) (tag_of r.stamp) op r.content answer in
      let said : items_said key (Call x.id key op) (t.world.calls + 1) x (answers x key number answer) ≡ item ∷ [] = answer_said op answer ∙ ap (λ (i : Item). i ∷ []) (read_only_item_is (t.world.calls + 1) op (key_node key (Some x)) (record { call = number; answer = answer }) answered) in
      subst (λ (k : List ℕ). OwesCall k op (answers x k number (act op (register_in (row_at k x.rows)) 0).answer)) same
      (subst (λ (hs : List Item). OwesNode V (project key t) parts key x at_key (answers x key number answer) hs) (sym said)
      (said_node V (project key t) parts key x at_key (answers x key number answer) (item ∷ []) refl refl refl
      (λ new ch. inl (Serve x.id.0 (t.world.calls + 1) op answer, record { allowed = (rw at_key ready, rw at_key phase, leased, rw at_key fixed, fresh_call V key t parts own agrees tok, answered); change = rw at_key ch })))))
      (λ (other : key ≢ k). other_answer k op (act op (register_in (row_at k x.rows)) 0).answer other) (cases_key key k)

  -- the step of a row that begins an update
  abbrev begins : Op → Row → Stamp → Done
  begins op row s = begin x.id (members_of x) (record { call = number; answer = (act op (register_in row) (tag_of s)).answer }) s (kind_of op) (act op (register_in row) (tag_of s)).register.content

  begun_here : (op : Op) (s : Stamp) → (act op (register_in (row_at key x.rows)) 0).changed ≡ true → x.ready ≡ true → Leased V (project key t) x.id.0 → (row_at key x.rows).state ≡ State.Valid →
      s ≡ record { version = (row_at key x.rows).stamp.version + step_of (kind_of op); node = x.id.0 } → OwesCall key op (row_step x key (begins op (row_at key x.rows) s))
  begun_here op s changes ready leased valid stamp =
      let r = row_at key x.rows in
      let c = t.world.calls + 1 in
      let mine = node_own V key t parts own agrees tok x alive in
      let some : 1 ≤ epoch_of x = ready_some V key t parts own agrees tok x alive ready in
      let d : Done = begins op r s in
      let changes' : (act op (register_of r.content (tag_of r.stamp)) (tag_of s)).changed ≡ true = sym (alike op r.content (tag_of r.stamp) 0 (tag_of s)).changed ∙ changes in
      let rises : tag_of r.stamp < tag_of s = rw (ap tag_of stamp) (above r.stamp.version r.stamp.node (step_of (kind_of op)) x.id.0 (mine.row key).small (step_some (kind_of op))) in
      let at_s : d.row.stamp ≡ s = started_stamp (all_noted x.id (members_of x) []) (beginning op r s) (begun_update c op r s) in
      let unchanged : is_touched d.row ≡ false → d.row ≡ r = λ e. absurd (above_zero (tag_of r.stamp) (tag_of s) rises (ap (λ (t : Stamp). ltb 0 (tag_of t)) (sym at_s) ∙ e)) in
      let now_s : (key_node key (Some (row_step x key d).node)).stamp ≡ tag_of s = ap (λ (w : Row). tag_of w.stamp) (row-with_same key d.row x.rows unchanged) ∙ ap tag_of at_s in
      let hs : List Item = reply_items (tag_of s) d.out.reply ++ Called c (tag_of s) op ∷ [] in
      let ne : tag_of s ≢ tag_of r.stamp = λ e. absurd (omega (arith, e)) in
      let said : items_said key (Call x.id key op) c x (row_step x key d) ≡ hs =
      ap (λ (b : Bool). cond b (call_items (eqb (key_node key (Some (row_step x key d).node)).stamp (tag_of r.stamp)) c op (key_node key (Some x)) (key_node key (Some (row_step x key d).node)) (told_at key (told_of key d.out.reply))) []) (same_itself key)
      ∙ (begins_said c op (key_node key (Some x)) (key_node key (Some (row_step x key d).node)) (tag_of s) (told_at key (told_of key d.out.reply)) now_s ne
      ∙ ap (λ (l : List Item). l ++ Called c (tag_of s) op ∷ []) (told_own key (tag_of s) d.out.reply)) in
      subst (λ (h : List Item). OwesNode V (project key t) parts key x at_key (row_step x key d) h) (sym said)
      (own_row V (project key t) parts key x at_key d hs (noted_update x.id.0 c op r s ∷ []) unchanged (reply_begins_none x.id.0 (key_node key (Some x)) (tag_of s) d.out.reply (Called c (tag_of s) op ∷ []))
      (begin_step V (project key t) parts key x (has_copied x key) r at_key (members_are V key t parts own agrees tok x alive some) c op s valid ready leased mine.small (mine.row key).small (fresh_call V key t parts own agrees tok) some stamp changes' (all_noted x.id (members_of x) []) refl))

  begun : (k : List ℕ) (op : Op) (s : Stamp) → (act op (register_in (row_at k x.rows)) 0).changed ≡ true → x.ready ≡ true → Leased V (project key t) x.id.0 → (row_at k x.rows).state ≡ State.Valid →
      s ≡ record { version = (row_at k x.rows).stamp.version + step_of (kind_of op); node = x.id.0 } → OwesCall k op (row_step x k (begins op (row_at k x.rows) s))
  begun k op s changes ready leased valid stamp =
      ⊎_elim
      (λ (same : key ≡ k).
      let r_is : row_at k x.rows ≡ row_at key x.rows = ap (λ (j : List ℕ). row_at j x.rows) (sym same) in
      subst (λ (k : List ℕ). OwesCall k op (row_step x k (begins op (row_at k x.rows) s))) same (begun_here op s (rw r_is at changes) ready leased (rw r_is at valid) (rw r_is at stamp)))
      (λ (other : key ≢ k). other_row V (project key t) parts key x at_key k (begins op (row_at k x.rows) s) _ other (other_said k op (row_step x k (begins op (row_at k x.rows) s)) other)) (cases_key key k)

  call_limit : (k : List ℕ) (op : Op) → (act op (register_in (row_at k x.rows)) 0).changed ≡ true → x.ready ≡ true → Leased V (project key t) x.id.0 → (row_at k x.rows).state ≡ State.Valid →
      (o : Option Stamp) → next_stamp (kind_of op) (row_at k x.rows).stamp x.id ≡ o → OwesCall k op (at_limit o x number k op (row_at k x.rows))
  call_limit k op changes ready leased valid None e = refused k op (Exhausted (row_at k x.rows).stamp) refl
  call_limit k op changes ready leased valid (Some s) e = begun k op s changes ready leased valid (next_some (kind_of op) (row_at k x.rows).stamp x.id s e)

  call_turn : (k : List ℕ) (op : Op) (b : Bool) → (act op (register_in (row_at k x.rows)) 0).changed ≡ b → x.ready ≡ true → Leased V (project key t) x.id.0 → (row_at k x.rows).state ≡ State.Valid → OwesCall k op (at_turn b x number k op (row_at k x.rows))
  call_turn k op false e ready leased valid = looked k op e ready leased valid
  call_turn k op true e ready leased valid = call_limit k op e ready leased valid (next_stamp (kind_of op) (row_at k x.rows).stamp x.id) refl

  call_state : (k : List ℕ) (op : Op) (state : State) → (row_at k x.rows).state ≡ state → x.ready ≡ true → Leased V (project key t) x.id.0 → OwesCall k op (at_state state x number k op (row_at k x.rows))
  call_state k op State.Valid e ready leased = call_turn k op (act op (register_in (row_at k x.rows)) 0).changed refl ready leased e
  call_state k op State.Invalid e ready leased = refused k op (Busy (Why.Row (row_at k x.rows).state (row_at k x.rows).stamp)) refl
  call_state k op State.Write e ready leased = refused k op (Busy (Why.Row (row_at k x.rows).state (row_at k x.rows).stamp)) refl
  call_state k op State.Replay e ready leased = refused k op (Busy (Why.Row (row_at k x.rows).state (row_at k x.rows).stamp)) refl
  call_state k op State.Trans e ready leased = refused k op (Busy (Why.Row (row_at k x.rows).state (row_at k x.rows).stamp)) refl

  -- a node that is not ready has no lease
  call_end : (k : List ℕ) (op : Op) (b : Bool) → x.ready ≡ b → x.clock + x.skew ≤ cond b x.granted 0 → OwesCall k op (at_state (row_at k x.rows).state x number k op (row_at k x.rows))
  call_end k op true ready runs = call_state k op (row_at k x.rows).state refl ready (leased_now V key t parts own agrees tok x alive ready runs)
  call_end k op false shadow runs = absurd (let c = (node_sound V key t parts own agrees tok x alive).clock_runs in omega arith)

  call_lease : (k : List ℕ) (op : Op) (b : Bool) → ltb (lease_end x) (x.clock + x.skew) ≡ b → OwesCall k op (at_lease b x number k op)
  call_lease k op true e = refused k op (Busy (Why.Lease (lease_end x) x.clock)) refl
  call_lease k op false e = call_end k op x.ready refl (ltb-false (lease_end x) (x.clock + x.skew) e)

  call_owed : (k : List ℕ) (op : Op) → OwesCall k op (called x number k op)
  call_owed k op = call_lease k op (ltb (lease_end x) (x.clock + x.skew)) refl

-- the event
pub call_effect : (V : ℕ → List ℕ) (key : List ℕ) (t : Trace) (parts : Parts V (project key t)) (own : IsOwn t.world) (agrees : Agrees t.world V) (tok : IsTrace t) (id : NodeId) (k : List ℕ) (op : Op) (a : Accepted) →
    live t.world id (calls_at t.world id k op) ≡ accepts a → IsEffects V key t parts own agrees tok (Call id k op) a
call_effect V key t parts own agrees tok id k op a e = live_step (IsEffects V key t parts own agrees tok (Call id k op) a) t.world a id (calls_at t.world id k op) (λ x at e.
    let l = lives V key t parts own agrees tok id x at in
    stepped_effect V key t parts own agrees tok (Call id k op) (t.world.calls + 1) t.world.paces (Some (record { 0 = t.world.calls + 1 })) id x l.0 l.1 (called x (record { 0 = t.world.calls + 1 }) k op) a (call_owed V key t parts own agrees tok x l.1 k op) e) e
