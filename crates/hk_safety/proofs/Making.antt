-- An event that is made, and what is kept of it.
use Rattle.std.proofs.Common.{◌≡◌, ◌≢◌, ℕ, ◌+◌, ◌≤◌, List, [], ◌∷◌, ◌++◌, map, append-nil, Bool, true, false, cond, not, Option, Some, None, IfSome, Ok, is_some, unwrap_or, refl, sym, ap, subst, ◌∙◌, inl, inr, ⊎_elim, eqb, find}
use Rattle.std.specs.List.{AllByRecursion}
use Rattle.std.specs.Option.{option_map}
use Rattle.std.specs.Map.{keys_of}
use Rattle.std.proofs.lemmas.Bool.{false≢true, eq-eqb}
use Rattle.hk_base.specs.declared.stamp.NodeId.{NodeId}
use Rattle.hk_base.specs.declared.call.CallNo.{CallNo}
use Rattle.hk_base.specs.declared.call.Op.{Op}
use Rattle.hk_base.specs.declared.call.Reply.{Reply}
use Rattle.hk_base.specs.declared.letter.Letter.{Letter}
use Rattle.hk_base.specs.declared.view.View.{View}
use Rattle.hk_base.specs.Range.{IsLetter, IsWithin}
use Rattle.hk_base.specs.Stamp.{tag_of}
use Rattle.hk_history.specs.declared.event.Event.{Event as HistoryEvent}
use Rattle.hk_history.specs.declared.event.Event.TheVariants as HistoryEvent
use Rattle.hk_key.specs.declared.row.Row.{Row}
use Rattle.hk_key.specs.Table.{first_row}
use Rattle.hk_register.specs.Machine.{In, Node, Item}
use Rattle.hk_register.specs.Parts.{Parts}
use Rattle.hk_register.specs.Printed.{events_of}
use Rattle.hk_node.specs.declared.report.PriorRow.{PriorRow}
use Rattle.hk_node.specs.Rows.{find_row, row_at}
use Rattle.hk_node.specs.Node.{NodeState, epoch_in}
use Rattle.hk_node.specs.Sound.{IsNode}
use Rattle.hk_node.specs.declared.event.NodeEvent.TheVariants as NodeEvent
use Rattle.hk_node.specs.Report.{report}
use Rattle.hk_node.specs.Steps.{node_step}
use Rattle.hk_node.proofs.Again.{found_sound}
use Rattle.hk_node.specs.Stepped.{Stepped}
use Rattle.hk_node.specs.Calls.{called}
use Rattle.hk_node.specs.Laws.{IsAnsweredAlone}
use Rattle.hk_manager.proofs.Kept.{keeps_managers, letters_in_range as manager_letters}
use Rattle.hk_node.proofs.KeepsMore.{step_keeps_node}
use Rattle.hk_node.proofs.Ranged.{letters_in_range}
use Rattle.hk_event.specs.declared.event.Event.{Event}
use Rattle.hk_event.specs.declared.event.Event.TheVariants.{Call}
use Rattle.hk_world.specs.declared.shown.Acted.{Acted}
use Rattle.hk_world.specs.declared.shown.Shown.{Shown}
use Rattle.hk_world.specs.World.{WorldState, node_of, numbered}
use Rattle.hk_world.specs.Steps.{Accepted, acting_of, world_step}
use Rattle.hk_world.specs.Sound.{IsWorld, IsEvent}
use Rattle.hk_world.proofs.Soundness.{step_sound}
use Rattle.hk_effects.specs.Projection.{Trace, project, key_node, node_at, is_same_key, letters_of, told_at, pending_stamp, reply_item, items_of, call_items, updates_of, step_marks, added, traced, traced_by}
use Rattle.hk_effects.specs.Own.{IsOwn}
use Rattle.hk_effects.specs.Runs.{IsKept}
use Rattle.hk_effects.proofs.Accepting.{alive}
use Rattle.hk_effects.proofs.Legality.{own_agrees}
use Rattle.hk_effects.proofs.Order.{cases_key, same_not, same_itself, same_of, same_true}
use Rattle.hk_effects.proofs.Processes.{node-put_same}
use Rattle.hk_effects.proofs.Rests.{node_holds}
use Rattle.hk_effects.proofs.Worlds.{the_some}
use Rattle.hk_safety.specs.declared.evidence.Cover.{Cover}
use Rattle.hk_safety.specs.Run.{with_named}
use Rattle.hk_safety.specs.Kept.{KeyState, Keys, KeptState, at_stamp, find_key, key_at, called_from, looks_at, calls_in, IsKnown, IsKeyOf}
use Rattle.hk_safety.specs.Noted.{MayMake, IsMade}
use Rattle.hk_safety.specs.Grown.{AreTold, IsNamed, IsTurned, is_answer, with_lines, prior_tag, is_new_in, is_new, turn_of, IsCallKept, IsKeptAfter, IsKnownBy, AreCovered, AreTouched, AreTouchedIn, AreTouchedBy, AreTouchedAt, cover_by, IsPrior, ArePrior}
use Rattle.hk_safety.specs.Shows.{lines_at, reply_line}
use Rattle.hk_safety.proofs.Acting.{next_call, IsNoCall, IsStep, IsBeside, is_at, IsMadeBy as IsWay, is_made_by, IsLone, told_lone, changed_rows_are, BeginsQuietly, call_told}
use Rattle.hk_safety.proofs.Covering.{are_joined, waits_within}
use Rattle.hk_safety.proofs.Following.{events_append, looks_append, update_append, After, known_of, known_before, agrees_before}
use Rattle.hk_safety.proofs.Noting.{begun_at, lines_told, IsSaid, said_quiet, IsToldOf, said_call}
use Rattle.hk_safety.proofs.Going.{goes_on}
use Rattle.hk_safety.proofs.Touched.{AreChanges, changes_of, IsSeen, touches_of, seen_known, unseen_known}

-- ---- what the code kept, part after part
pub kept_after : (n : ℕ) (old new : KeptState) (named told : Keys) (calls : List (List ℕ)) (replies : List Reply) (event : Event)
    (shown : Shown) → IsCallKept n old.keys named old.world event shown →
    new.calls ≡ old.calls ++ called_from (event ∷ []) → calls ≡ new.calls → replies ≡ shown.replies → AreTold named told (λ key. lines_at key calls replies) →
    AreTouchedAt n shown.acted told new.keys old.world shown.letters →
    IsKeptAfter n old (record { world = old.world; keys = new.keys; calls = new.calls }) event shown
kept_after n old new named told calls replies event shown call more same given lines covers = record {
  world = refl;
  calls = more;
  named = named;
  told = told;
  call = call;
  replies = subst (λ (cs : List (List ℕ)). AreTold named told (λ key. lines_at key cs shown.replies)) (same ∙ more)
      (subst (λ (rs : List Reply). AreTold named told (λ key. lines_at key calls rs)) given lines);
  covers = covers;
}

abbrev pub with_world : KeptState → WorldState → KeptState
with_world k w = record { world = w; keys = k.keys; calls = k.calls }

-- ---- what the world behind an event is
-- prior rows are those of a node
priors_within : (x : NodeState) → IsNode x → (rows : List PriorRow) → ((f : PriorRow) → In rows f → f.row ≡ find_row f.key x.rows) → AllByRecursion IsPrior rows
priors_within x ok [] each = tt
priors_within x ok (f ∷ rows) each = (by_row f.row (each f (inl refl)), priors_within x ok rows (λ g h. each g (inr h)))
  where
    by_row : (o : Option Row) → o ≡ find_row f.key x.rows → IfSome o (λ row. IsWithin row.stamp × IfSome row.pending (λ p. IsWithin p.stamp))
    by_row None e = tt
    by_row (Some row) e = ((found_sound x f.key row ok (sym e)).within, waits_within x f.key row ok (sym e))

behind : (xs ys : List Letter) → AllByRecursion IsLetter (xs ++ ys) → AllByRecursion IsLetter ys
behind [] ys all = all
behind (x ∷ xs) ys all = behind xs ys all.1

pub world_after : (w : WorldState) (event : Event) (a : Accepted) → IsOwn w → IsEvent event → world_step w event ≡ Ok a → IsWorld a.world
world_after w event a own within made = step_sound (step_keeps_node, letters_in_range) (keeps_managers, manager_letters) w event a own.sound within made

-- whether the key's row had another tag
found_prior : (key : List ℕ) (rows : List PriorRow) (f : PriorRow) → find (λ f. is_same_key key f.key) rows ≡ Some f → In rows f × (key ≡ f.key)
found_prior key [] f e = absurd (false≢true (ap is_some e))
found_prior key (g ∷ rows) f e = by_test (is_same_key key g.key) refl e (found_prior key rows f)
  where
    by_test : (b : Bool) → is_same_key key g.key ≡ b → cond b (Some g) (find (λ f. is_same_key key f.key) rows) ≡ Some f →
        (find (λ f. is_same_key key f.key) rows ≡ Some f → In rows f × (key ≡ f.key)) → In (g ∷ rows) f × (key ≡ f.key)
    by_test true is e more = let same : g ≡ f = cc in (inl (sym same), same_true key g.key is ∙ ap (λ (h : PriorRow). h.key) same)
    by_test false is e more = let rest = more e in (inr rest.0, rest.1)

not_found : (key : List ℕ) (rows : List PriorRow) → find (λ f. is_same_key key f.key) rows ≡ None → (f : PriorRow) → In rows f → f.key ≢ key
not_found key [] e f h = absurd h
not_found key (g ∷ rows) e f h = by_test (is_same_key key g.key) refl e h (λ none there. not_found key rows none f there)
  where
    by_test : (b : Bool) → is_same_key key g.key ≡ b → cond b (Some g) (find (λ f. is_same_key key f.key) rows) ≡ None → In (g ∷ rows) f →
        (find (λ f. is_same_key key f.key) rows ≡ None → In rows f → f.key ≢ key) → f.key ≢ key
    by_test true is e h more = absurd (false≢true (sym (ap is_some e)))
    by_test false is e (inl same) more = λ at. false≢true (sym is ∙ same_of key g.key (sym at ∙ ap (λ (k : PriorRow). k.key) same))
    by_test false is e (inr h) more = more e h

tag_before : (o : Option Row) → prior_tag o ≡ tag_of (unwrap_or o first_row).stamp
tag_before None = refl
tag_before (Some r) = refl

pub new_is : (r : Acted) (n x : NodeState) (key : List ℕ) → AreChanges r.report.rows n.rows x.rows →
    is_new (Some r) key (key_node key (Some x)).stamp ≡ not (eqb (key_node key (Some x)).stamp (key_node key (Some n)).stamp)
new_is r n x key rows = by_found (find (λ f. is_same_key key f.key) r.report.rows) refl
  where
    tag : ℕ
    tag = tag_of (row_at key x.rows).stamp

    by_found : (o : Option PriorRow) → find (λ f. is_same_key key f.key) r.report.rows ≡ o → is_new_in o tag ≡ not (eqb tag (tag_of (row_at key n.rows).stamp))
    by_found (Some f) e =
        let at = found_prior key r.report.rows f e in
        let row : f.row ≡ find_row key n.rows = rows.each f at.0 ∙ ap (λ (k : List ℕ). find_row k n.rows) (sym at.1) in
        ap (λ (t : ℕ). not (eqb tag t)) (ap prior_tag row ∙ tag_before (find_row key n.rows))
    by_found None e =
        let same : row_at key x.rows ≡ row_at key n.rows = ap (λ (o : Option Row). unwrap_or o first_row) (rows.others key (not_found key r.report.rows e)) in
        sym (ap not (eq-eqb tag (tag_of (row_at key n.rows).stamp) (ap (λ (r : Row). tag_of r.stamp) same)))

-- ---- the acting node's step
module _ (w : WorldState) (event : Event) (a : Accepted) (id : NodeId) (st : IsStep w event a id) where
  abbrev pub after : Stepped
  after = st.o

  pub found : node_at id.0 w.processes ≡ Some st.x
  found = ap node_of st.at

  pub found_now : node_at id.0 a.world.processes ≡ Some st.o.node
  found_now = ap (λ (b : Accepted). node_at id.0 b.world.processes) st.is ∙ node-put_same id (alive st.o.node) w.processes

  pub acting_is : acting_of a ≡ Some id
  acting_is = ap acting_of st.is

  pub told_is : a.told ≡ st.o.told
  told_is = ap (λ (b : Accepted). b.told) st.is

  pub replies_are : a.shown.replies ≡ map (λ t. t.1) st.o.told
  replies_are = ap (λ (b : Accepted). b.shown.replies) st.is

  -- what it reports
  abbrev pub acted_by : Acted
  acted_by = record { node = id; report = report st.x st.o.node }

  pub acted_is : a.shown.acted ≡ Some (record { node = id; report = report st.x st.o.node })
  acted_is = ap (λ (b : Accepted). b.shown.acted) st.is

  pub changes : IsOwn w → IsEvent event → IsNode st.x → AreChanges (report st.x st.o.node).rows st.x.rows st.o.node.rows
  changes own within ok = changes_of _ st.x.rows st.o.node.rows (changed_rows_are w own st.x ok st.o event within st.how)

-- ---- what is said
pub call_at_most : (w : WorldState) (id : ℕ) (x : NodeState) (k : List ℕ) (op : Op) → IsOwn w → node_at id w.processes ≡ Some x → IsNode x →
    IsToldOf (told_at k (called x (next_call w) k op).told) (next_call w) (key_node k (Some x)) (key_node k (Some (called x (next_call w) k op).node))
call_at_most w id x k op own found ok = ⊎_elim
    (λ (alone : IsAnsweredAlone k (next_call w) (called x (next_call w) k op)).
    let r : Reply = record { call = next_call w; answer = alone.0 } in
    inl (r, ap (told_at k) alone.1 ∙ ap (λ (b : Bool). cond b (r ∷ []) []) (same_itself k), refl))
    (λ (quiet : BeginsQuietly x k (called x (next_call w) k op)). inr (ap (told_at k) quiet.silent, quiet.rises)) (call_told w id x k op own found ok)

-- all that a call is told is told at its key
call_only : (w : WorldState) (id : ℕ) (x : NodeState) (k : List ℕ) (op : Op) → IsOwn w → node_at id w.processes ≡ Some x → IsNode x →
    map (λ t. t.1) (called x (next_call w) k op).told ≡ told_at k (called x (next_call w) k op).told
call_only w id x k op own found ok = ⊎_elim
    (λ (alone : IsAnsweredAlone k (next_call w) (called x (next_call w) k op)).
    let r : Reply = record { call = next_call w; answer = alone.0 } in
    ap (map (λ t. t.1)) alone.1 ∙ sym (ap (told_at k) alone.1 ∙ ap (λ (b : Bool). cond b (r ∷ []) []) (same_itself k)))
    (λ (quiet : BeginsQuietly x k (called x (next_call w) k op)). ap (map (λ t. t.1)) quiet.silent ∙ sym (ap (told_at k) quiet.silent))
    (call_told w id x k op own found ok)

pub call_elsewhere : (w : WorldState) (id : ℕ) (x : NodeState) (key k : List ℕ) (op : Op) → IsOwn w → node_at id w.processes ≡ Some x → IsNode x → key ≢ k →
    told_at key (called x (next_call w) k op).told ≡ []
call_elsewhere w id x key k op own found ok ne = ⊎_elim
    (λ (alone : IsAnsweredAlone k (next_call w) (called x (next_call w) k op)).
    let r : Reply = record { call = next_call w; answer = alone.0 } in
    ap (told_at key) alone.1 ∙ ap (λ (b : Bool). cond b (r ∷ []) []) (same_not key k ne))
    (λ (quiet : BeginsQuietly x k (called x (next_call w) k op)). ap (told_at key) quiet.silent) (call_told w id x k op own found ok)

abbrev numbered_call : ℕ → CallNo
numbered_call n = record { 0 = n }

module _ (w : WorldState) (own : IsOwn w) (a : Accepted) (id : NodeId) (x : NodeState) (ok : IsNode x) (found : node_at id.0 w.processes ≡ Some x)
    (n : ℕ) (keys named : Keys) (key : List ℕ) where
  -- what is said of the key of an event, of which this node made this
  abbrev SaidBy : Event → Stepped → Type 0
  SaidBy event o =
      let rs : List Reply = told_at key o.told in
      let said : List Item = items_of key event (w.calls + 1) (key_node key (Some x)) (key_node key (Some o.node)) rs in
      IsSaid (key_at key keys) (key_at key named) (map reply_line rs) said (updates_of id.0 (key_node key (Some x)) said)

  abbrev SaidOf : NodeId → List ℕ → List ℕ → Op → Stepped → Type 0
  SaidOf i j k op o =
      IsSaid (key_at j keys) (key_at j named) (map reply_line (told_at j o.told))
      (items_of j (Call i k op) (w.calls + 1) (key_node j (Some x)) (key_node j (Some o.node)) (told_at j o.told))
      (updates_of id.0 (key_node j (Some x)) (items_of j (Call i k op) (w.calls + 1) (key_node j (Some x)) (key_node j (Some o.node)) (told_at j o.told)))

  quiet_said : (o : Stepped) → IsLone (told_at key o.told) → named ≡ keys →
      IsSaid (key_at key keys) (key_at key named) (map reply_line (told_at key o.told))
      (map (reply_item (pending_stamp (key_node key (Some x)).phase)) (told_at key o.told))
      (updates_of id.0 (key_node key (Some x)) (map (reply_item (pending_stamp (key_node key (Some x)).phase)) (told_at key o.told)))
  quiet_said o lone same = said_quiet (key_at key keys) (key_at key named) id.0 (key_node key (Some x)) (pending_stamp (key_node key (Some x)).phase)
      (told_at key o.told) lone (ap (key_at key) same)

  -- what must be known of the step of a call
  record IsCalled (k : List ℕ) (op : Op) (o : Stepped) (r : Acted) : Type 0 where
    step : o ≡ called x (next_call w) k op
    there : node_at id.0 a.world.processes ≡ Some o.node
    counted : a.world.calls ≡ w.calls + 1
    replies : a.shown.replies ≡ map (λ t. t.1) o.told
    acted : a.shown.acted ≡ Some r
    rows : AreChanges r.report.rows x.rows o.node.rows

  own_said : (i : NodeId) (k : List ℕ) (op : Op) (r : Acted) → key ≡ k → IsCalled k op (called x (next_call w) k op) r →
      IsNamed keys named k (turn_of n a.world id k a.shown) op → SaidBy (Call i k op) (called x (next_call w) k op)
  own_said i k op r e s call =
      let o : Stepped = called x (next_call w) k op in
      let was : Node = key_node k (Some x) in
      let now : Node = key_node k (Some o.node) in
      let rs : List Reply = told_at k o.told in
      let number : record { 0 = a.world.calls } ≡ next_call w = ap numbered_call s.counted in
      let there : Node = key_node k (node_at id.0 a.world.processes) in
      let tag : there.stamp ≡ now.stamp = ap (λ (n : Option NodeState). (key_node k n).stamp) s.there in
      let began : is_new a.shown.acted k there.stamp ≡ not (eqb now.stamp was.stamp) =
      ap (λ (t : ℕ). is_new a.shown.acted k t) tag ∙ ap (λ (b : Option Acted). is_new b k now.stamp) s.acted ∙ new_is r x o.node k s.rows in
      let answered : is_answer a.shown.replies ≡ is_answer rs = ap is_answer (s.replies ∙ call_only w id.0 x k op own found ok) in
      let items : (key_at k named).items ≡ (key_at k keys).items ++ HistoryEvent.Call (next_call w) op ∷ [] = call.here.items
      ∙ ap (λ (c : CallNo). (key_at k keys).items ++ HistoryEvent.Call c op ∷ []) number in
      let turned : IsTurned (not (eqb now.stamp was.stamp)) (is_answer rs) (key_at k keys).stamps (key_at k named).stamps now.stamp (next_call w) n =
      subst (λ (c : CallNo). IsTurned (not (eqb now.stamp was.stamp)) (is_answer rs) (key_at k keys).stamps (key_at k named).stamps now.stamp c n) number
      (subst (λ (t : ℕ). IsTurned (not (eqb now.stamp was.stamp)) (is_answer rs) (key_at k keys).stamps (key_at k named).stamps t (record { 0 = a.world.calls }) n) tag
      (subst (λ (b : Bool). IsTurned b (is_answer rs) (key_at k keys).stamps (key_at k named).stamps there.stamp (record { 0 = a.world.calls }) n) began
      (subst (λ (c : Bool). IsTurned (is_new a.shown.acted k there.stamp) c (key_at k keys).stamps (key_at k named).stamps there.stamp (record { 0 = a.world.calls }) n)
      answered call.here.stamps))) in
      let said : IsSaid (key_at k keys) (key_at k named) (map reply_line rs) (call_items (eqb now.stamp was.stamp) (w.calls + 1) op was now rs)
      (updates_of id.0 was (call_items (eqb now.stamp was.stamp) (w.calls + 1) op was now rs)) =
      said_call (key_at k keys) (key_at k named) id.0 was now n (next_call w) op rs items turned (call_at_most w id.0 x k op own found ok) in
      subst (λ (j : List ℕ). SaidOf i j k op o) (sym e)
      (subst (λ (c : Bool). IsSaid (key_at k keys) (key_at k named) (map reply_line rs)
      (cond c (call_items (eqb now.stamp was.stamp) (w.calls + 1) op was now rs) [])
      (updates_of id.0 was (cond c (call_items (eqb now.stamp was.stamp) (w.calls + 1) op was now rs) [])))
      (sym (same_itself k)) said)

  other_said : (i : NodeId) (k : List ℕ) (op : Op) → key ≢ k → IsNamed keys named k (turn_of n a.world id k a.shown) op →
      SaidBy (Call i k op) (called x (next_call w) k op)
  other_said i k op ne call =
      let o : Stepped = called x (next_call w) k op in
      let none : told_at key o.told ≡ [] = call_elsewhere w id.0 x key k op own found ok ne in
      let items : items_of key (Call i k op) (w.calls + 1) (key_node key (Some x)) (key_node key (Some o.node)) (told_at key o.told) ≡ [] =
      ap (λ (c : Bool). cond c (call_items (eqb (key_node key (Some o.node)).stamp (key_node key (Some x)).stamp) (w.calls + 1) op (key_node key (Some x))
      (key_node key (Some o.node)) (told_at key o.told)) []) (same_not key k ne) in
      let said : IsSaid (key_at key keys) (key_at key named) [] [] [] =
      said_quiet (key_at key keys) (key_at key named) id.0 (key_node key (Some x)) 0 [] tt (call.others key (same_not key k ne)) in
      subst (λ (is : List Item). IsSaid (key_at key keys) (key_at key named) (map reply_line (told_at key o.told)) is
      (updates_of id.0 (key_node key (Some x)) is)) (sym items)
      (subst (λ (rs : List Reply). IsSaid (key_at key keys) (key_at key named) (map reply_line rs) [] []) (sym none) said)

  called_said : (i : NodeId) (k : List ℕ) (op : Op) (o : Stepped) (r : Acted) → IsCalled k op o r → IsNamed keys named k (turn_of n a.world id k a.shown) op →
      SaidBy (Call i k op) o
  called_said i k op o r s call = subst (λ (p : Stepped). SaidBy (Call i k op) p) (sym s.step)
      (⊎_elim (λ (e : key ≡ k). own_said i k op r e (subst (λ (p : Stepped). IsCalled k op p r) s.step s) call)
      (λ (ne : key ≢ k). other_said i k op ne call) (cases_key key k))

module _ (w : WorldState) (own : IsOwn w) (a : Accepted) (id : NodeId) (ok : (event : Event) (st : IsStep w event a id) → IsNode st.x)
    (n : ℕ) (keys named : Keys) (key : List ℕ) where
  pub said_at : (event : Event) → IsEvent event → (st : IsStep w event a id) → is_at event id → IsCallKept n keys named a.world event a.shown →
      SaidBy w own a id st.x (ok event st) (found w event a id st) n keys named key event st.o
  said_at (Call i k op) within st named_at call =
      let e : NodeEvent.Call (next_call w) k op ≡ st.how.0 = the_some _ _ st.how.1 in
      let mine : IsNamed keys named k (turn_of n a.world id k a.shown) op = subst (λ (j : NodeId). IsNamed keys named k (turn_of n a.world j k a.shown) op) named_at call in
      called_said w own a id st.x (ok (Call i k op) st) (found w (Call i k op) a id st) n keys named key i k op st.o (acted_by w (Call i k op) a id st)
      (record {
        step = st.how.2 ∙ ap (node_step st.x) (sym e);
        there = found_now w (Call i k op) a id st;
        counted = ap (λ (b : Accepted). b.world.calls) st.is;
        replies = replies_are w (Call i k op) a id st;
        acted = acted_is w (Call i k op) a id st;
        rows = changes w (Call i k op) a id st own within (ok (Call i k op) st);
      }) mine
  said_at event within st named_at call = quiet_said w own a id st.x (ok event st) (found w event a id st) n keys named key st.o
      (told_lone w own st.x (ok event st) st.o event within st.how key) call

-- ---- all together
uncalled : (at : ℕ) (m n : Keys) (w : WorldState) (event : Event) (shown : Shown) → IsNoCall event → IsCallKept at m n w event shown → n ≡ m
uncalled at m n w (Call id key op) shown none h = absurd none
uncalled at m n w event shown none h = h

call_keys : (at : ℕ) (m n : Keys) (w : WorldState) (event : Event) (shown : Shown) → IsCallKept at m n w event shown → keys_of n ≡ with_named event (keys_of m)
call_keys at m n w (Call i k op) shown h = h.keys
call_keys at m n w event shown h = ap keys_of h

-- ---- what the covers leave as it was
pub record IsSameBut (old new : KeyState) : Type 0 where
  pub items : new.items ≡ old.items
  pub update : (s : ℕ) → (at_stamp s new).update ≡ (at_stamp s old).update
  pub read_only : (s : ℕ) → (at_stamp s new).read_only ≡ (at_stamp s old).read_only

same_but : (old new : KeyState) → new ≡ old → IsSameBut old new
same_but old new e = record {
  items = ap (λ (k : KeyState). k.items) e;
  update = λ s. ap (λ (k : KeyState). (at_stamp s k).update) e;
  read_only = λ s. ap (λ (k : KeyState). (at_stamp s k).read_only) e;
}

module _ (key : List ℕ) (t : Trace) (event : Event) (a : Accepted) (id : NodeId) (was x : Node) (k0 k1 k2 k3 : KeyState) (lines : List HistoryEvent)
    (is : IsKeyOf key k0 t) where
  abbrev said : List Item
  said = items_of key event (t.world.calls + 1) was x (told_at key a.told)

  -- items, updates and read-only calls go on with the trace
  followed_by : IsSaid k0 k1 lines said (updates_of id.0 was said) → k2 ≡ with_lines k1 lines → IsSameBut k2 k3 →
      ((s : ℕ) → 1 ≤ s → IsKnown (After a) (project key (added key t event a id.0 was x)) s (at_stamp s k3).evidence) →
      IsKeyOf key k3 (added key t event a id.0 was x)
  followed_by s e same known = record {
    items = same.items ∙ ap (λ (k : KeyState). k.items) e ∙ s.items ∙ ap (λ (l : List HistoryEvent). l ++ events_of said) is.items ∙ sym (events_append said t.history);
    update = λ u. same.update u ∙ ap (λ (k : KeyState). (at_stamp u k).update) e ∙ s.update u
        ∙ ap (begun_at u (updates_of id.0 was said)) (is.update u) ∙ sym (update_append u (updates_of id.0 was said) t.begun);
    read_only = λ u. ap calls_in (same.read_only u) ∙ ap (λ (k : KeyState). calls_in (at_stamp u k).read_only) e ∙ s.read_only u
        ∙ ap (λ (l : List CallNo). l ++ looks_at u said) (is.read_only u) ∙ sym (looks_append u said t.history);
    known = known;
  }

-- the keys that are kept stay so
touched_there : (n : ℕ) (by : Option Acted) (told new : Keys) (w : WorldState) (letters : List Letter) → AreTouchedAt n by told new w letters → (key : List ℕ) →
    is_some (find_key key new) ≡ is_some (find_key key told)
touched_there n None told new w letters h key = ap (λ (ks : Keys). is_some (find_key key ks)) h
touched_there n (Some r) told new w letters h key = by_node (node_at r.node.0 w.processes) h
  where
    by_view : (x : NodeState) (o : Option View) → AreTouchedIn n o told new x r letters → is_some (find_key key new) ≡ is_some (find_key key told)
    by_view x None h = ap (λ (ks : Keys). is_some (find_key key ks)) h
    by_view x (Some v) h = h.of_acks.there key ∙ h.of_open.covered.there key ∙ h.of_changed.there key

    by_node : (o : Option NodeState) → AreTouchedBy n o told new r letters → is_some (find_key key new) ≡ is_some (find_key key told)
    by_node None h = ap (λ (ks : Keys). is_some (find_key key ks)) h
    by_node (Some x) h = by_view x x.view h

touched_keys : (n : ℕ) (by : Option Acted) (told new : Keys) (w : WorldState) (letters : List Letter) → AreTouchedAt n by told new w letters →
    keys_of new ≡ keys_of told
touched_keys n None told new w letters h = ap keys_of h
touched_keys n (Some r) told new w letters h = by_node (node_at r.node.0 w.processes) h
  where
    by_view : (x : NodeState) (o : Option View) → AreTouchedIn n o told new x r letters → keys_of new ≡ keys_of told
    by_view x None h = ap keys_of h
    by_view x (Some v) h = h.of_acks.keys ∙ h.of_open.covered.keys ∙ h.of_changed.keys

    by_node : (o : Option NodeState) → AreTouchedBy n o told new r letters → keys_of new ≡ keys_of told
    by_node None h = ap keys_of h
    by_node (Some x) h = by_view x x.view h

-- ---- a node acts
module _ (key : List ℕ) (t : Trace) (event : Event) (within : IsEvent event) (a : Accepted) (e : world_step t.world event ≡ Ok a) (id : NodeId)
    (st : IsStep t.world event a id) (named_at : is_at event id) (kept : IsKept key t)
    (kept_now : IsKept key (added key t event a id.0 (key_node key (node_at id.0 t.world.processes)) (key_node key (node_at id.0 a.world.processes)))) where
  abbrev y : NodeState
  y = st.o.node

  abbrev r : Acted
  r = acted_by t.world event a id st

  ok_of : (event : Event) (st : IsStep t.world event a id) → IsNode st.x
  ok_of event st = (node_holds t.world kept.own.sound id.0 st.x (found t.world event a id st)).1

  ok_now : IsNode st.o.node
  ok_now = (node_holds a.world kept_now.own.sound id.0 st.o.node (found_now t.world event a id st)).1

  abbrev was : Node
  was = key_node key (Some st.x)

  abbrev now : Node
  now = key_node key (Some st.o.node)

  abbrev V : ℕ → List ℕ
  V = After a

  abbrev next : Trace
  next = added key t event a id.0 was now

  -- the key's parts of the node, before and after
  next_is : added key t event a id.0 (key_node key (node_at id.0 t.world.processes)) (key_node key (node_at id.0 a.world.processes)) ≡ next
  next_is = ap (λ (o : Option NodeState). added key t event a id.0 (key_node key o) (key_node key (node_at id.0 a.world.processes))) (found t.world event a id st)
      ∙ ap (λ (o : Option NodeState). added key t event a id.0 was (key_node key o)) (found_now t.world event a id st)

  kept_next : IsKept key next
  kept_next = subst (IsKept key) next_is kept_now

  parts : Parts V (project key t)
  parts = kept.parts V (agrees_before key t event a e kept kept_next.own)

  parts_next : Parts V (project key next)
  parts_next = kept_next.parts V (own_agrees a.world kept_next.own)

  seen_as : (v : View) → st.o.node.view ≡ Some v →
      IsSeen V key (project key t) (project key next) id.0 r st.x st.o.node v a.shown.letters
  seen_as v view_is =
      let agreed = (kept_next.own.node id.0 st.o.node (found_now t.world event a id st)).agreed v view_is in
      record {
        parts = parts;
        parts_now = parts_next;
        was = ap (key_node key) (found t.world event a id st);
        now = ap (key_node key) (found_now t.world event a id st);
        marks = refl;
        ok_was = ok_of event st;
        ok_now = ok_now;
        view = view_is;
        some = (kept_next.own.views.within v agreed).0;
        epoch = refl;
        readied = refl;
        rows = changes t.world event a id st kept.own within (ok_of event st);
        fits = own_agrees a.world kept_next.own v agreed;
      }

  module _ (n : ℕ) (told new : Keys) (there : is_some (find_key key told) ≡ true) where
    -- what is known once all is covered
    abbrev KnownOn : Type 0
    KnownOn = IsSameBut (key_at key told) (key_at key new) × ((u : ℕ) → 1 ≤ u → IsKnownBy V t.marks u (at_stamp u (key_at key told)).evidence →
        IsKnownBy V (step_marks id.0 was now (letters_of key a.shown.letters) ++ t.marks) u (at_stamp u (key_at key new)).evidence)

    viewed : (v : View) → st.o.node.view ≡ Some v → AreTouched n told new st.o.node v r a.shown.letters → KnownOn
    viewed v view_is touched =
        let c : Cover = cover_by n r st.o.node in
        let seen = touched.of_open.seen in
        let all : AreCovered v c told new (touches_of st.o.node v r seen a.shown.letters) =
        are_joined v c told touched.opened new _ _ (are_joined v c told touched.changed touched.opened _ _ touched.of_changed touched.of_open.covered) touched.of_acks in
        let at_key = all.each key there in (
          record { items = at_key.items; update = at_key.update; read_only = at_key.read_only },
          λ u some k. seen_known V key (project key t) (project key next) id.0 r st.x st.o.node v a.shown.letters seen (seen_as v view_is)
              touched.of_open.all c refl refl u some (at_stamp u (key_at key new)).evidence (at_key.known V (seen_as v view_is).fits t.marks u some k),
        )

    unviewed : st.o.node.view ≡ None → new ≡ told → KnownOn
    unviewed none same = (
      same_but (key_at key told) (key_at key new) (ap (key_at key) same),
      λ u some k. unseen_known V (project key next) id.0 was now (letters_of key a.shown.letters) t.marks parts_next refl (ap epoch_in none) u
          (at_stamp u (key_at key new)).evidence (subst (λ (ks : Keys). IsKnownBy V t.marks u (at_stamp u (key_at key ks)).evidence) (sym same) k),
    )

    by_view : (o : Option View) → st.o.node.view ≡ o → AreTouchedIn n o told new st.o.node r a.shown.letters → KnownOn
    by_view None e h = unviewed e h
    by_view (Some v) e h = viewed v e h

    covered_on : AreTouchedAt n a.shown.acted told new a.world a.shown.letters → KnownOn
    covered_on h = by_view st.o.node.view refl
        (subst (λ (o : Option NodeState). AreTouchedBy n o told new r a.shown.letters) (found_now t.world event a id st)
        (subst (λ (b : Option Acted). AreTouchedAt n b told new a.world a.shown.letters) (acted_is t.world event a id st) h))

  pub acted_follows : (n : ℕ) (keys named told new : Keys) (calls : List (List ℕ)) →
      ((k : List ℕ) (q : Reply) → In a.told (k, q) → numbered q.call.0 calls ≡ Some k) → IsCallKept n keys named a.world event a.shown →
      AreTold named told (λ key. lines_at key calls a.shown.replies) → is_some (find_key key told) ≡ true → AreTouchedAt n a.shown.acted told new a.world a.shown.letters →
      IsKeyOf key (key_at key keys) t → IsKeyOf key (key_at key new) next
  acted_follows n keys named told new calls numbers call lines there2 covers is0 =
      let rs : List Reply = told_at key a.told in
      let same_told : a.told ≡ st.o.told = told_is t.world event a id st in
      let there1 : is_some (find_key key named) ≡ true = sym (lines.there key) ∙ there2 in
      let given0 = said_at t.world kept.own a id ok_of n keys named key event within st named_at call in
      let given : IsSaid (key_at key keys) (key_at key named) (map reply_line rs) (items_of key event (t.world.calls + 1) was now rs)
      (updates_of id.0 was (items_of key event (t.world.calls + 1) was now rs)) =
      subst (λ (l : List (List ℕ × Reply)). IsSaid (key_at key keys) (key_at key named) (map reply_line (told_at key l))
      (items_of key event (t.world.calls + 1) was now (told_at key l)) (updates_of id.0 was (items_of key event (t.world.calls + 1) was now (told_at key l))))
      (sym same_told) given0 in
      let replied : lines_at key calls a.shown.replies ≡ map reply_line rs =
      ap (lines_at key calls) (replies_are t.world event a id st ∙ ap (map (λ t. t.1)) (sym same_told)) ∙ lines_told key calls a.told numbers in
      let told_with : key_at key told ≡ with_lines (key_at key named) (map reply_line rs) =
      lines.each key there1 ∙ ap (with_lines (key_at key named)) replied in
      let on = covered_on n told new there2 covers in
      followed_by key t event a id was now (key_at key keys) (key_at key named) (key_at key told) (key_at key new) (map reply_line rs) is0 given told_with on.0
      (λ u some.
      let ev_same : (at_stamp u (key_at key told)).evidence ≡ (at_stamp u (key_at key keys)).evidence =
      ap (λ (k : KeyState). (at_stamp u k).evidence) told_with ∙ given.evidence u in
      let known : IsKnownBy V t.marks u (at_stamp u (key_at key keys)).evidence =
      known_before key t event a e kept kept_next.own u (at_stamp u (key_at key keys)).evidence (is0.known u some) in
      known_of V (project key next) parts_next u (at_stamp u (key_at key new)).evidence
      (on.1 u some (subst (IsKnownBy V t.marks u) (sym ev_same) known)))

-- ---- no node acts
with_none : (k : KeyState) → with_lines k [] ≡ k
with_none k = ap (λ (l : List HistoryEvent). record { items = l; stamps = k.stamps }) (append-nil k.items)

beside_follows : (key : List ℕ) (t : Trace) (event : Event) (a : Accepted) (e : world_step t.world event ≡ Ok a) (kept : IsKept key t)
    (kept_now : IsKept key (traced_by key t event a None)) (old new : KeyState) → new ≡ old → IsKeyOf key old t → IsKeyOf key new (traced_by key t event a None)
beside_follows key t event a e kept kept_now old new same is =
    subst (λ (k : KeyState). IsKeyOf key k (traced_by key t event a None)) (sym same) (record {
      items = is.items;
      update = is.update;
      read_only = is.read_only;
      known = λ s some. known_of (After a) (project key (traced_by key t event a None))
          (kept_now.parts (After a) (own_agrees a.world kept_now.own)) s (at_stamp s old).evidence
          (known_before key t event a e kept kept_now.own s (at_stamp s old).evidence (is.known s some));
    })

-- ---- an event
module _ (n : ℕ) (old : KeptState) (event : Event) (may : MayMake old event) (a : Accepted) (made : world_step old.world event ≡ Ok a) (new : KeptState)
    (kept : IsKeptAfter n (with_world old a.world) new event a.shown) where
  abbrev calls : List (List ℕ)
  calls = old.calls ++ called_from (event ∷ [])

  module _ (key : List ℕ) (there : is_some (find_key key new.keys) ≡ true) (t : Trace) (world : t.world ≡ old.world) (kept_t : IsKept key t)
      (is : IsKeyOf key (key_at key old.keys) t) where
    made_t : world_step t.world event ≡ Ok a
    made_t = ap (λ (w : WorldState). world_step w event) world ∙ made

    there2 : is_some (find_key key kept.told) ≡ true
    there2 = sym (touched_there n a.shown.acted kept.told new.keys a.world a.shown.letters kept.covers key) ∙ there

    acted_case : (id : NodeId) → IsStep t.world event a id → is_at event id → IsKept key (traced key t event a) →
        IsKeyOf key (key_at key new.keys) (traced key t event a)
    acted_case id st named_at kept_now =
        let next = added key t event a id.0 (key_node key (node_at id.0 t.world.processes)) (key_node key (node_at id.0 a.world.processes)) in
        let next_at : traced key t event a ≡ next = ap (traced_by key t event a) (acting_is t.world event a id st) in
        let kept_next : IsKept key next = subst (IsKept key) next_at kept_now in
        let result = acted_follows key t event may.event a made_t id st named_at kept_t kept_next n old.keys kept.named kept.told new.keys calls
        (λ k q h. may.told a made k q h) kept.call kept.replies there2 kept.covers is in
        subst (IsKeyOf key (key_at key new.keys)) (sym next_at) (subst (IsKeyOf key (key_at key new.keys))
        (sym (next_is key t event may.event a made_t id st named_at kept_t kept_next)) result)

    none_case : IsBeside t.world event a → IsKept key (traced key t event a) → IsKeyOf key (key_at key new.keys) (traced key t event a)
    none_case b kept_now =
        let unacted : a.shown.acted ≡ None = by_option a.shown.acted b.acting in
        let there1 : is_some (find_key key kept.named) ≡ true = sym (kept.replies.there key) ∙ there2 in
        let named : kept.named ≡ old.keys = uncalled n old.keys kept.named a.world event a.shown b.no_call kept.call in
        let told : key_at key kept.told ≡ key_at key kept.named =
        kept.replies.each key there1 ∙ ap (λ (rs : List Reply). with_lines (key_at key kept.named) (lines_at key calls rs)) b.replies ∙ with_none (key_at key kept.named) in
        let covers : new.keys ≡ kept.told = subst (λ (o : Option Acted). AreTouchedAt n o kept.told new.keys a.world a.shown.letters) unacted kept.covers in
        let same : key_at key new.keys ≡ key_at key old.keys = ap (key_at key) covers ∙ told ∙ ap (key_at key) named in
        let next_at : traced key t event a ≡ traced_by key t event a None = ap (traced_by key t event a) b.acting in
        subst (IsKeyOf key (key_at key new.keys)) (sym next_at)
        (beside_follows key t event a made_t kept_t (subst (IsKept key) next_at kept_now) (key_at key old.keys) (key_at key new.keys) same is)
      where
        by_option : (o : Option Acted) → option_map (λ r. r.node) o ≡ None → o ≡ None
        by_option None e = refl
        by_option (Some r) e = cc

    followed : IsKept key (traced key t event a) → IsKeyOf key (key_at key new.keys) (traced key t event a)
    followed kept_now = by_way (is_made_by t.world a event made_t)
      where
        by_way : IsWay t.world event a → IsKeyOf key (key_at key new.keys) (traced key t event a)
        by_way (inl s) = acted_case s.0 s.1 s.2 kept_now
        by_way (inr b) = none_case b kept_now

  pub is_made : IsMade n old new event a
  is_made = record {
    made = made;
    world = kept.world;
    calls = kept.calls;
    keys = touched_keys n a.shown.acted kept.told new.keys a.world a.shown.letters kept.covers ∙ kept.replies.keys ∙ call_keys n old.keys kept.named a.world event a.shown kept.call;
    followed = λ key there t world kept_t kept_now is. followed key there t world kept_t is kept_now;
    goes = λ key there. goes_on n old.keys kept.named kept.told new.keys a.world event a.shown calls kept.call kept.replies kept.covers key (sym (touched_there n a.shown.acted kept.told new.keys a.world a.shown.letters kept.covers key) ∙ there);
  }

-- ---- what is known of what an event shows
-- the letters of a step are in range, and the prior rows are a node's
pub shown_within : (w : WorldState) (event : Event) (a : Accepted) → IsOwn w → IsEvent event → world_step w event ≡ Ok a →
    AllByRecursion IsLetter a.shown.letters × ArePrior a.shown.acted
shown_within w event a own within made = by_way (is_made_by w a event made)
  where
    by_option : (o : Option Acted) → option_map (λ r. r.node) o ≡ None → ArePrior o
    by_option None e = tt
    by_option (Some r) e = cc

    by_way : IsWay w event a → AllByRecursion IsLetter a.shown.letters × ArePrior a.shown.acted
    by_way (inl s) =
        let st = s.1 in
        let ok : IsNode st.x = (node_holds w own.sound s.0.0 st.x (found w event a s.0 st)).1 in
        let letters : a.shown.letters ≡ st.o.letters = ap (λ (b : Accepted). b.shown.letters) st.is in
        let all : a.world.letters ≡ w.letters ++ st.o.letters = ap (λ (b : Accepted). b.world.letters) st.is in
        let rows = changes w event a s.0 st own within ok in (
          subst (AllByRecursion IsLetter) (sym letters) (behind w.letters st.o.letters
              (subst (AllByRecursion IsLetter) all (world_after w event a own within made).letters)),
          subst ArePrior (sym (acted_is w event a s.0 st)) (priors_within st.x ok (report st.x st.o.node).rows rows.each),
        )
    by_way (inr b) = (
      behind w.letters a.shown.letters (subst (AllByRecursion IsLetter) b.letters (world_after w event a own within made).letters),
      by_option a.shown.acted b.acting,
    )
