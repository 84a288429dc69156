-- Each step of a node keeps what the world says of nodes, tells letters in range, and answers calls of so far.
use Rattle.std.proofs.Common.{◌≡◌, ℕ, Bool, true, false, cond, not, ◌&&◌, ◌+◌, List, [], ◌∷◌, map, ◌≤◌, sym, refl, ap, subst, inl, inr, ⊎_elim, arith, Option, Some, None, unwrap_or, eqb, ltb, nat_cmp}
use Rattle.std.specs.List.{AllByRecursion, flat_map}
use Rattle.std.specs.List.Sorted.{IsStrictlySortedBy}
use Rattle.std.specs.Map.{keys_of}
use Rattle.std.specs.Option.{option_map, option_or}
use Rattle.std.proofs.lemmas.Map.Made.{lookup-map_values}
use Rattle.hk_base.specs.declared.stamp.Stamp.{Stamp}
use Rattle.hk_base.specs.declared.stamp.NodeId.{NodeId}
use Rattle.hk_base.specs.declared.stamp.Kind.{Kind}
use Rattle.hk_base.specs.declared.stamp.Kind.TheVariants as Kind
use Rattle.hk_base.specs.declared.call.CallNo.{CallNo}
use Rattle.hk_base.specs.declared.call.Op.{Op}
use Rattle.hk_base.specs.declared.call.Answer.{Answer}
use Rattle.hk_base.specs.declared.call.Answer.TheVariants.{Busy, Exhausted}
use Rattle.hk_base.specs.declared.call.Why.TheVariants as Why
use Rattle.hk_base.specs.declared.call.Reply.{Reply}
use Rattle.hk_base.specs.declared.call.State.{State}
use Rattle.hk_base.specs.declared.call.State.TheVariants as State
use Rattle.hk_base.specs.declared.letter.Actor.{Actor}
use Rattle.hk_base.specs.declared.letter.Actor.TheVariants as Actor
use Rattle.hk_base.specs.declared.letter.Body.{Body}
use Rattle.hk_base.specs.declared.letter.Body.TheVariants.{Inv, Ack, Val, CopyAsk, CopyGive, LeaseAsk, LeaseGive, Prepare, Promise, Accept, Accepted, Chosen, Activate}
use Rattle.hk_base.specs.declared.letter.Letter.{Letter}
use Rattle.hk_base.specs.declared.letter.CopyItem.{CopyItem}
use Rattle.hk_base.specs.declared.view.View.{View}
use Rattle.hk_base.specs.Stamp.{tag_of, stamp_after}
use Rattle.hk_base.specs.declared.stamp.TheConstants.{MAX_VERSION}
use Rattle.hk_base.specs.Register.{act}
use Rattle.hk_copy.specs.Batches.{key_cmp, is_nil, last_key}
use Rattle.hk_key.specs.declared.row.Row.{Row}
use Rattle.hk_key.specs.Table.{Done, first_row, still, begin, on_inv, on_ack, on_val, on_view, resend, replay, on_copy}
use Rattle.hk_register.specs.Machine.{In}
use Rattle.hk_register.proofs.Grow.{in_either}
use Rattle.hk_node.specs.Rows.{Rows, find_row, row_at, with_row}
use Rattle.hk_node.specs.Node.{NodeState, epoch_of, members_of, is_other}
use Rattle.hk_base.specs.View.{is_member}
use Rattle.hk_node.specs.Sends.{letters_to, sent}
use Rattle.hk_node.specs.Stepped.{Stepped, idle, told_of, row_step}
use Rattle.hk_node.specs.Calls.{kind_of, next_stamp, register_in, answers, at_limit, at_turn, at_state, lease_end, at_lease, called}
use Rattle.hk_node.specs.Heard.{raised, is_greatest, has_majority}
use Rattle.hk_node.specs.Copies.{asks_copy, batch_behind, gives_copy, merged, is_next, takes_copy}
use Rattle.hk_node.specs.Steps.{on_found, resent, replayed, asks_lease, heard, viewed, installed_in, installs, installs_by_majority, received, is_addressed, receives_from, receives, ticks, grants}
use Rattle.hk_effects.specs.Own.{IsSmall, IsRowOf, IsNodeOf, IsTold}
use Rattle.hk_effects.proofs.Acts.{alike}
use Rattle.hk_effects.proofs.RowsKept.{IsReplyOf, IsDoneOf, first_of, still_of, inv_of, val_of, copy_of_row, begin_of, replay_of, resend_of, view_of_row, ack_of, row_more, with_row_of, found_of}
use Rattle.hk_effects.proofs.LettersKept.{IsSaid, AreTold, none_told, letters_told, sent_told, each_row, batch_told}

-- the calls that are answered are of so far
abbrev pub AreAnswered : ℕ → List (List ℕ × Reply) → Type 0
AreAnswered calls told = (t : List ℕ × Reply) → In told t → t.1.call.0 ≤ calls

-- what a node's step owes to the world
pub record IsSteppedOf (views : List View) (calls : ℕ) (s : Stepped) : Type 0 where
  pub node : IsNodeOf views calls s.node
  pub letters : AreTold s.letters
  pub told : AreAnswered calls s.told

pub node_more : (views : List View) (a b : ℕ) (x : NodeState) → a ≤ b → IsNodeOf views a x → IsNodeOf views b x
node_more views a b x up ok = record { small = ok.small; agreed = ok.agreed; row = λ key. row_more a b (row_at key x.rows) up (ok.row key) }

reply_told : (calls : ℕ) (key : List ℕ) (r : Option Reply) → IsReplyOf calls r → AreAnswered calls (told_of key r)
reply_told calls key None ok t h = absurd h
reply_told calls key (Some r) ok t (inl e) = subst (λ (k : List ℕ × Reply). k.1.call.0 ≤ calls) (sym e) ok
reply_told calls key (Some r) ok t (inr h) = absurd h

merged_of : (calls : ℕ) (items : List CopyItem) (rows : Rows) → AllByRecursion (λ (item : CopyItem). IsSmall item.stamp) items → ((key : List ℕ) → IsRowOf calls (row_at key rows)) → (key : List ℕ) → IsRowOf calls (row_at key (merged items rows))
merged_of calls [] rows small ok key = ok key
merged_of calls (i ∷ items) rows small ok key =
    merged_of calls items (with_row i.key (on_copy (row_at i.key rows) i) rows) small.1
    (with_row_of calls i.key (on_copy (row_at i.key rows) i) rows ok (copy_of_row calls (row_at i.key rows) i (ok i.key) small.0)) key

-- the stamp of a call's update is of its node
after_of_node : (step : ℕ) (s : Stamp) (node : ℕ) (t : Stamp) → stamp_after step s node ≡ Some t → t.node ≡ node
after_of_node step s node t e = by_test (ltb MAX_VERSION (s.version + step)) e
  where
    by_test : (b : Bool) → cond b None (Some (record { version = s.version + step; node = node })) ≡ Some t → t.node ≡ node
    by_test true e = cc
    by_test false e = let same : record { version = s.version + step; node = node } ≡ t = cc in sym (ap (λ (q : Stamp). q.node) same)

stamp_of_node : (kind : Kind) (s : Stamp) (node : NodeId) (t : Stamp) → next_stamp kind s node ≡ Some t → t.node ≡ node.0
stamp_of_node Kind.Write s node t e = after_of_node 2 s node.0 t e
stamp_of_node Kind.Rmw s node t e = after_of_node 1 s node.0 t e

module _ (views : List View) (calls : ℕ) (x : NodeState) (mine : IsNodeOf views calls x) (ordered : IsStrictlySortedBy key_cmp (keys_of x.rows)) where
  abbrev Fine : Stepped → Type 0
  Fine s = IsSteppedOf views calls s

  pub idle_fine : Fine (idle x)
  idle_fine = record { node = mine; letters = none_told; told = λ t h. absurd h }

  row_fine : (k : List ℕ) (d : Done) → IsDoneOf calls d → Fine (row_step x k d)
  row_fine k d good = record {
    node = record { small = mine.small; agreed = mine.agreed; row = with_row_of calls k d.row x.rows mine.row good.row };
    letters = sent_told calls (record x { rows = with_row k d.row x.rows }) k d.row d.out.send good.row;
    told = reply_told calls k d.out.reply good.reply;
  }

  found_fine : (k : List ℕ) (step : Row → Done) → ((r : Row) → IsRowOf calls r → IsDoneOf calls (step r)) → (o : Option Row) → find_row k x.rows ≡ o → Fine (on_found o x k step)
  found_fine k step good None e = idle_fine
  found_fine k step good (Some r) e = row_fine k (step r) (good r (found_of calls k x.rows r (mine.row k) e))

  -- ---- calls
  answers_fine : (k : List ℕ) (call : CallNo) (a : Answer) → call.0 ≤ calls → Fine (answers x k call a)
  answers_fine k call a low = record { node = mine; letters = none_told; told = reply_told calls k (Some (record { call = call; answer = a })) low }

  pub called_fine : (call : CallNo) (k : List ℕ) (op : Op) → call.0 ≤ calls → Fine (called x call k op)
  called_fine call k op low = by_lease (ltb (lease_end x) (x.clock + x.skew))
    where
      by_limit : (o : Option Stamp) → next_stamp (kind_of op) (row_at k x.rows).stamp x.id ≡ o → Fine (at_limit o x call k op (row_at k x.rows))
      by_limit None e = answers_fine k call (Exhausted (row_at k x.rows).stamp) low
      by_limit (Some s) e =
          let a = act op (register_in (row_at k x.rows)) (tag_of s) in
          let node = stamp_of_node (kind_of op) (row_at k x.rows).stamp x.id s e in
          let below = mine.small in
          row_fine k (begin x.id (members_of x) (record { call = call; answer = a.answer }) s (kind_of op) a.register.content)
          (begin_of calls x.id (members_of x) (record { call = call; answer = a.answer }) s (kind_of op) a.register.content (omega (arith, node, below)) low (alike op (row_at k x.rows).content (tag_of (row_at k x.rows).stamp) (tag_of s) 0).answered)

      by_turn : (b : Bool) → Fine (at_turn b x call k op (row_at k x.rows))
      by_turn true = by_limit (next_stamp (kind_of op) (row_at k x.rows).stamp x.id) refl
      by_turn false = answers_fine k call (act op (register_in (row_at k x.rows)) 0).answer low

      by_state : (s : State) → Fine (at_state s x call k op (row_at k x.rows))
      by_state State.Valid = by_turn (act op (register_in (row_at k x.rows)) 0).changed
      by_state State.Invalid = answers_fine k call (Busy (Why.Row (row_at k x.rows).state (row_at k x.rows).stamp)) low
      by_state State.Write = answers_fine k call (Busy (Why.Row (row_at k x.rows).state (row_at k x.rows).stamp)) low
      by_state State.Replay = answers_fine k call (Busy (Why.Row (row_at k x.rows).state (row_at k x.rows).stamp)) low
      by_state State.Trans = answers_fine k call (Busy (Why.Row (row_at k x.rows).state (row_at k x.rows).stamp)) low

      by_lease : (b : Bool) → Fine (at_lease b x call k op)
      by_lease true = answers_fine k call (Busy (Why.Lease (lease_end x) x.clock)) low
      by_lease false = by_state (row_at k x.rows).state

  -- ---- what is sent again, and copied
  pub resent_fine : (k : List ℕ) → Fine (resent x k)
  resent_fine k = found_fine k resend (resend_of calls) (find_row k x.rows) refl

  pub replayed_fine : (k : List ℕ) → Fine (replayed x k)
  replayed_fine k = by_ready x.ready
    where
      by_ready : (b : Bool) → Fine (cond b (on_found (find_row k x.rows) x k (replay x.id (members_of x))) (idle x))
      by_ready true = found_fine k (replay x.id (members_of x)) (replay_of calls x.id (members_of x)) (find_row k x.rows) refl
      by_ready false = idle_fine

  pub asks_fine : (from : NodeId) (room : ℕ) → Fine (asks_copy x from room)
  asks_fine from room = by_test (not x.ready && is_other x from)
    where
      by_test : (b : Bool) → Fine (cond b (record { node = x; letters = letters_to x (CopyAsk x.cursor room) (from ∷ []); told = []; installed = None }) (idle x))
      by_test true = record { node = mine; letters = letters_told x (CopyAsk x.cursor room) (from ∷ []) tt; told = λ t h. absurd h }
      by_test false = idle_fine

  pub asks_lease_fine : (manager : ℕ) → Fine (asks_lease x manager)
  asks_lease_fine manager = by_there (ltb manager x.managers)
    where
      ask : Letter
      ask = record { epoch = epoch_of x; from = Actor.Node x.id; to = Actor.Manager manager; body = LeaseAsk x.clock }

      by_there : (b : Bool) → Fine (cond b (record { node = x; letters = ask ∷ []; told = []; installed = None }) (idle x))
      by_there true = record { node = mine; letters = λ l h. ⊎_elim (λ (is : l ≡ ask). subst (λ (m : Letter). IsSaid m.body) (sym is) tt) (λ (none : ⊥). absurd none) h; told = λ t h. absurd h }
      by_there false = idle_fine

  gives_fine : (to : NodeId) (after : Option (List ℕ)) (room : ℕ) → Fine (gives_copy x to after room)
  gives_fine to after room = by_ready x.ready
    where
      by_ready : (b : Bool) → Fine (cond b (record { node = x; letters = letters_to x (CopyGive after (is_nil (batch_behind x after room).left) (batch_behind x after room).taken) (to ∷ []); told = []; installed = None }) (idle x))
      by_ready true = record { node = mine; letters = letters_told x (CopyGive after (is_nil (batch_behind x after room).left) (batch_behind x after room).taken) (to ∷ []) (batch_told calls x after room ordered mine.row); told = λ t h. absurd h }
      by_ready false = idle_fine

  takes_fine : (after : Option (List ℕ)) (done : Bool) (items : List CopyItem) → AllByRecursion (λ (item : CopyItem). IsSmall item.stamp) items → Fine (takes_copy x after done items)
  takes_fine after done items small = by_test (not x.ready && is_next after x.cursor)
    where
      by_test : (b : Bool) → Fine (cond b (record { node = record x { ready = done; cursor = option_or (last_key items) x.cursor; rows = merged items x.rows }; letters = []; told = []; installed = None }) (idle x))
      by_test true = record { node = record { small = mine.small; agreed = mine.agreed; row = merged_of calls items x.rows small mine.row }; letters = none_told; told = λ t h. absurd h }
      by_test false = idle_fine

  -- ---- letters
  received_fine : (body : Body) → IsTold body → (from : NodeId) → Fine (received body x from)
  received_fine (Inv k s kind content) told from = row_fine k (on_inv (row_at k x.rows) from s kind content) (inv_of calls (nat_cmp (tag_of (row_at k x.rows).stamp) (tag_of s)) (row_at k x.rows) from s kind content (mine.row k) told)
  received_fine (Ack k s top) told from = found_fine k (λ row. on_ack x.id (members_of x) row from s top) (λ r ok. ack_of calls x.id (members_of x) r from s top ok) (find_row k x.rows) refl
  received_fine (Val k s) told from = found_fine k (λ row. still (on_val row s)) (λ r ok. still_of calls (on_val r s) (val_of calls r s ok)) (find_row k x.rows) refl
  received_fine (CopyAsk after room) told from = gives_fine from after room
  received_fine (CopyGive after done items) told from = takes_fine after done items told.2
  received_fine (LeaseAsk asked) told from = idle_fine
  received_fine (LeaseGive end) told from = idle_fine
  received_fine (Prepare ballot) told from = idle_fine
  received_fine (Promise ballot vote) told from = idle_fine
  received_fine (Accept ballot view) told from = idle_fine
  received_fine (Accepted ballot) told from = idle_fine
  received_fine (Chosen view) told from = idle_fine
  received_fine (Activate view) told from = idle_fine

  -- ---- clocks and leases
  pub ticks_fine : (now : ℕ) → Fine (ticks x now)
  ticks_fine now = record { node = record { small = mine.small; agreed = mine.agreed; row = mine.row }; letters = none_told; told = λ t h. absurd h }

  pub grants_fine : (end : ℕ) → Fine (grants x end)
  grants_fine end = record { node = record { small = mine.small; agreed = mine.agreed; row = mine.row }; letters = none_told; told = λ t h. absurd h }

  -- ---- a view over all rows
  viewed_letters : (y : NodeState) (rs : Rows) → AllByRecursion (λ r. IsRowOf calls r.1) rs → AreTold (flat_map (λ r. sent y r.0 (viewed y r).row (viewed y r).out.send) rs)
  viewed_letters y [] good l h = absurd h
  viewed_letters y (r ∷ rs) good l h =
      let d = view_of_row calls y.id (members_of y) r.1 good.0 in
      ⊎_elim (sent_told calls y r.0 (viewed y r).row (viewed y r).out.send d.row l) (viewed_letters y rs good.1 l)
      (in_either (sent y r.0 (viewed y r).row (viewed y r).out.send) (flat_map (λ r. sent y r.0 (viewed y r).row (viewed y r).out.send) rs) l h)

  viewed_told : (y : NodeState) (rs : Rows) → AllByRecursion (λ r. IsRowOf calls r.1) rs → AreAnswered calls (flat_map (λ r. told_of r.0 (viewed y r).out.reply) rs)
  viewed_told y [] good t h = absurd h
  viewed_told y (r ∷ rs) good t h =
      let d = view_of_row calls y.id (members_of y) r.1 good.0 in
      ⊎_elim (reply_told calls r.0 (viewed y r).out.reply d.reply t) (viewed_told y rs good.1 t)
      (in_either (told_of r.0 (viewed y r).out.reply) (flat_map (λ r. told_of r.0 (viewed y r).out.reply) rs) t h)

  viewed_row : (y : NodeState) (key : List ℕ) (rs : Rows) → IsRowOf calls (row_at key rs) → IsRowOf calls (row_at key (map (λ r. (r.0, (viewed y r).row)) rs))
  viewed_row y key rs ok = subst (λ (o : Option Row). IsRowOf calls (unwrap_or o first_row)) (sym (lookup-map_values (λ row. (on_view y.id (members_of y) row).row) _ rs)) (by_found (find_row key rs) ok)
    where
      by_found : (o : Option Row) → IsRowOf calls (unwrap_or o first_row) → IsRowOf calls (unwrap_or (option_map (λ row. (on_view y.id (members_of y) row).row) o) first_row)
      by_found None h = first_of calls
      by_found (Some r) h = (view_of_row calls y.id (members_of y) r h).row

  noted_fine : (activated : List ℕ) → Fine (idle (record x { activated = activated }))
  noted_fine activated = record { node = record { small = mine.small; agreed = mine.agreed; row = mine.row }; letters = none_told; told = λ t h. absurd h }

  -- with what it noted of ACTIVATEs
  noted_installs_fine : (v : View) (activated : List ℕ) → In views v → Fine (installs (record x { activated = activated }) v)
  noted_installs_fine v activated agreed = by_test (ltb (epoch_of x) v.epoch && is_member x.id v.members)
    where
      the_view : (u : View) → Some v ≡ Some u → In views u
      the_view u e = let same : v ≡ u = cc in subst (λ (z : View). In views z) same agreed

      by_test : (b : Bool) → Fine (cond b (installed_in (record x { view = Some v; activated = activated }) v.epoch) (idle (record x { activated = activated })))
      by_test true =
          let y : NodeState = record x { view = Some v; activated = activated } in
          let good = each_row calls x.rows ordered mine.row in
          record {
            node = record { small = mine.small; agreed = the_view; row = λ key. viewed_row y key x.rows (mine.row key) };
            letters = viewed_letters y x.rows good;
            told = viewed_told y x.rows good;
          }
      by_test false = noted_fine activated

  pub installs_fine : (v : View) → In views v → Fine (installs x v)
  installs_fine v agreed = noted_installs_fine v x.activated agreed

  -- ---- letters of managers, and all letters
  heard_fine : (body : Body) (m : ℕ) → ((v : View) → body ≡ Activate v → In views v) → Fine (heard body x m)
  heard_fine (LeaseGive end) m begun = record { node = record { small = mine.small; agreed = mine.agreed; row = mine.row }; letters = none_told; told = λ t h. absurd h }
  heard_fine (Activate v) m begun = by_greatest (is_greatest v.epoch x.activated)
    where
      after : List ℕ
      after = raised m v.epoch x.activated

      by_majority : (b : Bool) → Fine (cond b (installs (record x { activated = after }) v) (idle (record x { activated = after })))
      by_majority true = noted_installs_fine v after (begun v refl)
      by_majority false = noted_fine after

      by_greatest : (b : Bool) → Fine (cond b (installs_by_majority (record x { activated = after }) v) (idle x))
      by_greatest true = by_majority (has_majority v.epoch after)
      by_greatest false = idle_fine
  heard_fine (Inv k s kind content) m begun = idle_fine
  heard_fine (Ack k s top) m begun = idle_fine
  heard_fine (Val k s) m begun = idle_fine
  heard_fine (CopyAsk after room) m begun = idle_fine
  heard_fine (CopyGive after done items) m begun = idle_fine
  heard_fine (LeaseAsk asked) m begun = idle_fine
  heard_fine (Prepare ballot) m begun = idle_fine
  heard_fine (Promise ballot vote) m begun = idle_fine
  heard_fine (Accept ballot view) m begun = idle_fine
  heard_fine (Accepted ballot) m begun = idle_fine
  heard_fine (Chosen view) m begun = idle_fine

  pub receives_fine : (l : Letter) → IsTold l.body → ((v : View) → l.body ≡ Activate v → In views v) → Fine (receives x l)
  receives_fine l told begun = by_from l.from
    where
      by_test : (from : NodeId) (b : Bool) → Fine (cond b (received l.body x from) (idle x))
      by_test from true = received_fine l.body told from
      by_test from false = idle_fine

      by_heard : (m : ℕ) (b : Bool) → Fine (cond b (heard l.body x m) (idle x))
      by_heard m true = heard_fine l.body m begun
      by_heard m false = idle_fine

      by_from : (a : Actor) → Fine (receives_from a x l)
      by_from (Actor.Manager m) = by_heard m (is_addressed x l.to && ltb m x.managers)
      by_from (Actor.Node from) = by_test from (is_addressed x l.to && (eqb l.epoch (epoch_of x) && is_other x from))
