-- A key is copied at a node when it takes the batch that covers it, and by no other step.
use Rattle.std.proofs.Common.{◌≡◌, ◌⊎◌, ℕ, Bool, true, false, cond, not, ◌&&◌, ◌||◌, ◌+◌, List, [], ◌∷◌, ◌≤◌, ◌∙◌, sym, refl, ap, subst, inl, inr, ⊎_elim, arith, le_refl, le_of_eq, Option, Some, None, eqb, ltb, nat_cmp, Ordering, Less, Equal, Greater}
use Rattle.std.specs.Option.{option_or}
use Rattle.std.proofs.lemmas.Bool.{false≢true, eqb-true, and_parts, cases_Bool}
use Rattle.std.proofs.lemmas.Cmp.{ranked}
use Rattle.hk_base.specs.declared.stamp.Stamp.{Stamp}
use Rattle.hk_base.specs.declared.stamp.NodeId.{NodeId}
use Rattle.hk_base.specs.declared.call.CallNo.{CallNo}
use Rattle.hk_base.specs.declared.call.Op.{Op}
use Rattle.hk_base.specs.declared.call.State.{State}
use Rattle.hk_base.specs.declared.call.State.TheVariants as State
use Rattle.hk_base.specs.declared.letter.Actor.{Actor}
use Rattle.hk_base.specs.declared.letter.Actor.TheVariants as Actor
use Rattle.hk_base.specs.declared.letter.Body.{Body}
use Rattle.hk_base.specs.declared.letter.Body.TheVariants.{Inv, Ack, Val, CopyAsk, CopyGive, LeaseAsk, LeaseGive, Prepare, Promise, Accept, Accepted, Chosen, Activate}
use Rattle.hk_base.specs.declared.letter.CopyItem.{CopyItem}
use Rattle.hk_base.specs.declared.letter.Letter.{Letter}
use Rattle.hk_base.specs.Register.{act}
use Rattle.hk_base.specs.Stamp.{tag_of}
use Rattle.hk_copy.specs.Batches.{is_nil, last_key}
use Rattle.hk_key.specs.declared.row.Row.{Row}
use Rattle.hk_key.specs.Table.{Done, copied_same, on_copy_at, on_copy, replay}
use Rattle.hk_register.specs.Machine.{In}
use Rattle.hk_node.specs.Calls.{kind_of, next_stamp, register_in, at_limit, at_turn, at_state, lease_end, at_lease, called}
use Rattle.hk_node.specs.Copies.{batch_behind, merged, is_next}
use Rattle.hk_node.specs.Node.{NodeState, epoch_of, members_of, is_other}
use Rattle.hk_base.specs.View.{is_member}
use Rattle.hk_node.specs.Rows.{find_row, row_at}
use Rattle.hk_node.specs.Sends.{letters_to}
use Rattle.hk_node.specs.Stepped.{Stepped, idle}
use Rattle.hk_node.specs.Heard.{raised, is_greatest, has_majority}
use Rattle.hk_node.specs.Steps.{on_found, installed_in, received, is_addressed, receives_from, receives, installs, installs_by_majority, heard}
use Rattle.hk_event.specs.declared.event.Event.{Event}
use Rattle.hk_event.specs.declared.event.Event.TheVariants as Event
use Rattle.hk_world.specs.World.{WorldState, numbered}
use Rattle.hk_effects.specs.Projection.{is_behind, has_copied, item_at, first_item, covers}
use Rattle.hk_effects.specs.Own.{IsTold}
use Rattle.hk_node.proofs.Order.{AreTouched}
use Rattle.hk_effects.proofs.Batches.{merged_at}
use Rattle.hk_effects.proofs.Order.{same_true}
use Rattle.hk_effects.proofs.Rests.{numbered_in}
use Rattle.hk_effects.proofs.Rising.{items_rise}
use Rattle.hk_parts.proofs.Cases.{Steps}

-- the batch by which a key was copied
pub record Took (key : List ℕ) (w : WorldState) (event : Event) (x : NodeState) (s : Stepped) : Type 0 where
  pub number : ℕ
  pub is : event ≡ Event.Take number
  pub letter : Letter
  pub taken : numbered number w.letters ≡ Some letter
  pub from : NodeId
  pub sender : letter.from ≡ Actor.Node from
  pub to : letter.to ≡ Actor.Node x.id
  pub epoch : letter.epoch ≡ epoch_of x
  pub done : Bool
  pub items : List CopyItem
  pub body : letter.body ≡ CopyGive x.cursor done items
  pub covered : covers key x.cursor done items ≡ true
  pub stamp : tag_of (item_at key items).stamp ≤ tag_of (row_at key s.node.rows).stamp
  pub same : epoch_of s.node ≡ epoch_of x

-- a copied row is not below the item
copy_above : (row : Row) (i : CopyItem) → tag_of i.stamp ≤ tag_of (on_copy row i).stamp
copy_above row i = by_order (nat_cmp (tag_of row.stamp) (tag_of i.stamp)) refl
  where
    by_same : (b : Bool) (state : State) → (copied_same b state row).stamp ≡ row.stamp
    by_same true State.Invalid = refl
    by_same true State.Valid = refl
    by_same true State.Write = refl
    by_same true State.Replay = refl
    by_same true State.Trans = refl
    by_same false state = refl

    by_order : (o : Ordering) → nat_cmp (tag_of row.stamp) (tag_of i.stamp) ≡ o → tag_of i.stamp ≤ tag_of (on_copy_at o row i).stamp
    by_order Less e = le_refl (tag_of i.stamp)
    by_order Equal e =
        let same = ranked (tag_of row.stamp) (tag_of i.stamp) Equal (sym e) in
        rw (by_same i.valid row.state) (le_of_eq (sym same))
    by_order Greater e = let above = ranked (tag_of row.stamp) (tag_of i.stamp) Greater (sym e) in omega (arith, above)

next_is : (after cursor : Option (List ℕ)) → is_next after cursor ≡ true → after ≡ cursor
next_is None None e = refl
next_is None (Some c) e = absurd (false≢true e)
next_is (Some a) None e = absurd (false≢true e)
next_is (Some a) (Some c) e = ap Some (same_true a c e)

addressed : (x : NodeState) (to : Actor) → is_addressed x to ≡ true → to ≡ Actor.Node x.id
addressed x (Actor.Node n) e = ap (λ (k : ℕ). Actor.Node (record { 0 = k })) (eqb-true n.0 x.id.0 e)
addressed x (Actor.Manager m) e = absurd (false≢true e)

module _ (key : List ℕ) (w : WorldState) (x : NodeState) (told : (l : Letter) → In w.letters l → IsTold l.body) (touched : AreTouched x.rows) (event : Event) where
  -- copied afterwards only where it was before, or by this batch
  abbrev Copies : Stepped → Type 0
  Copies s = has_copied s.node key ≡ true → (has_copied x key ≡ true) ⊎ Took key w event x s

  either : (b : Bool) (s : Stepped) → (b ≡ true → Copies s) → Copies (cond b s (idle x))
  either true s good = good refl
  either false s good = inl

  found : (k : List ℕ) (step : Row → Done) (o : Option Row) → Copies (on_found o x k step)
  found k step None = inl
  found k step (Some r) = inl

  called_copies : (call : CallNo) (k : List ℕ) (op : Op) → Copies (called x call k op)
  called_copies call k op = by_lease (ltb (lease_end x) (x.clock + x.skew))
    where
      by_limit : (o : Option Stamp) → Copies (at_limit o x call k op (row_at k x.rows))
      by_limit None = inl
      by_limit (Some s) = inl

      by_turn : (b : Bool) → Copies (at_turn b x call k op (row_at k x.rows))
      by_turn true = by_limit (next_stamp (kind_of op) (row_at k x.rows).stamp x.id)
      by_turn false = inl

      by_state : (s : State) → Copies (at_state s x call k op (row_at k x.rows))
      by_state State.Valid = by_turn (act op (register_in (row_at k x.rows)) 0).changed
      by_state State.Invalid = inl
      by_state State.Write = inl
      by_state State.Replay = inl
      by_state State.Trans = inl

      by_lease : (b : Bool) → Copies (at_lease b x call k op)
      by_lease true = inl
      by_lease false = by_state (row_at k x.rows).state

  module _ (n : ℕ) (take : event ≡ Event.Take n) (l : Letter) (got : numbered n w.letters ≡ Some l) (from : NodeId) (sender : l.from ≡ Actor.Node from) (to : l.to ≡ Actor.Node x.id) (epoch : l.epoch ≡ epoch_of x) where
    abbrev after_batch : Bool → List CopyItem → Stepped
    after_batch done items = record { node = record x { ready = done; cursor = option_or (last_key items) x.cursor; rows = merged items x.rows }; letters = []; told = []; installed = None }

    -- a key that is not behind the cursor was copied, and one that is behind it is covered
    taken : (done : Bool) (items : List CopyItem) → l.body ≡ CopyGive x.cursor done items → x.ready ≡ false → Copies (after_batch done items)
    taken done items body shadow copied = ⊎_elim
        (λ (behind : is_behind x.cursor key ≡ true).
        let rises = items_rise x.cursor items (tells.0) (tells.1) in
        inr (record {
          number = n;
          is = take;
          letter = l;
          taken = got;
          from = from;
          sender = sender;
          to = to;
          epoch = epoch;
          done = done;
          items = items;
          body = body;
          covered = rw behind (by_done done copied);
          stamp = ⊎_elim
              (λ (e : row_at key (merged items x.rows) ≡ on_copy (row_at key x.rows) (item_at key items)). rw e (copy_above (row_at key x.rows) (item_at key items)))
              (λ (e : (row_at key (merged items x.rows) ≡ row_at key x.rows) × (item_at key items ≡ first_item)). rw e.1 (omega arith))
              (merged_at x.cursor key items x.rows touched rises);
          same = refl;
        }))
        (λ (upto : is_behind x.cursor key ≡ false). inl (rw (shadow, upto) refl)) (cases_Bool (is_behind x.cursor key))
      where
        tells : IsTold (CopyGive x.cursor done items)
        tells = subst IsTold body (told l (numbered_in n w.letters l got))

        by_done : (d : Bool) → cond d true (not (is_behind (option_or (last_key items) x.cursor) key)) ≡ true → (d || not (is_behind (option_or (last_key items) x.cursor) key)) ≡ true
        by_done true e = refl
        by_done false e = e

    not_of : (b : Bool) → not b ≡ true → b ≡ false
    not_of true e = absurd (false≢true e)
    not_of false e = refl

    received_copies : (body : Body) → l.body ≡ body → Copies (received body x from)
    received_copies (Inv k s kind content) is = inl
    received_copies (Ack k s top) is = found k _ (find_row k x.rows)
    received_copies (Val k s) is = found k _ (find_row k x.rows)
    received_copies (CopyAsk after room) is = either x.ready (record { node = x; letters = letters_to x (CopyGive after (is_nil (batch_behind x after room).left) (batch_behind x after room).taken) (from ∷ []); told = []; installed = None }) (λ e. inl)
    received_copies (CopyGive after done items) is = either (not x.ready && is_next after x.cursor) (after_batch done items) (λ e.
        let p = and_parts (not x.ready) (is_next after x.cursor) e in
        taken done items (is ∙ ap (λ (c : Option (List ℕ)). CopyGive c done items) (next_is after x.cursor p.1)) (not_of x.ready p.0))
    received_copies (LeaseAsk asked) is = inl
    received_copies (LeaseGive end) is = inl
    received_copies (Prepare ballot) is = inl
    received_copies (Promise ballot vote) is = inl
    received_copies (Accept ballot view) is = inl
    received_copies (Accepted ballot) is = inl
    received_copies (Chosen view) is = inl
    received_copies (Activate view) is = inl

  -- what is heard from managers copies nothing
  heard_copies : (body : Body) (manager : ℕ) → Copies (heard body x manager)
  heard_copies (LeaseGive end) manager = inl
  heard_copies (Activate view) manager = by_greatest (is_greatest view.epoch x.activated)
    where
      after : List ℕ
      after = raised manager view.epoch x.activated

      noted : NodeState
      noted = record x { activated = after }

      by_install : (b : Bool) → Copies (cond b (installed_in (record noted { view = Some view }) view.epoch) (idle noted))
      by_install true = inl
      by_install false = inl

      by_majority : (b : Bool) → Copies (cond b (installs noted view) (idle noted))
      by_majority true = by_install (ltb (epoch_of x) view.epoch && is_member x.id view.members)
      by_majority false = inl

      by_greatest : (b : Bool) → Copies (cond b (installs_by_majority noted view) (idle x))
      by_greatest true = by_majority (has_majority view.epoch after)
      by_greatest false = inl
  heard_copies (Inv k s kind content) manager = inl
  heard_copies (Ack k s top) manager = inl
  heard_copies (Val k s) manager = inl
  heard_copies (CopyAsk after room) manager = inl
  heard_copies (CopyGive after done items) manager = inl
  heard_copies (LeaseAsk asked) manager = inl
  heard_copies (Prepare ballot) manager = inl
  heard_copies (Promise ballot vote) manager = inl
  heard_copies (Accept ballot view) manager = inl
  heard_copies (Accepted ballot) manager = inl
  heard_copies (Chosen view) manager = inl

  receives_copies : (n : ℕ) → event ≡ Event.Take n → (l : Letter) → numbered n w.letters ≡ Some l → Copies (receives x l)
  receives_copies n take l got = by_from l.from refl
    where
      by_from : (a : Actor) → l.from ≡ a → Copies (receives_from a x l)
      by_from (Actor.Manager m) sender = either (is_addressed x l.to && ltb m x.managers) (heard l.body x m) (λ e. heard_copies l.body m)
      by_from (Actor.Node from) sender = either (is_addressed x l.to && (eqb l.epoch (epoch_of x) && is_other x from)) (received l.body x from) (λ e.
          let p = and_parts (is_addressed x l.to) (eqb l.epoch (epoch_of x) && is_other x from) e in
          let q = and_parts (eqb l.epoch (epoch_of x)) (is_other x from) p.1 in
          received_copies n take l got from sender (addressed x l.to p.0) (eqb-true l.epoch (epoch_of x) q.0) l.body refl)

  copies_at : (e : Event) → event ≡ e → (s : Stepped) → Steps w x e s → Copies s
  copies_at (Event.Call id k op) same s is = rw is (called_copies (record { 0 = w.calls + 1 }) k op)
  copies_at (Event.Take n) same s is = rw is.2 (receives_copies n same is.0 is.1)
  copies_at (Event.Tick actor to) same s is = rw is inl
  copies_at (Event.Resend id k) same s is = rw is (found k _ (find_row k x.rows))
  copies_at (Event.Replay id k) same s is = rw is (either x.ready (on_found (find_row k x.rows) x k (replay x.id (members_of x))) (λ e. found k (replay x.id (members_of x)) (find_row k x.rows)))
  copies_at (Event.Copy id from room) same s is = rw is (either (not x.ready && is_other x from) (record { node = x; letters = letters_to x (CopyAsk x.cursor room) (from ∷ []); told = []; installed = None }) (λ e. inl))
  copies_at (Event.Install id epoch) same s is = rw is.2 (either (ltb (epoch_of x) is.0.epoch && is_member x.id is.0.members) (installed_in (record x { view = Some is.0 }) is.0.epoch) (λ e. inl))
  copies_at (Event.Lease id end) same s is = rw is inl
  copies_at (Event.AskLease id manager) same s is = rw is (either (ltb manager x.managers) (record { node = x; letters = record { epoch = epoch_of x; from = Actor.Node x.id; to = Actor.Manager manager; body = LeaseAsk x.clock } ∷ []; told = []; installed = None }) (λ e. inl))
  copies_at (Event.TickAll to) same s is = absurd is
  copies_at (Event.Crash actor) same s is = absurd is
  copies_at (Event.Start id) same s is = absurd is
  copies_at (Event.Agree change) same s is = absurd is
  copies_at (Event.Propose manager base change) same s is = absurd is
  copies_at (Event.Activate manager) same s is = absurd is

  pub step_copies : (s : Stepped) → Steps w x event s → Copies s
  step_copies = copies_at event refl
