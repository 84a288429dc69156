-- Each step of a row keeps what the world says of rows: stamps of nodes, and calls of so far.
use Rattle.std.proofs.Common.{◌≡◌, ◌⊎◌, ℕ, Bool, true, false, cond, List, [], ◌∷◌, ◌≤◌, sym, refl, subst, inl, inr, ⊎_elim, arith, le_trans, Option, Some, None, IfSome, IsTrue, unwrap_or, eqb}
use Rattle.std.specs.Ordering.{nat_cmp, match_ordering}
use Rattle.std.specs.declared.cmp.Ordering.{Ordering}
use Rattle.std.specs.declared.cmp.Ordering.TheVariants.{Less, Equal, Greater}
use Rattle.std.specs.BTreeMap.{insert_entry, is_at}
use Rattle.std.specs.Map.{lookup}
use Rattle.hk_base.specs.declared.stamp.Stamp.{Stamp}
use Rattle.hk_base.specs.declared.stamp.NodeId.{NodeId}
use Rattle.hk_base.specs.declared.stamp.Kind.{Kind}
use Rattle.hk_base.specs.declared.stamp.Kind.TheVariants as Kind
use Rattle.hk_base.specs.declared.call.Content.{Content}
use Rattle.hk_base.specs.declared.call.Reply.{Reply}
use Rattle.hk_base.specs.declared.call.State.{State}
use Rattle.hk_base.specs.declared.call.State.TheVariants.{Valid, Invalid, Write, Replay, Trans}
use Rattle.hk_base.specs.declared.letter.CopyItem.{CopyItem}
use Rattle.hk_base.specs.Stamp.{tag_of}
use Rattle.hk_history.specs.History.{is_answered}
use Rattle.hk_copy.specs.Batches.{key_cmp}
use Rattle.hk_key.specs.declared.acks.Ack.{Ack}
use Rattle.hk_key.specs.declared.row.Pending.{Pending}
use Rattle.hk_key.specs.declared.row.Row.{Row}
use Rattle.hk_key.specs.declared.out.Aim.{Aim}
use Rattle.hk_key.specs.declared.out.What.{What}
use Rattle.hk_key.specs.Notes.{all_noted, all_exact, note_in}
use Rattle.hk_key.specs.Table.{Done, first_row, still, sends, completed_at, started_at, unnoted, begin, displaced_write, displaced, aborted, given_up_write, given_up, on_inv_at, with_acks, noted_at, on_ack_at, on_ack_pending, on_ack, validated, on_val_at, on_val, resend, resend_at, replay_at, replay, on_view_at, on_view, copied_same, on_copy_at, on_copy}
use Rattle.hk_node.specs.Rows.{Rows, find_row, row_at, put_row, with_row, is_touched}
use Rattle.hk_effects.specs.Own.{IsSmall, IsPendingOf, IsRowOf}

-- a reply's call is one of those so far
abbrev pub IsReplyOf : ℕ → Option Reply → Type 0
IsReplyOf calls o = IfSome o (λ r. r.call.0 ≤ calls)

abbrev pub MayWait : ℕ → Option Pending → Type 0
MayWait calls o = IfSome o (IsPendingOf calls)

-- a row's step leaves such a row, and answers such a call
pub record IsDoneOf (calls : ℕ) (d : Done) : Type 0 where
  pub row : IsRowOf calls d.row
  pub reply : IsReplyOf calls d.out.reply

pub first_of : (calls : ℕ) → IsRowOf calls first_row
first_of calls = record { small = omega arith; pending = tt }

pub still_of : (calls : ℕ) (row : Row) → IsRowOf calls row → IsDoneOf calls (still row)
still_of calls row ok = record { row = ok; reply = tt }

sends_of : (calls : ℕ) (row : Row) (aim : Aim) (what : What) → IsRowOf calls row → IsDoneOf calls (sends row aim what)
sends_of calls row aim what ok = record { row = ok; reply = tt }

-- ---- INV
displaced_of : (calls : ℕ) (state : State) (p : Option Pending) → MayWait calls p → MayWait calls (displaced state p).1
displaced_of calls Valid p h = tt
displaced_of calls Invalid p h = tt
displaced_of calls Replay p h = tt
displaced_of calls Trans p h = h
displaced_of calls Write None h = tt
displaced_of calls Write (Some p) h = by_kind p.kind
  where
    by_kind : (kind : Kind) → MayWait calls (displaced_write kind p).1
    by_kind Kind.Write = h
    by_kind Kind.Rmw = tt

aborted_of : (calls : ℕ) (r : Option Reply) (s : Stamp) → IsReplyOf calls r → IsReplyOf calls (aborted r s)
aborted_of calls None s h = tt
aborted_of calls (Some r) s h = h

given_of : (calls : ℕ) (state : State) (p : Option Pending) (s : Stamp) → MayWait calls p → IsReplyOf calls (given_up state p s)
given_of calls Valid p s h = tt
given_of calls Invalid p s h = tt
given_of calls Replay p s h = tt
given_of calls Trans p s h = tt
given_of calls Write None s h = tt
given_of calls Write (Some p) s h = by_kind p.kind
  where
    by_kind : (kind : Kind) → IsReplyOf calls (given_up_write kind p.reply s)
    by_kind Kind.Write = tt
    by_kind Kind.Rmw = aborted_of calls p.reply s h.call

pub inv_of : (calls : ℕ) (o : Ordering) (row : Row) (from : NodeId) (s : Stamp) (kind : Kind) (content : Option Content) → IsRowOf calls row → IsSmall s → IsDoneOf calls (on_inv_at o row from s kind content)
inv_of calls Less row from s kind content ok small = record {
  row = record { small = small; pending = displaced_of calls row.state row.pending ok.pending };
  reply = given_of calls row.state row.pending s ok.pending;
}
inv_of calls Equal row from s kind content ok small = record { row = ok; reply = tt }
inv_of calls Greater row from s Kind.Write content ok small = record { row = ok; reply = tt }
inv_of calls Greater row from s Kind.Rmw content ok small = record { row = ok; reply = tt }

-- ---- VAL, and rows that are copied
pub val_of : (calls : ℕ) (row : Row) (s : Stamp) → IsRowOf calls row → IsRowOf calls (on_val row s)
val_of calls row s ok = by_test (eqb (tag_of row.stamp) (tag_of s))
  where
    by_state : (state : State) → IsRowOf calls (validated state row)
    by_state Invalid = record { small = ok.small; pending = ok.pending }
    by_state Trans = record { small = ok.small; pending = ok.pending }
    by_state Valid = ok
    by_state Write = ok
    by_state Replay = ok

    by_test : (b : Bool) → IsRowOf calls (on_val_at b row)
    by_test true = by_state row.state
    by_test false = ok

pub copy_of_row : (calls : ℕ) (row : Row) (item : CopyItem) → IsRowOf calls row → IsSmall item.stamp → IsRowOf calls (on_copy row item)
copy_of_row calls row item ok small = by_order (nat_cmp (tag_of row.stamp) (tag_of item.stamp))
  where
    by_state : (valid : Bool) (state : State) → IsRowOf calls (copied_same valid state row)
    by_state true Invalid = record { small = ok.small; pending = ok.pending }
    by_state true Valid = ok
    by_state true Write = ok
    by_state true Replay = ok
    by_state true Trans = ok
    by_state false state = ok

    by_order : (o : Ordering) → IsRowOf calls (on_copy_at o row item)
    by_order Less = record { small = small; pending = tt }
    by_order Equal = by_state item.valid row.state
    by_order Greater = ok

-- ---- updates that begin, go on and complete
completed_of : (calls : ℕ) (own exact : Bool) (row : Row) (p : Pending) → IsSmall row.stamp → IsReplyOf calls p.reply → IsDoneOf calls (completed_at own exact row p)
completed_of calls true true row p small reply = record { row = record { small = small; pending = tt }; reply = reply }
completed_of calls true false row p small reply = record { row = record { small = small; pending = tt }; reply = reply }
completed_of calls false exact row p small reply = record { row = record { small = small; pending = tt }; reply = reply }

started_of : (calls : ℕ) (all : Bool) (row : Row) (p : Pending) → IsSmall row.stamp → IsPendingOf calls p → IsDoneOf calls (started_at all row p)
started_of calls true row p small waits = completed_of calls (eqb (tag_of row.stamp) (tag_of p.stamp)) (all_exact p.acks) row p small waits.call
started_of calls false row p small waits = record { row = record { small = small; pending = waits }; reply = tt }

-- the update of the call that was made last
pub begin_of : (calls : ℕ) (me : NodeId) (members : List NodeId) (reply : Reply) (s : Stamp) (kind : Kind) (content : Option Content) → IsSmall s → reply.call.0 ≤ calls → IsTrue (is_answered (Some reply.answer)) → IsDoneOf calls (begin me members reply s kind content)
begin_of calls me members reply s kind content small call answered =
    started_of calls (all_noted me members []) (record { state = Write; stamp = s; kind = kind; content = content; kept_val = false; pending = None })
    (unnoted (Some reply) s kind content) small (record { small = small; call = call; answer = answered })

pub replay_of : (calls : ℕ) (me : NodeId) (members : List NodeId) (row : Row) → IsRowOf calls row → IsDoneOf calls (replay me members row)
replay_of calls me members row ok = by_state row.state
  where
    by_state : (state : State) → IsDoneOf calls (replay_at state me members row)
    by_state Invalid = started_of calls (all_noted me members []) (record row { state = Replay }) (unnoted None row.stamp row.kind row.content) ok.small (record { small = ok.small; call = tt; answer = tt })
    by_state Valid = still_of calls row ok
    by_state Write = still_of calls row ok
    by_state Replay = still_of calls row ok
    by_state Trans = still_of calls row ok

pub resend_of : (calls : ℕ) (row : Row) → IsRowOf calls row → IsDoneOf calls (resend row)
resend_of calls row ok = by_pending row.pending
  where
    by_pending : (o : Option Pending) → IsDoneOf calls (resend_at o row)
    by_pending None = record { row = ok; reply = tt }
    by_pending (Some p) = record { row = ok; reply = tt }

waits_on : (calls : ℕ) (p : Pending) (acks : List Ack) → IsPendingOf calls p → IsPendingOf calls (with_acks p acks)
waits_on calls p acks ok = record { small = ok.small; call = ok.call; answer = ok.answer }

pub view_of_row : (calls : ℕ) (me : NodeId) (members : List NodeId) (row : Row) → IsRowOf calls row → IsDoneOf calls (on_view me members row)
view_of_row calls me members row ok = by_pending row.pending ok.pending
  where
    by_pending : (o : Option Pending) → MayWait calls o → IsDoneOf calls (on_view_at o me members row)
    by_pending None h = still_of calls row ok
    by_pending (Some p) h = started_of calls (all_noted me members []) row (with_acks p []) ok.small (waits_on calls p [] h)

pub ack_of : (calls : ℕ) (me : NodeId) (members : List NodeId) (row : Row) (from : NodeId) (s top : Stamp) → IsRowOf calls row → IsDoneOf calls (on_ack me members row from s top)
ack_of calls me members row from s top ok = by_pending row.pending ok.pending
  where
    noted_of : (all : Bool) (p : Pending) → IsPendingOf calls p → IsDoneOf calls (noted_at all row p)
    noted_of true p h = completed_of calls (eqb (tag_of row.stamp) (tag_of p.stamp)) (all_exact p.acks) row p ok.small h.call
    noted_of false p h = record { row = record { small = ok.small; pending = h }; reply = tt }

    by_test : (b exact : Bool) (p : Pending) → IsPendingOf calls p → IsDoneOf calls (on_ack_at b exact me members row p from)
    by_test true exact p h = noted_of (all_noted me members (note_in from exact p.acks)) (with_acks p (note_in from exact p.acks)) (waits_on calls p (note_in from exact p.acks) h)
    by_test false exact p h = still_of calls row ok

    by_pending : (o : Option Pending) → MayWait calls o → IsDoneOf calls (on_ack_pending o me members row from s top)
    by_pending None h = still_of calls row ok
    by_pending (Some p) h = by_test (eqb (tag_of s) (tag_of p.stamp)) (eqb (tag_of top) (tag_of s)) p h

-- ---- more calls
reply_more : (a b : ℕ) (r : Option Reply) → a ≤ b → IsReplyOf a r → IsReplyOf b r
reply_more a b None up h = tt
reply_more a b (Some r) up h = le_trans h up

pub row_more : (a b : ℕ) (row : Row) → a ≤ b → IsRowOf a row → IsRowOf b row
row_more a b row up ok = record { small = ok.small; pending = by_pending row.pending ok.pending }
  where
    by_pending : (p : Option Pending) → MayWait a p → MayWait b p
    by_pending None h = tt
    by_pending (Some p) h = record { small = h.small; call = reply_more a b p.reply up h.call; answer = h.answer }

-- ---- rows by key
-- what a test finds after an entry is put: the new value, or what it found before
pub put_either : {K X : Type 0} (cmp : K → K → Ordering) (test : K → Bool) (es : List (K × X)) (k : K) (v : X) →
    (lookup test (insert_entry cmp es k v) ≡ Some v) ⊎ (lookup test (insert_entry cmp es k v) ≡ lookup test es)
put_either cmp test [] k v = by_test (test k)
  where
    by_test : (b : Bool) → (cond b (Some v) None ≡ Some v) ⊎ (cond b (Some v) None ≡ None)
    by_test true = inl refl
    by_test false = inr refl
put_either cmp test (e ∷ es) k v = by_order (cmp k e.0) (put_either cmp test es k v)
  where
    here : (b : Bool) (o : Option _) → (cond b (Some v) o ≡ Some v) ⊎ (cond b (Some v) o ≡ o)
    here true o = inl refl
    here false o = inr refl

    same : (b : Bool) → (cond b (Some v) (lookup test es) ≡ Some v) ⊎ (cond b (Some v) (lookup test es) ≡ cond b (Some e.1) (lookup test es))
    same true = inl refl
    same false = inr refl

    later : (b : Bool) (o : Option _) → (o ≡ Some v) ⊎ (o ≡ lookup test es) → (cond b (Some e.1) o ≡ Some v) ⊎ (cond b (Some e.1) o ≡ cond b (Some e.1) (lookup test es))
    later true o h = inr refl
    later false o h = h

    by_order : (o : Ordering) → (lookup test (insert_entry cmp es k v) ≡ Some v) ⊎ (lookup test (insert_entry cmp es k v) ≡ lookup test es) →
        (lookup test (match_ordering o ((k, v) ∷ e ∷ es) ((e.0, v) ∷ es) (e ∷ insert_entry cmp es k v)) ≡ Some v) ⊎ (lookup test (match_ordering o ((k, v) ∷ e ∷ es) ((e.0, v) ∷ es) (e ∷ insert_entry cmp es k v)) ≡ lookup test (e ∷ es))
    by_order Less h = here (test k) (lookup test (e ∷ es))
    by_order Equal h = same (test e.0)
    by_order Greater h = later (test e.0) (lookup test (insert_entry cmp es k v)) h

pub with_row_of : (calls : ℕ) (k : List ℕ) (row : Row) (rows : Rows) → ((key : List ℕ) → IsRowOf calls (row_at key rows)) → IsRowOf calls row → (key : List ℕ) → IsRowOf calls (row_at key (with_row k row rows))
with_row_of calls k row rows ok good key = by_test (is_touched row)
  where
    by_test : (b : Bool) → IsRowOf calls (row_at key (cond b (put_row k row rows) rows))
    by_test false = ok key
    by_test true = ⊎_elim
        (λ (e : find_row key (put_row k row rows) ≡ Some row). subst (λ (o : Option Row). IsRowOf calls (unwrap_or o first_row)) (sym e) good)
        (λ (e : find_row key (put_row k row rows) ≡ find_row key rows). subst (λ (o : Option Row). IsRowOf calls (unwrap_or o first_row)) (sym e) (ok key))
        (put_either key_cmp (is_at (key_cmp key)) rows k row)

pub found_of : (calls : ℕ) (key : List ℕ) (rows : Rows) (r : Row) → IsRowOf calls (row_at key rows) → find_row key rows ≡ Some r → IsRowOf calls r
found_of calls key rows r ok e = subst (λ (o : Option Row). IsRowOf calls (unwrap_or o first_row)) e ok
