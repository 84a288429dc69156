-- Each letter of a node's step tells its sender and the sender's epoch, goes to a member of its view, and a batch tells its rows.
use Rattle.std.proofs.Common.{◌≡◌, ℕ, zero, suc, ◌-◌, Bool, true, false, cond, not, List, [], ◌∷◌, ◌∙◌, sym, refl, ap, subst, inl, inr, Option, Some, None, eqb, nat_cmp, nat_le, Ordering, Less, Equal, Greater}
use Rattle.std.specs.Prelude.{⊤}
use Rattle.std.specs.List.{AllByRecursion, filter}
use Rattle.std.specs.List.Sorted.{IsStrictlySortedBy}
use Rattle.std.specs.Map.{keys_of}
use Rattle.std.proofs.lemmas.Cmp.{ranked}
use Rattle.std.proofs.lemmas.Map.Keys.{sorted_head, sorted_tail}
use Rattle.hk_base.specs.declared.stamp.Stamp.{Stamp}
use Rattle.hk_base.specs.declared.stamp.NodeId.{NodeId}
use Rattle.hk_base.specs.declared.stamp.Kind.{Kind}
use Rattle.hk_base.specs.declared.stamp.Kind.TheVariants as Kind
use Rattle.hk_base.specs.declared.call.Content.{Content}
use Rattle.hk_base.specs.declared.call.State.{State}
use Rattle.hk_base.specs.declared.call.State.TheVariants as State
use Rattle.hk_base.specs.declared.letter.Actor.TheVariants as Actor
use Rattle.hk_base.specs.declared.letter.Body.{Body}
use Rattle.hk_base.specs.declared.letter.Body.TheVariants.{Inv, Ack, Val, CopyAsk, CopyGive, LeaseAsk, LeaseGive, Prepare, Promise, Accept, Accepted, Chosen, Activate}
use Rattle.hk_base.specs.declared.letter.Letter.{Letter}
use Rattle.hk_base.specs.declared.letter.CopyItem.{CopyItem}
use Rattle.hk_base.specs.Stamp.{tag_of}
use Rattle.hk_base.specs.View.{member_numbers}
use Rattle.hk_copy.specs.Batches.{key_cmp, is_after, rows_after, size_of, cut, with_taken, nothing_taken}
use Rattle.hk_copy.specs.declared.given.TheConstants.{MAX_BATCH_BYTES}
use Rattle.hk_key.specs.declared.row.Pending.{Pending}
use Rattle.hk_key.specs.declared.row.Row.{Row}
use Rattle.hk_key.specs.declared.out.Aim.{Aim}
use Rattle.hk_key.specs.declared.out.Aim.TheVariants.{One, Others, NotAcked}
use Rattle.hk_key.specs.declared.out.What.{What}
use Rattle.hk_key.specs.declared.out.What.TheVariants as What
use Rattle.hk_key.specs.declared.out.Sending.{Sending}
use Rattle.hk_key.specs.Notes.{all_noted, all_exact, note_in, is_noted}
use Rattle.hk_key.specs.Table.{Done, started_at, completed_at, on_inv_at, on_ack_at, on_ack_pending, on_ack, noted_at, resend_at, resend, replay_at, replay, on_view_at, on_view, with_acks, unnoted}
use Rattle.hk_register.specs.Machine.{In}
use Rattle.hk_node.specs.Copies.{copy_of, copies_of, batch_behind}
use Rattle.hk_node.specs.Node.{NodeState, epoch_of, members_of, others}
use Rattle.hk_node.specs.Rows.{Rows, row_at, with_row, is_touched}
use Rattle.hk_node.specs.Sends.{letters_to, pending_body, body_of, notes_in, addressees, sent}
use Rattle.hk_node.specs.Stepped.{Stepped, row_step}
use Rattle.hk_effects.specs.Projection.{covers, item_at}
use Rattle.hk_effects.proofs.Order.{above_differs, row_here, row_next, row-with_same}
use Rattle.hk_effects.proofs.Worlds.{all_in}

-- What a body tells of its sender's rows: an ACK's top is the row's stamp, and a batch is of a ready node's rows.
abbrev pub BodyTells : NodeState → Body → Type 0
BodyTells y (CopyGive after done items) =
    (y.ready ≡ true) × AllByRecursion (λ (i : CopyItem). i ≡ copy_of (i.key, row_at i.key y.rows)) items
    × ((key : List ℕ) → covers key after done items ≡ true → (item_at key items).stamp ≡ (row_at key y.rows).stamp)
BodyTells y (Inv k s kind content) = ⊤
BodyTells y (Ack k s top) = tag_of top ≡ tag_of (row_at k y.rows).stamp
BodyTells y (Val k s) = ⊤
BodyTells y (CopyAsk after room) = ⊤
BodyTells y (LeaseAsk asked) = ⊤
BodyTells y (LeaseGive end) = ⊤
BodyTells y (Prepare ballot) = ⊤
BodyTells y (Promise ballot vote) = ⊤
BodyTells y (Accept ballot view) = ⊤
BodyTells y (Accepted ballot) = ⊤
BodyTells y (Chosen view) = ⊤
BodyTells y (Activate view) = ⊤

pub record Says (y : NodeState) (l : Letter) : Type 0 where
  pub from : l.from ≡ Actor.Node y.id
  pub epoch : l.epoch ≡ epoch_of y
  pub to : NodeId
  pub inside : In (member_numbers (members_of y)) to.0
  pub tells : BodyTells y l.body

abbrev pub AreSaid : Stepped → Type 0
AreSaid s = (l : Letter) → In s.letters l → Says s.node l

-- ---- to whom
in_filtered : {X : Type 0} (t : X → Bool) (xs : List X) (x : X) → In (filter t xs) x → In xs x
in_filtered t [] x h = absurd h
in_filtered t (y ∷ xs) x h = by_test (t y) h (in_filtered t xs x)
  where
    by_test : (b : Bool) → In (cond b (y ∷ filter t xs) (filter t xs)) x → (In (filter t xs) x → In xs x) → In (y ∷ xs) x
    by_test true (inl e) more = inl e
    by_test true (inr h) more = inr (more h)
    by_test false h more = inr (more h)

numbers_have : (ms : List NodeId) (n : NodeId) → In ms n → In (member_numbers ms) n.0
numbers_have [] n h = absurd h
numbers_have (m ∷ ms) n (inl e) = inl (ap (λ (i : NodeId). i.0) e)
numbers_have (m ∷ ms) n (inr h) = inr (numbers_have ms n h)

pub letters_said : (y : NodeState) (b : Body) (ns : List NodeId) → ((n : NodeId) → In ns n → In (member_numbers (members_of y)) n.0) → BodyTells y b → (l : Letter) → In (letters_to y b ns) l → Says y l
letters_said y b [] inside tells l h = absurd h
letters_said y b (n ∷ ns) inside tells l (inl e) = subst (Says y) (sym e) (record { from = refl; epoch = refl; to = n; inside = inside n (inl refl); tells = tells })
letters_said y b (n ∷ ns) inside tells l (inr h) = letters_said y b ns (λ m k. inside m (inr k)) tells l h

-- what goes to all others is no ACK
abbrev IsNoAck : What → Type 0
IsNoAck (What.Ack s top) = ⊥
IsNoAck What.InvRow = ⊤
IsNoAck What.InvPending = ⊤
IsNoAck (What.Val s) = ⊤

abbrev IsWide : Aim → What → Type 0
IsWide (One to) what = ⊥
IsWide Others what = IsNoAck what
IsWide NotAcked what = IsNoAck what

abbrev pub MayGo : Option Sending → Type 0
MayGo None = ⊤
MayGo (Some s) = IsWide s.aim s.what

body_tells : (y : NodeState) (k : List ℕ) (row : Row) (what : What) → IsNoAck what → BodyTells y (body_of k row what)
body_tells y k row What.InvRow ok = tt
body_tells y k row What.InvPending ok = by_pending row.pending
  where
    by_pending : (p : Option Pending) → BodyTells y (pending_body k row p)
    by_pending None = tt
    by_pending (Some p) = tt
body_tells y k row (What.Ack s top) ok = absurd ok
body_tells y k row (What.Val s) ok = tt

wide_said : (y : NodeState) (k : List ℕ) (row : Row) (aim : Aim) (what : What) → IsWide aim what → (l : Letter) → In (letters_to y (body_of k row what) (addressees y row aim)) l → Says y l
wide_said y k row (One to) what ok = absurd ok
wide_said y k row Others what ok =
    letters_said y (body_of k row what) (others y.id (members_of y)) (λ n h. numbers_have (members_of y) n (in_filtered (λ m. not (eqb m.0 y.id.0)) (members_of y) n h)) (body_tells y k row what ok)
wide_said y k row NotAcked what ok =
    letters_said y (body_of k row what) (addressees y row NotAcked)
    (λ n h. numbers_have (members_of y) n (in_filtered (λ m. not (eqb m.0 y.id.0)) (members_of y) n (in_filtered (λ m. not (is_noted m (notes_in row.pending))) (others y.id (members_of y)) n h))) (body_tells y k row what ok)

pub sent_said : (y : NodeState) (k : List ℕ) (row : Row) (send : Option Sending) → MayGo send → (l : Letter) → In (sent y k row send) l → Says y l
sent_said y k row None ok l h = absurd h
sent_said y k row (Some s) ok l h = wide_said y k row s.aim s.what ok l h

pub to_one : (y : NodeState) (from n : NodeId) → In (member_numbers (members_of y)) from.0 → In (from ∷ []) n → In (member_numbers (members_of y)) n.0
to_one y from n inside (inl e) = rw e inside
to_one y from n inside (inr none) = absurd none

-- ---- the steps of a row
abbrev pub Aims : Done → Type 0
Aims d = MayGo d.out.send

completed_aims : (b exact : Bool) (row : Row) (p : Pending) → Aims (completed_at b exact row p)
completed_aims true true row p = tt
completed_aims true false row p = tt
completed_aims false exact row p = tt

pub started_aims : (b : Bool) (row : Row) (p : Pending) → Aims (started_at b row p)
started_aims true row p = completed_aims (eqb (tag_of row.stamp) (tag_of p.stamp)) (all_exact p.acks) row p
started_aims false row p = tt

pub ack_aims : (me : NodeId) (ms : List NodeId) (row : Row) (from : NodeId) (s top : Stamp) → Aims (on_ack me ms row from s top)
ack_aims me ms row from s top = by_pending row.pending
  where
    by_noted : (b : Bool) (p : Pending) → Aims (noted_at b row p)
    by_noted true p = completed_aims (eqb (tag_of row.stamp) (tag_of p.stamp)) (all_exact p.acks) row p
    by_noted false p = tt

    by_stamp : (b exact : Bool) (p : Pending) → Aims (on_ack_at b exact me ms row p from)
    by_stamp true exact p = by_noted (all_noted me ms (note_in from exact p.acks)) (with_acks p (note_in from exact p.acks))
    by_stamp false exact p = tt

    by_pending : (o : Option Pending) → Aims (on_ack_pending o me ms row from s top)
    by_pending None = tt
    by_pending (Some p) = by_stamp (eqb (tag_of s) (tag_of p.stamp)) (eqb (tag_of top) (tag_of s)) p

pub resend_aims : (row : Row) → Aims (resend row)
resend_aims row = by_pending row.pending
  where
    by_pending : (o : Option Pending) → Aims (resend_at o row)
    by_pending None = tt
    by_pending (Some p) = tt

pub replay_aims : (me : NodeId) (ms : List NodeId) (row : Row) → Aims (replay me ms row)
replay_aims me ms row = by_state row.state
  where
    by_state : (s : State) → Aims (replay_at s me ms row)
    by_state State.Invalid = started_aims (all_noted me ms []) (record row { state = State.Replay }) (unnoted None row.stamp row.kind row.content)
    by_state State.Valid = tt
    by_state State.Write = tt
    by_state State.Replay = tt
    by_state State.Trans = tt

pub view_aims : (me : NodeId) (ms : List NodeId) (row : Row) → Aims (on_view me ms row)
view_aims me ms row = by_pending row.pending
  where
    by_pending : (o : Option Pending) → Aims (on_view_at o me ms row)
    by_pending None = tt
    by_pending (Some p) = started_aims (all_noted me ms []) row (with_acks p [])

-- an INV is acknowledged with the row's stamp as top, or answered with the row's own update
pub inv_said : (x : NodeState) (k : List ℕ) (from : NodeId) (s : Stamp) (kind : Kind) (content : Option Content) → In (member_numbers (members_of x)) from.0 → (o : Ordering) → nat_cmp (tag_of (row_at k x.rows).stamp) (tag_of s) ≡ o →
    (is_touched (on_inv_at o (row_at k x.rows) from s kind content).row ≡ false → (on_inv_at o (row_at k x.rows) from s kind content).row ≡ row_at k x.rows) →
    AreSaid (row_step x k (on_inv_at o (row_at k x.rows) from s kind content))
inv_said x k from s kind content inside Less e same =
    let d = on_inv_at Less (row_at k x.rows) from s kind content in
    letters_said (record x { rows = with_row k d.row x.rows }) (Ack k s s) (from ∷ []) (λ n. to_one x from n inside) (sym (ap (λ (r : Row). tag_of r.stamp) (row-with_same k d.row x.rows same)))
inv_said x k from s kind content inside Equal e same =
    let row = row_at k x.rows in
    letters_said (record x { rows = with_row k row x.rows }) (Ack k s s) (from ∷ []) (λ n. to_one x from n inside) (sym (ap (λ (r : Row). tag_of r.stamp) (row-with_same k row x.rows same) ∙ ranked (tag_of row.stamp) (tag_of s) Equal (sym e)))
inv_said x k from s Kind.Write content inside Greater e same =
    let row = row_at k x.rows in
    letters_said (record x { rows = with_row k row x.rows }) (Ack k s row.stamp) (from ∷ []) (λ n. to_one x from n inside) (sym (ap (λ (r : Row). tag_of r.stamp) (row-with_same k row x.rows same)))
inv_said x k from s Kind.Rmw content inside Greater e same =
    let row = row_at k x.rows in
    letters_said (record x { rows = with_row k row x.rows }) (Inv k row.stamp row.kind row.content) (from ∷ []) (λ n. to_one x from n inside) tt

-- ---- a batch
own_rows : (rows : Rows) → IsStrictlySortedBy key_cmp (keys_of rows) → (r : List ℕ × Row) → In rows r → row_at r.0 rows ≡ r.1
own_rows [] ordered r h = absurd h
own_rows (q ∷ rows) ordered r (inl e) = subst (λ (z : List ℕ × Row). row_at z.0 (q ∷ rows) ≡ z.1) (sym e) (row_here q.0 q rows refl)
own_rows (q ∷ rows) ordered r (inr h) =
    let less : key_cmp q.0 r.0 ≡ Less = all_in (λ k. key_cmp q.0 k ≡ Less) (keys_of rows) r.0 (sorted_head key_cmp q.0 (keys_of rows) ordered) (key_in rows r h) in
    row_next r.0 q rows (above_differs q.0 r.0 less) ∙ own_rows rows (sorted_tail key_cmp q.0 (keys_of rows) ordered) r h
  where
    key_in : (rs : Rows) (r : List ℕ × Row) → In rs r → In (keys_of rs) r.0
    key_in [] r h = absurd h
    key_in (p ∷ rs) r (inl e) = inl (ap (λ (z : List ℕ × Row). z.0) e)
    key_in (p ∷ rs) r (inr h) = inr (key_in rs r h)

copies_are : (all rows : Rows) → ((r : List ℕ × Row) → In rows r → row_at r.0 all ≡ r.1) → AllByRecursion (λ (i : CopyItem). i ≡ copy_of (i.key, row_at i.key all)) (copies_of rows)
copies_are all [] own = tt
copies_are all (r ∷ rows) own = (ap (λ (z : Row). copy_of (r.0, z)) (sym (own r (inl refl))), copies_are all rows (λ q h. own q (inr h)))

passing : (P : CopyItem → Type 0) (t : CopyItem → Bool) (items : List CopyItem) → AllByRecursion P items → AllByRecursion P (filter t items)
passing P t [] h = tt
passing P t (i ∷ items) h = by_test (t i) (passing P t items h.1)
  where
    by_test : (b : Bool) → AllByRecursion P (filter t items) → AllByRecursion P (cond b (i ∷ filter t items) (filter t items))
    by_test true rest = (h.0, rest)
    by_test false rest = rest

taken : (P : CopyItem → Type 0) (room bytes : ℕ) (items : List CopyItem) → AllByRecursion P items → AllByRecursion P (cut room bytes items).taken
taken P room bytes [] h = tt
taken P zero bytes (i ∷ items) h = tt
taken P (suc room) bytes (i ∷ items) h = by_test (nat_le (size_of i) bytes) (taken P room (bytes - size_of i) items h.1)
  where
    by_test : (b : Bool) → AllByRecursion P (cut room (bytes - size_of i) items).taken → AllByRecursion P (cond b (with_taken i (cut room (bytes - size_of i) items)) (nothing_taken (i ∷ items))).taken
    by_test true rest = (h.0, rest)
    by_test false rest = tt

pub batch_is : (x : NodeState) (after : Option (List ℕ)) (room : ℕ) → IsStrictlySortedBy key_cmp (keys_of x.rows) → AllByRecursion (λ (i : CopyItem). i ≡ copy_of (i.key, row_at i.key x.rows)) (batch_behind x after room).taken
batch_is x after room ordered =
    let P : CopyItem → Type 0 = λ i. i ≡ copy_of (i.key, row_at i.key x.rows) in
    taken P room MAX_BATCH_BYTES (rows_after after (copies_of x.rows)) (passing P (is_after after) (copies_of x.rows) (copies_are x.rows x.rows (own_rows x.rows ordered)))
