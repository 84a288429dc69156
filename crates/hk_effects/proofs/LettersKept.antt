-- What a node sends is told in range: stamps of nodes, and batches of rising keys behind their bound.
use Rattle.std.proofs.Common.{◌≡◌, ℕ, zero, suc, ◌-◌, Bool, true, false, cond, List, [], ◌∷◌, sym, refl, subst, inl, inr, Option, Some, None, unwrap_or, nat_le}
use Rattle.std.specs.declared.cmp.Ordering.TheVariants.{Less}
use Rattle.std.specs.Cmp.{eq_by_cmp_equiv}
use Rattle.std.specs.List.{AllByRecursion, filter}
use Rattle.std.specs.List.Sorted.{IsStrictlySortedBy}
use Rattle.std.specs.BTreeMap.{is_at}
use Rattle.std.specs.Map.{lookup, keys_of}
use Rattle.std.proofs.lemmas.Cmp.{nat_list_cmp_total}
use Rattle.std.proofs.lemmas.Map.{lookup-none}
use Rattle.std.proofs.lemmas.Map.Entries.{none_past_head}
use Rattle.std.proofs.lemmas.Map.Keys.{sorted_head, sorted_tail, IsDistinct-from_sorted}
use Rattle.hk_base.specs.declared.stamp.NodeId.{NodeId}
use Rattle.hk_base.specs.declared.letter.Body.{Body}
use Rattle.hk_base.specs.declared.letter.Body.TheVariants.{Inv, Ack, Val, CopyAsk, CopyGive, LeaseAsk, LeaseGive, Prepare, Promise, Accept, Accepted, Chosen, Activate}
use Rattle.hk_base.specs.declared.view.View.{View}
use Rattle.hk_base.specs.declared.letter.Letter.{Letter}
use Rattle.hk_base.specs.declared.letter.CopyItem.{CopyItem}
use Rattle.hk_copy.specs.Batches.{key_cmp, IsRising, is_after, rows_after, size_of, cut, with_taken, nothing_taken, is_nil}
use Rattle.hk_copy.specs.declared.given.TheConstants.{MAX_BATCH_BYTES}
use Rattle.hk_key.specs.declared.row.Pending.{Pending}
use Rattle.hk_key.specs.declared.row.Row.{Row}
use Rattle.hk_key.specs.declared.out.What.{What}
use Rattle.hk_key.specs.declared.out.What.TheVariants as What
use Rattle.hk_key.specs.declared.out.Sending.{Sending}
use Rattle.hk_key.specs.Table.{first_row}
use Rattle.hk_register.specs.Machine.{In}
use Rattle.hk_node.specs.Rows.{Rows, find_row, row_at}
use Rattle.hk_node.specs.Node.{NodeState}
use Rattle.hk_node.specs.Sends.{letters_to, pending_body, body_of, addressees, sent}
use Rattle.hk_node.specs.Copies.{copies_of, batch_behind}
use Rattle.hk_effects.specs.Own.{IsSmall, IsRowOf, IsTold}
use Rattle.hk_effects.proofs.RowsKept.{MayWait, first_of}

-- A node lets no view begin; what else it says is in range.
abbrev pub IsSaid : Body → Type 0
IsSaid (Activate view) = ⊥
IsSaid body = IsTold body

pub said_told : (body : Body) → IsSaid body → IsTold body
said_told (Activate view) h = tt
said_told (Inv k s kind content) h = h
said_told (Ack k s top) h = h
said_told (Val k s) h = h
said_told (CopyAsk after room) h = h
said_told (CopyGive after done items) h = h
said_told (LeaseAsk asked) h = h
said_told (LeaseGive end) h = h
said_told (Prepare ballot) h = h
said_told (Promise ballot vote) h = h
said_told (Accept ballot view) h = h
said_told (Accepted ballot) h = h
said_told (Chosen view) h = h

pub said_begins_none : (body : Body) (v : View) → IsSaid body → body ≡ Activate v → ⊥
said_begins_none body v h is = subst IsSaid is h

-- all letters are
abbrev pub AreTold : List Letter → Type 0
AreTold ls = (l : Letter) → In ls l → IsSaid l.body

pub none_told : AreTold []
none_told l h = absurd h

pub letters_told : (x : NodeState) (b : Body) (ns : List NodeId) → IsSaid b → AreTold (letters_to x b ns)
letters_told x b [] ok l h = absurd h
letters_told x b (n ∷ ns) ok l (inl e) = subst (λ (k : Letter). IsSaid k.body) (sym e) ok
letters_told x b (n ∷ ns) ok l (inr h) = letters_told x b ns ok l h

body_told : (calls : ℕ) (k : List ℕ) (row : Row) (what : What) → IsRowOf calls row → IsSaid (body_of k row what)
body_told calls k row What.InvRow ok = ok.small
body_told calls k row What.InvPending ok = by_pending row.pending ok.pending
  where
    by_pending : (p : Option Pending) → MayWait calls p → IsSaid (pending_body k row p)
    by_pending None h = ok.small
    by_pending (Some p) h = h.small
body_told calls k row (What.Ack s top) ok = tt
body_told calls k row (What.Val s) ok = tt

-- the letters of a row's step
pub sent_told : (calls : ℕ) (x : NodeState) (k : List ℕ) (row : Row) (send : Option Sending) → IsRowOf calls row → AreTold (sent x k row send)
sent_told calls x k row None ok l h = absurd h
sent_told calls x k row (Some s) ok l h = letters_told x (body_of k row s.what) (addressees x row s.aim) (body_told calls k row s.what ok) l h

-- ---- each row of a node, where its keys rise
self_at : (key : List ℕ) → is_at (key_cmp key) key ≡ true
self_at key = (eq_by_cmp_equiv nat_list_cmp_total).refl key

pub each_row : (calls : ℕ) (rows : Rows) → IsStrictlySortedBy key_cmp (keys_of rows) → ((key : List ℕ) → IsRowOf calls (row_at key rows)) → AllByRecursion (λ r. IsRowOf calls r.1) rows
each_row calls [] ordered ok = tt
each_row calls (r ∷ rows) ordered ok = (
  subst (λ (o : Option Row). IsRowOf calls (unwrap_or o first_row)) (here (is_at (key_cmp r.0) r.0) (self_at r.0)) (ok r.0),
  each_row calls rows (sorted_tail key_cmp r.0 (keys_of rows) ordered) (λ key. by_test key (is_at (key_cmp key) r.0) refl (ok key)),
)
  where
    here : (b : Bool) → b ≡ true → cond b (Some r.1) (lookup (is_at (key_cmp r.0)) rows) ≡ Some r.1
    here b e = rw e refl

    gone : (key : List ℕ) → is_at (key_cmp key) r.0 ≡ true → find_row key rows ≡ None
    gone key e = lookup-none (is_at (key_cmp key)) rows (none_past_head (eq_by_cmp_equiv nat_list_cmp_total) key r rows (IsDistinct-from_sorted key_cmp (keys_of (r ∷ rows)) ordered) e)

    by_test : (key : List ℕ) (b : Bool) → is_at (key_cmp key) r.0 ≡ b → IsRowOf calls (unwrap_or (cond b (Some r.1) (find_row key rows)) first_row) → IsRowOf calls (row_at key rows)
    by_test key true e h = subst (λ (o : Option Row). IsRowOf calls (unwrap_or o first_row)) (sym (gone key e)) (first_of calls)
    by_test key false e h = h

-- ---- batches
copies_rise : (rows : Rows) → IsStrictlySortedBy key_cmp (keys_of rows) → IsRising (copies_of rows)
copies_rise [] ordered = tt
copies_rise (r ∷ rows) ordered = (later rows (sorted_head key_cmp r.0 (keys_of rows) ordered), copies_rise rows (sorted_tail key_cmp r.0 (keys_of rows) ordered))
  where
    later : (rs : Rows) → AllByRecursion (λ y. key_cmp r.0 y ≡ Less) (keys_of rs) → AllByRecursion (λ (item : CopyItem). key_cmp r.0 item.key ≡ Less) (copies_of rs)
    later [] h = tt
    later (q ∷ rs) h = (h.0, later rs h.1)

copies_small : (calls : ℕ) (rows : Rows) → AllByRecursion (λ r. IsRowOf calls r.1) rows → AllByRecursion (λ (item : CopyItem). IsSmall item.stamp) (copies_of rows)
copies_small calls [] h = tt
copies_small calls (r ∷ rows) h = (h.0.small, copies_small calls rows h.1)

-- what holds of each item holds of those that pass, and of those that are taken
all_passing : (P : CopyItem → Type 0) (t : CopyItem → Bool) (items : List CopyItem) → AllByRecursion P items → AllByRecursion P (filter t items)
all_passing P t [] h = tt
all_passing P t (i ∷ items) h = by_test (t i) (all_passing P t items h.1)
  where
    by_test : (b : Bool) → AllByRecursion P (filter t items) → AllByRecursion P (cond b (i ∷ filter t items) (filter t items))
    by_test true rest = (h.0, rest)
    by_test false rest = rest

each_passes : (t : CopyItem → Bool) (items : List CopyItem) → AllByRecursion (λ i. t i ≡ true) (filter t items)
each_passes t [] = tt
each_passes t (i ∷ items) = by_test (t i) refl (each_passes t items)
  where
    by_test : (b : Bool) → t i ≡ b → AllByRecursion (λ j. t j ≡ true) (filter t items) → AllByRecursion (λ j. t j ≡ true) (cond b (i ∷ filter t items) (filter t items))
    by_test true e rest = (e, rest)
    by_test false e rest = rest

rising_passing : (t : CopyItem → Bool) (items : List CopyItem) → IsRising items → IsRising (filter t items)
rising_passing t [] h = tt
rising_passing t (i ∷ items) h = by_test (t i) (rising_passing t items h.1)
  where
    by_test : (b : Bool) → IsRising (filter t items) → IsRising (cond b (i ∷ filter t items) (filter t items))
    by_test true rest = (all_passing (λ later. key_cmp i.key later.key ≡ Less) t items h.0, rest)
    by_test false rest = rest

all_taken : (P : CopyItem → Type 0) (room bytes : ℕ) (items : List CopyItem) → AllByRecursion P items → AllByRecursion P (cut room bytes items).taken
all_taken P room bytes [] h = tt
all_taken P zero bytes (i ∷ items) h = tt
all_taken P (suc room) bytes (i ∷ items) h = by_test (nat_le (size_of i) bytes) (all_taken P room (bytes - size_of i) items h.1)
  where
    by_test : (b : Bool) → AllByRecursion P (cut room (bytes - size_of i) items).taken → AllByRecursion P (cond b (with_taken i (cut room (bytes - size_of i) items)) (nothing_taken (i ∷ items))).taken
    by_test true rest = (h.0, rest)
    by_test false rest = tt

rising_taken : (room bytes : ℕ) (items : List CopyItem) → IsRising items → IsRising (cut room bytes items).taken
rising_taken room bytes [] h = tt
rising_taken zero bytes (i ∷ items) h = tt
rising_taken (suc room) bytes (i ∷ items) h = by_test (nat_le (size_of i) bytes) (rising_taken room (bytes - size_of i) items h.1)
  where
    by_test : (b : Bool) → IsRising (cut room (bytes - size_of i) items).taken → IsRising (cond b (with_taken i (cut room (bytes - size_of i) items)) (nothing_taken (i ∷ items))).taken
    by_test true rest = (all_taken (λ later. key_cmp i.key later.key ≡ Less) room (bytes - size_of i) items h.0, rest)
    by_test false rest = tt

-- the batch of a node whose rows stand in key order
pub batch_told : (calls : ℕ) (x : NodeState) (after : Option (List ℕ)) (room : ℕ) → IsStrictlySortedBy key_cmp (keys_of x.rows) → ((key : List ℕ) → IsRowOf calls (row_at key x.rows)) →
    IsSaid (CopyGive after (is_nil (batch_behind x after room).left) (batch_behind x after room).taken)
batch_told calls x after room ordered ok = (
  all_taken (λ item. is_after after item ≡ true) room MAX_BATCH_BYTES (rows_after after (copies_of x.rows)) (each_passes (is_after after) (copies_of x.rows)),
  rising_taken room MAX_BATCH_BYTES (rows_after after (copies_of x.rows)) (rising_passing (is_after after) (copies_of x.rows) (copies_rise x.rows ordered)),
  all_taken (λ item. IsSmall item.stamp) room MAX_BATCH_BYTES (rows_after after (copies_of x.rows)) (all_passing (λ item. IsSmall item.stamp) (is_after after) (copies_of x.rows) (copies_small calls x.rows (each_row calls x.rows ordered ok))),
)
