-- Notes of read-modify-writes are exact, whatever step a row makes.
use Rattle.std.proofs.Common.{◌≡◌, ◌≢◌, ℕ, Bool, true, false, cond, ◌||◌, List, [], ◌∷◌, ◌∙◌, sym, refl, subst, ⊎_elim, Option, Some, None, IfSome, eqb, nat_cmp, Ordering, Less, Equal, Greater}
use Rattle.std.specs.List.{AllByRecursion}
use Rattle.std.proofs.lemmas.Bool.{eq-eqb, eqb-true}
use Rattle.hk_base.specs.declared.stamp.Stamp.{Stamp}
use Rattle.hk_base.specs.declared.stamp.NodeId.{NodeId}
use Rattle.hk_base.specs.declared.stamp.Kind.{Kind}
use Rattle.hk_base.specs.declared.stamp.Kind.TheVariants as Kind
use Rattle.hk_base.specs.declared.call.Content.{Content}
use Rattle.hk_base.specs.declared.call.State.{State}
use Rattle.hk_base.specs.declared.call.State.TheVariants as State
use Rattle.hk_base.specs.declared.letter.CopyItem.{CopyItem}
use Rattle.hk_base.specs.Stamp.{tag_of}
use Rattle.hk_key.specs.declared.acks.Ack.{Ack}
use Rattle.hk_key.specs.declared.row.Pending.{Pending}
use Rattle.hk_key.specs.declared.row.Row.{Row}
use Rattle.hk_key.specs.Notes.{all_noted, all_exact, is_of, note_in}
use Rattle.hk_key.specs.Table.{completed_at, started_at, displaced_write, displaced, on_inv_at, with_acks, noted_at, on_ack_at, on_ack_pending, on_ack, validated, on_val_at, on_val, resend_at, resend, replay_at, replay, unnoted, on_view_at, on_view, copied_same, on_copy_at, on_copy}
use Rattle.hk_node.specs.Rows.{Rows, row_at, put_row, with_row, is_touched}
use Rattle.hk_effects.proofs.Order.{cases_key, row-put_same, row-with_other}

abbrev pub AreExact : List Ack → Type 0
AreExact ks = AllByRecursion (λ (a : Ack). a.exact ≡ true) ks

-- a pending read-modify-write has exact notes
abbrev pub IsNoted : Option Pending → Type 0
IsNoted o = IfSome o (λ p. p.kind ≡ Kind.Rmw → AreExact p.acks)

note_exact : (from : NodeId) (ks : List Ack) → AreExact ks → AreExact (note_in from true ks)
note_exact from [] all = (refl, tt)
note_exact from (k ∷ ks) all = by_test (is_of from k) (note_exact from ks all.1)
  where
    either : (b : Bool) → (b || true) ≡ true
    either true = refl
    either false = refl

    by_test : (b : Bool) → AreExact (note_in from true ks) → AreExact (cond b (record k { exact = k.exact || true } ∷ ks) (k ∷ note_in from true ks))
    by_test true rest = (either k.exact, all.1)
    by_test false rest = (all.0, rest)

completed_noted : (b exact : Bool) (row : Row) (p : Pending) → IsNoted (completed_at b exact row p).row.pending
completed_noted true true row p = tt
completed_noted true false row p = tt
completed_noted false exact row p = tt

pub started_noted : (b : Bool) (row : Row) (p : Pending) → (p.kind ≡ Kind.Rmw → AreExact p.acks) → IsNoted (started_at b row p).row.pending
started_noted true row p ok = completed_noted (eqb (tag_of row.stamp) (tag_of p.stamp)) (all_exact p.acks) row p
started_noted false row p ok = ok

displaced_noted : (state : State) (p : Option Pending) → IsNoted p → IsNoted (displaced state p).1
displaced_noted State.Valid p ok = tt
displaced_noted State.Invalid p ok = tt
displaced_noted State.Replay p ok = tt
displaced_noted State.Trans p ok = ok
displaced_noted State.Write None ok = tt
displaced_noted State.Write (Some p) ok = by_kind p.kind
  where
    by_kind : (k : Kind) → IsNoted (displaced_write k p).1
    by_kind Kind.Write = ok
    by_kind Kind.Rmw = tt

pub inv_noted : (o : Ordering) (row : Row) (from : NodeId) (s : Stamp) (kind : Kind) (content : Option Content) → IsNoted row.pending → IsNoted (on_inv_at o row from s kind content).row.pending
inv_noted Less row from s kind content ok = displaced_noted row.state row.pending ok
inv_noted Equal row from s kind content ok = ok
inv_noted Greater row from s Kind.Write content ok = ok
inv_noted Greater row from s Kind.Rmw content ok = ok

-- an ACK of a pending read-modify-write has its stamp as top
abbrev pub TopIs : Option Pending → Stamp → Stamp → Type 0
TopIs o s top = IfSome o (λ p. p.kind ≡ Kind.Rmw → tag_of s ≡ tag_of p.stamp → tag_of top ≡ tag_of s)

pub ack_noted : (me : NodeId) (ms : List NodeId) (row : Row) (from : NodeId) (s top : Stamp) → IsNoted row.pending → TopIs row.pending s top → IsNoted (on_ack me ms row from s top).row.pending
ack_noted me ms row from s top = by_pending row.pending refl
  where
    by_noted : (b : Bool) (p : Pending) → (p.kind ≡ Kind.Rmw → AreExact p.acks) → IsNoted (noted_at b row p).row.pending
    by_noted true p ok = completed_noted (eqb (tag_of row.stamp) (tag_of p.stamp)) (all_exact p.acks) row p
    by_noted false p ok = ok

    by_stamp : (b exact : Bool) (p : Pending) → row.pending ≡ Some p → eqb (tag_of s) (tag_of p.stamp) ≡ b → eqb (tag_of top) (tag_of s) ≡ exact → (p.kind ≡ Kind.Rmw → AreExact p.acks) → (p.kind ≡ Kind.Rmw → tag_of s ≡ tag_of p.stamp → tag_of top ≡ tag_of s) → IsNoted (on_ack_at b exact me ms row p from).row.pending
    by_stamp true exact p is e x ok tops = by_noted (all_noted me ms (note_in from exact p.acks)) (with_acks p (note_in from exact p.acks)) (λ rmw.
        let same : exact ≡ true = sym x ∙ eq-eqb (tag_of top) (tag_of s) (tops rmw (eqb-true (tag_of s) (tag_of p.stamp) e)) in
        subst (λ (b : Bool). AreExact (note_in from b p.acks)) (sym same) (note_exact from p.acks (ok rmw)))
    by_stamp false exact p is e x ok tops = rw is ok

    by_pending : (o : Option Pending) → row.pending ≡ o → IsNoted o → TopIs o s top → IsNoted (on_ack_pending o me ms row from s top).row.pending
    by_pending None is ok tops = rw is tt
    by_pending (Some p) is ok tops = by_stamp (eqb (tag_of s) (tag_of p.stamp)) (eqb (tag_of top) (tag_of s)) p is refl refl ok tops

pub val_noted : (row : Row) (s : Stamp) → IsNoted row.pending → IsNoted (on_val row s).pending
val_noted row s ok = by_stamp (eqb (tag_of row.stamp) (tag_of s))
  where
    by_state : (state : State) → IsNoted (validated state row).pending
    by_state State.Valid = ok
    by_state State.Invalid = ok
    by_state State.Write = ok
    by_state State.Replay = ok
    by_state State.Trans = ok

    by_stamp : (b : Bool) → IsNoted (on_val_at b row).pending
    by_stamp true = by_state row.state
    by_stamp false = ok

pub resend_noted : (row : Row) → IsNoted row.pending → IsNoted (resend row).row.pending
resend_noted row ok = by_pending row.pending
  where
    by_pending : (o : Option Pending) → IsNoted (resend_at o row).row.pending
    by_pending None = ok
    by_pending (Some p) = ok

pub replay_noted : (me : NodeId) (ms : List NodeId) (row : Row) → IsNoted row.pending → IsNoted (replay me ms row).row.pending
replay_noted me ms row ok = by_state row.state
  where
    by_state : (state : State) → IsNoted (replay_at state me ms row).row.pending
    by_state State.Invalid = started_noted (all_noted me ms []) (record row { state = State.Replay }) (unnoted None row.stamp row.kind row.content) (λ rmw. tt)
    by_state State.Valid = ok
    by_state State.Write = ok
    by_state State.Replay = ok
    by_state State.Trans = ok

pub view_noted : (me : NodeId) (ms : List NodeId) (row : Row) → IsNoted (on_view me ms row).row.pending
view_noted me ms row = by_pending row.pending refl
  where
    by_pending : (o : Option Pending) → row.pending ≡ o → IsNoted (on_view_at o me ms row).row.pending
    by_pending None is = rw is tt
    by_pending (Some p) is = started_noted (all_noted me ms []) row (with_acks p []) (λ rmw. tt)

pub copy_noted : (row : Row) (item : CopyItem) → IsNoted row.pending → IsNoted (on_copy row item).pending
copy_noted row item ok = by_order (nat_cmp (tag_of row.stamp) (tag_of item.stamp))
  where
    by_same : (b : Bool) (state : State) → IsNoted (copied_same b state row).pending
    by_same true State.Invalid = ok
    by_same true State.Valid = ok
    by_same true State.Write = ok
    by_same true State.Replay = ok
    by_same true State.Trans = ok
    by_same false state = ok

    by_order : (o : Ordering) → IsNoted (on_copy_at o row item).pending
    by_order Less = tt
    by_order Equal = by_same item.valid row.state
    by_order Greater = ok

-- the row at a key after the row at a key was put
pub with_row_noted : (key k : List ℕ) (row : Row) (rows : Rows) → IsNoted (row_at key rows).pending → (key ≡ k → IsNoted row.pending) → IsNoted (row_at key (with_row k row rows)).pending
with_row_noted key k row rows ok good = ⊎_elim
    (λ (same : key ≡ k). subst (λ (j : List ℕ). IsNoted (row_at key (with_row j row rows)).pending) same (by_test (good same) (is_touched row)))
    (λ (other : key ≢ k). subst (λ (r : Row). IsNoted r.pending) (sym (row-with_other key k row rows other)) ok) (cases_key key k)
  where
    by_test : IsNoted row.pending → (b : Bool) → IsNoted (row_at key (cond b (put_row key row rows) rows)).pending
    by_test mine false = ok
    by_test mine true = subst (λ (r : Row). IsNoted r.pending) (sym (row-put_same key row rows)) mine
