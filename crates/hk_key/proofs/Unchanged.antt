-- Where a step leaves a row the same, by the test that reads no contents, it leaves the very row.
use Rattle.std.proofs.Common.{◌≡◌, Bool, true, false, List, [], Option, Some, None, ◌==◌, refl, sym, ap, ◌∙◌, arith, subst}
use Rattle.std.specs.Option.{option_eq}
use Rattle.std.specs.Ordering.{nat_cmp}
use Rattle.std.specs.Cmp.{nat_eq_equiv, booleans_Decides}
use Rattle.std.specs.declared.cmp.Ordering.{Ordering}
use Rattle.std.specs.declared.cmp.Ordering.TheVariants.{Less, Equal, Greater}
use Rattle.std.proofs.lemmas.Bool.{false≢true, false_from_ne_true}
use Rattle.hk_base.specs.declared.stamp.Stamp.{Stamp}
use Rattle.hk_base.specs.declared.stamp.NodeId.{NodeId}
use Rattle.hk_base.specs.declared.stamp.Kind.{Kind}
use Rattle.hk_base.specs.declared.call.State.{State}
use Rattle.hk_base.specs.declared.call.State.TheVariants.{Valid, Invalid, Write, Replay, Trans}
use Rattle.hk_base.specs.Stamp.{tag_of}
use Rattle.hk_key.specs.declared.acks.Ack.{Ack}
use Rattle.hk_key.specs.declared.row.Pending.{Pending}
use Rattle.hk_key.specs.declared.row.Row.{Row}
use Rattle.hk_key.specs.Notes.{all_noted, all_exact, note_in}
use Rattle.hk_key.specs.Same.{is_same_state, is_same_stamp, is_same_wait, is_same_row}
use Rattle.hk_key.specs.Table.{completed_at, completed, started_at, noted_at, with_acks, unnoted, begin, replay_at, on_inv_at, on_ack_at, on_ack_pending, on_val_at, validated, on_view_at, on_copy_at, copied_same, resend_at}
use Rattle.hk_key.specs.Laws.{SameAfterInv, SameAfterAck, SameAfterVal, SameAfterView, SameAfterCopy, SameAfterReplay, ResendKeepsRow, ReplayChanges, BeginChanges}
use Rattle.hk_key.proofs.SameNotes.{parts, apart, same_notes}

-- a completed update is gone, and the row keeps its stamp
pub completed_gone : (own exact : Bool) (row : Row) (p : Pending) → (completed_at own exact row p).row.pending ≡ None
completed_gone true true row p = refl
completed_gone true false row p = refl
completed_gone false exact row p = refl

pub completed_stamp : (own exact : Bool) (row : Row) (p : Pending) → (completed_at own exact row p).row.stamp ≡ row.stamp
completed_stamp true true row p = refl
completed_stamp true false row p = refl
completed_stamp false exact row p = refl

pub started_stamp : (alone : Bool) (row : Row) (p : Pending) → (started_at alone row p).row.stamp ≡ row.stamp
started_stamp true row p = completed_stamp (tag_of row.stamp == tag_of p.stamp) (all_exact p.acks) row p
started_stamp false row p = refl

-- where an update was pending, a row without one is not the same
ended : (row : Row) (p q : Pending) → row.pending ≡ Some p → is_same_row row (completed row q).row ≡ true → ⊥
ended row p q e same =
    let gone = completed_gone (tag_of row.stamp == tag_of q.stamp) (all_exact q.acks) row q in
    let told = (parts row (completed row q).row same).pending in
    false≢true (subst (λ (o : Option Pending). option_eq is_same_wait (Some p) o ≡ true) gone
    (subst (λ (o : Option Pending). option_eq is_same_wait o (completed row q).row.pending ≡ true) e told))

-- where the pending update has the same notes, it is the same update
kept : (row : Row) (p : Pending) (acks : List Ack) → row.pending ≡ Some p →
    is_same_row row (record row { pending = Some (with_acks p acks) }) ≡ true → record row { pending = Some (with_acks p acks) } ≡ row
kept row p acks e same =
    let told = (parts row (record row { pending = Some (with_acks p acks) }) same).pending in
    let notes = same_notes p.acks acks (subst (λ (o : Option Pending). option_eq is_same_wait o (Some (with_acks p acks)) ≡ true) e told) in
    ap (λ (l : List Ack). record row { pending = Some (with_acks p l) }) (sym notes) ∙ ap (λ (o : Option Pending). record row { pending = o }) (sym e)

-- a row in another state is not the same
moved : (a b : Row) (s t : State) → a.state ≡ s → b.state ≡ t → is_same_state s t ≡ false → is_same_row a b ≡ true → ⊥
moved a b s t at to differ same = false≢true (sym differ ∙ subst (λ (u : State). is_same_state s u ≡ true) to
    (subst (λ (u : State). is_same_state u b.state ≡ true) at (parts a b same).state))

pub same_after_inv : SameAfterInv
same_after_inv row from s kind content same = by_order (nat_cmp (tag_of row.stamp) (tag_of s)) refl same
  where
    by_order : (o : Ordering) → nat_cmp (tag_of row.stamp) (tag_of s) ≡ o → is_same_row row (on_inv_at o row from s kind content).row ≡ true →
        (on_inv_at o row from s kind content).row ≡ row
    by_order Less e same = absurd (apart row.stamp s (grind arith) (parts row (on_inv_at Less row from s kind content).row same).stamp)
    by_order Equal e same = refl
    by_order Greater e same = by_kind kind
      where
        by_kind : (k : Kind) → (on_inv_at Greater row from s k content).row ≡ row
        by_kind Kind.Write = refl
        by_kind Kind.Rmw = refl

pub same_after_ack : SameAfterAck
same_after_ack me members row from s top same = by_pending row.pending refl same
  where
    noted : (last : Bool) (p : Pending) (acks : List Ack) → row.pending ≡ Some p →
        is_same_row row (noted_at last row (with_acks p acks)).row ≡ true → (noted_at last row (with_acks p acks)).row ≡ row
    noted true p acks e same = absurd (ended row p (with_acks p acks) e same)
    noted false p acks e same = kept row p acks e same

    by_test : (p : Pending) (own exact : Bool) → row.pending ≡ Some p →
        is_same_row row (on_ack_at own exact me members row p from).row ≡ true → (on_ack_at own exact me members row p from).row ≡ row
    by_test p false exact e same = refl
    by_test p true exact e same = noted (all_noted me members (note_in from exact p.acks)) p (note_in from exact p.acks) e same

    by_pending : (o : Option Pending) → row.pending ≡ o → is_same_row row (on_ack_pending o me members row from s top).row ≡ true →
        (on_ack_pending o me members row from s top).row ≡ row
    by_pending None e same = refl
    by_pending (Some p) e same = by_test p (tag_of s == tag_of p.stamp) (tag_of top == tag_of s) e same

pub same_after_val : SameAfterVal
same_after_val row s same = by_test (tag_of row.stamp == tag_of s) same
  where
    by_state : (state : State) → row.state ≡ state → is_same_row row (validated state row) ≡ true → validated state row ≡ row
    by_state Invalid e same = absurd (moved row (record row { state = Valid }) Invalid Valid e refl refl same)
    by_state Trans e same = ap (λ (b : Bool). record row { kept_val = b }) (sym ((booleans_Decides row.kept_val true).0 (parts row (record row { kept_val = true }) same).kept_val))
    by_state Valid e same = refl
    by_state Write e same = refl
    by_state Replay e same = refl

    by_test : (b : Bool) → is_same_row row (on_val_at b row) ≡ true → on_val_at b row ≡ row
    by_test true same = by_state row.state refl same
    by_test false same = refl

pub same_after_view : SameAfterView
same_after_view me members row same = by_pending row.pending refl same
  where
    started : (alone : Bool) (p : Pending) → row.pending ≡ Some p → is_same_row row (started_at alone row (with_acks p [])).row ≡ true →
        (started_at alone row (with_acks p [])).row ≡ row
    started true p e same = absurd (ended row p (with_acks p []) e same)
    started false p e same = kept row p [] e same

    by_pending : (o : Option Pending) → row.pending ≡ o → is_same_row row (on_view_at o me members row).row ≡ true → (on_view_at o me members row).row ≡ row
    by_pending None e same = refl
    by_pending (Some p) e same = started (all_noted me members []) p e same

pub same_after_copy : SameAfterCopy
same_after_copy row item same = by_order (nat_cmp (tag_of row.stamp) (tag_of item.stamp)) refl same
  where
    by_state : (state : State) → row.state ≡ state → is_same_row row (copied_same true state row) ≡ true → copied_same true state row ≡ row
    by_state Invalid e same = absurd (moved row (record row { state = Valid }) Invalid Valid e refl refl same)
    by_state Valid e same = refl
    by_state Write e same = refl
    by_state Replay e same = refl
    by_state Trans e same = refl

    by_valid : (b : Bool) → is_same_row row (copied_same b row.state row) ≡ true → copied_same b row.state row ≡ row
    by_valid true same = by_state row.state refl same
    by_valid false same = refl

    by_order : (o : Ordering) → nat_cmp (tag_of row.stamp) (tag_of item.stamp) ≡ o → is_same_row row (on_copy_at o row item) ≡ true → on_copy_at o row item ≡ row
    by_order Less e same = absurd (apart row.stamp item.stamp (grind arith) (parts row (on_copy_at Less row item) same).stamp)
    by_order Equal e same = by_valid item.valid same
    by_order Greater e same = refl

-- an Invalid row that is replayed goes to Replay, or to Valid where the node is alone
replayed : (me : NodeId) (members : List NodeId) (row : Row) → row.state ≡ Invalid → is_same_row row (replay_at Invalid me members row).row ≡ true → ⊥
replayed me members row e same = by_alone (all_noted me members []) same
  where
    again : Row
    again = record row { state = Replay }

    update : Pending
    update = unnoted None row.stamp row.kind row.content

    by_own : (own : Bool) → tag_of row.stamp == tag_of row.stamp ≡ own → is_same_row row (completed_at own true again update).row ≡ true → ⊥
    by_own true at same = moved row (completed_at true true again update).row Invalid Valid e refl refl same
    by_own false at same = false≢true (sym at ∙ nat_eq_equiv.refl (tag_of row.stamp))

    by_alone : (alone : Bool) → is_same_row row (started_at alone again update).row ≡ true → ⊥
    by_alone true same = by_own (tag_of row.stamp == tag_of row.stamp) refl same
    by_alone false same = moved row (started_at false again update).row Invalid Replay e refl refl same

pub same_after_replay : SameAfterReplay
same_after_replay me members row same = by_state row.state refl same
  where
    by_state : (state : State) → row.state ≡ state → is_same_row row (replay_at state me members row).row ≡ true → (replay_at state me members row).row ≡ row
    by_state Invalid e same = absurd (replayed me members row e same)
    by_state Valid e same = refl
    by_state Write e same = refl
    by_state Replay e same = refl
    by_state Trans e same = refl

pub replay_changes : ReplayChanges
replay_changes me members row e = subst (λ (state : State). is_same_row row (replay_at state me members row).row ≡ false) (sym e)
    (false_from_ne_true (is_same_row row (replay_at Invalid me members row).row) (replayed me members row e))

pub resend_keeps_row : ResendKeepsRow
resend_keeps_row row = by_pending row.pending
  where
    by_pending : (o : Option Pending) → (resend_at o row).row ≡ row
    by_pending None = refl
    by_pending (Some p) = refl

pub begin_changes : BeginChanges
begin_changes me members row reply s kind content less = false_from_ne_true (is_same_row row (begin me members reply s kind content).row) (λ same.
    let stamp = started_stamp (all_noted me members []) (record { state = Write; stamp = s; kind = kind; content = content; kept_val = false; pending = None }) (unnoted (Some reply) s kind content) in
    apart row.stamp s less (subst (λ (t : Stamp). is_same_stamp row.stamp t ≡ true) stamp (parts row (begin me members reply s kind content).row same).stamp))
