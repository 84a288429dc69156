-- No step lowers a row's stamp.
use Rattle.std.proofs.Common.{◌≡◌, ◌≤◌, Bool, true, false, [], Option, Some, None, ◌==◌, refl, ap, arith}
use Rattle.std.specs.Ordering.{nat_cmp}
use Rattle.std.specs.declared.cmp.Ordering.{Ordering}
use Rattle.std.specs.declared.cmp.Ordering.TheVariants.{Less, Equal, Greater}
use Rattle.hk_base.specs.declared.stamp.Stamp.{Stamp}
use Rattle.hk_base.specs.declared.stamp.Kind.{Kind}
use Rattle.hk_base.specs.declared.call.State.{State}
use Rattle.hk_base.specs.declared.call.State.TheVariants.{Valid, Invalid, Write, Replay, Trans}
use Rattle.hk_base.specs.Stamp.{tag_of}
use Rattle.hk_key.specs.declared.row.Pending.{Pending}
use Rattle.hk_key.specs.Notes.{all_noted, all_exact, note_in}
use Rattle.hk_key.specs.Table.{noted_at, with_acks, unnoted, replay_at, on_inv_at, on_ack_at, on_ack_pending, on_val_at, validated, on_view_at, on_copy_at, copied_same, resend_at}
use Rattle.hk_key.specs.Laws.{BeginTakesStamp, ReplayNeverLowers, InvNeverLowers, AckNeverLowers, ValNeverLowers, ViewNeverLowers, CopyNeverLowers, ResendNeverLowers}
use Rattle.hk_key.proofs.Unchanged.{completed_stamp, started_stamp}

-- an equal stamp is no lower one
level : (a b : Stamp) → b ≡ a → tag_of a ≤ tag_of b
level a b e = let tags : tag_of b ≡ tag_of a = ap tag_of e in omega arith

pub begin_takes_stamp : BeginTakesStamp
begin_takes_stamp me members reply s kind content =
    started_stamp (all_noted me members []) (record { state = Write; stamp = s; kind = kind; content = content; kept_val = false; pending = None }) (unnoted (Some reply) s kind content)

pub replay_never_lowers : ReplayNeverLowers
replay_never_lowers me members row = level row.stamp _ (by_state row.state)
  where
    by_state : (state : State) → (replay_at state me members row).row.stamp ≡ row.stamp
    by_state Invalid = started_stamp (all_noted me members []) (record row { state = Replay }) (unnoted None row.stamp row.kind row.content)
    by_state Valid = refl
    by_state Write = refl
    by_state Replay = refl
    by_state Trans = refl

pub inv_never_lowers : InvNeverLowers
inv_never_lowers row from s kind content = by_order (nat_cmp (tag_of row.stamp) (tag_of s)) refl
  where
    by_order : (o : Ordering) → nat_cmp (tag_of row.stamp) (tag_of s) ≡ o → tag_of row.stamp ≤ tag_of (on_inv_at o row from s kind content).row.stamp
    by_order Less e = grind arith
    by_order Equal e = level row.stamp row.stamp refl
    by_order Greater e = by_kind kind
      where
        by_kind : (k : Kind) → tag_of row.stamp ≤ tag_of (on_inv_at Greater row from s k content).row.stamp
        by_kind Kind.Write = level row.stamp row.stamp refl
        by_kind Kind.Rmw = level row.stamp row.stamp refl

pub ack_never_lowers : AckNeverLowers
ack_never_lowers me members row from s top = level row.stamp _ (by_pending row.pending)
  where
    noted : (last : Bool) (p : Pending) → (noted_at last row p).row.stamp ≡ row.stamp
    noted true p = completed_stamp (tag_of row.stamp == tag_of p.stamp) (all_exact p.acks) row p
    noted false p = refl

    by_test : (p : Pending) (own exact : Bool) → (on_ack_at own exact me members row p from).row.stamp ≡ row.stamp
    by_test p false exact = refl
    by_test p true exact = noted (all_noted me members (note_in from exact p.acks)) (with_acks p (note_in from exact p.acks))

    by_pending : (o : Option Pending) → (on_ack_pending o me members row from s top).row.stamp ≡ row.stamp
    by_pending None = refl
    by_pending (Some p) = by_test p (tag_of s == tag_of p.stamp) (tag_of top == tag_of s)

pub val_never_lowers : ValNeverLowers
val_never_lowers row s = level row.stamp _ (by_test (tag_of row.stamp == tag_of s))
  where
    by_state : (state : State) → (validated state row).stamp ≡ row.stamp
    by_state Invalid = refl
    by_state Trans = refl
    by_state Valid = refl
    by_state Write = refl
    by_state Replay = refl

    by_test : (b : Bool) → (on_val_at b row).stamp ≡ row.stamp
    by_test true = by_state row.state
    by_test false = refl

pub view_never_lowers : ViewNeverLowers
view_never_lowers me members row = level row.stamp _ (by_pending row.pending)
  where
    by_pending : (o : Option Pending) → (on_view_at o me members row).row.stamp ≡ row.stamp
    by_pending None = refl
    by_pending (Some p) = started_stamp (all_noted me members []) row (with_acks p [])

pub copy_never_lowers : CopyNeverLowers
copy_never_lowers row item = by_order (nat_cmp (tag_of row.stamp) (tag_of item.stamp)) refl
  where
    by_state : (state : State) → (copied_same true state row).stamp ≡ row.stamp
    by_state Invalid = refl
    by_state Valid = refl
    by_state Write = refl
    by_state Replay = refl
    by_state Trans = refl

    by_valid : (b : Bool) → (copied_same b row.state row).stamp ≡ row.stamp
    by_valid true = by_state row.state
    by_valid false = refl

    by_order : (o : Ordering) → nat_cmp (tag_of row.stamp) (tag_of item.stamp) ≡ o → tag_of row.stamp ≤ tag_of (on_copy_at o row item).stamp
    by_order Less e = grind arith
    by_order Equal e = level row.stamp _ (by_valid item.valid)
    by_order Greater e = level row.stamp row.stamp refl

pub resend_never_lowers : ResendNeverLowers
resend_never_lowers row = level row.stamp _ (by_pending row.pending)
  where
    by_pending : (o : Option Pending) → (resend_at o row).row.stamp ≡ row.stamp
    by_pending None = refl
    by_pending (Some p) = refl
