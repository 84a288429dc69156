-- After each step the call of a pending update waits on with its update, or is answered.
use Rattle.std.proofs.Common.{◌≡◌, ◌⊎◌, inl, inr, Bool, true, false, [], Option, Some, None, IfSome, if◌then◌else◌, ◌==◌, refl, sym, ◌∙◌, subst}
use Rattle.std.specs.Option.{IsSomeAnd}
use Rattle.std.proofs.lemmas.Option.{none-some}
use Rattle.std.specs.Ordering.{nat_cmp}
use Rattle.std.specs.declared.cmp.Ordering.{Ordering}
use Rattle.std.specs.declared.cmp.Ordering.TheVariants.{Less, Equal, Greater}
use Rattle.hk_base.specs.declared.stamp.Stamp.{Stamp}
use Rattle.hk_base.specs.declared.stamp.Kind.{Kind}
use Rattle.hk_base.specs.declared.call.State.{State}
use Rattle.hk_base.specs.declared.call.State.TheVariants.{Valid, Invalid, Write, Replay, Trans}
use Rattle.hk_base.specs.declared.call.Reply.{Reply}
use Rattle.hk_base.specs.Stamp.{tag_of}
use Rattle.hk_key.specs.declared.row.Pending.{Pending}
use Rattle.hk_key.specs.declared.row.Row.{Row}
use Rattle.hk_key.specs.Notes.{all_noted, all_exact, note_in}
use Rattle.hk_key.specs.Sound.{Holds, Waits}
use Rattle.hk_key.specs.Table.{Done, displaced, displaced_write, given_up, given_up_write, aborted, completed_at, started_at, noted_at, with_acks, unnoted, still, replay_at, on_inv_at, on_ack_at, on_ack_pending, on_val_at, validated, on_view_at, resend_at}
use Rattle.hk_key.specs.declared.out.Sending.{Sending}
use Rattle.hk_key.specs.Answered.{IsToldFor, IsAnswered, GoesOnOrIsAnswered}
use Rattle.hk_key.specs.Laws.{BeginAnswersOrWaits, ReplayAnswersOrWaits, InvAnswersOrWaits, AckAnswersOrWaits, ValAnswersOrWaits, ViewAnswersOrWaits, ResendAnswersOrWaits}

-- the pending update p keeps this reply
abbrev Keeps : Pending → Reply → Pending → Type 0
Keeps p reply q = (q.stamp ≡ p.stamp) × (q.reply ≡ Some reply)

same_update : (p : Pending) (reply : Reply) (o : Option Pending) → o ≡ Some p → p.reply ≡ Some reply → IsSomeAnd o (Keeps p reply)
same_update p reply o e own = subst (λ (k : Option Pending). IsSomeAnd k (Keeps p reply)) (sym e) (refl, own)

-- a sound row with a call's pending update is in Write or in Trans
in_write_or_trans : (state : State) (o : Option Pending) (s : Stamp) (p : Pending) (reply : Reply) → Holds state o s → Waits state o → o ≡ Some p →
    p.reply ≡ Some reply → (state ≡ Write) ⊎ (state ≡ Trans)
in_write_or_trans Valid o s p reply h w e own = absurd (none-some p (sym h ∙ e))
in_write_or_trans Invalid o s p reply h w e own = absurd (none-some p (sym h ∙ e))
in_write_or_trans Write o s p reply h w e own = inl refl
in_write_or_trans Trans o s p reply h w e own = inr refl
in_write_or_trans Replay o s p reply h w e own =
    let nobody : p.reply ≡ None = subst (λ (k : Option Pending). IfSome k (λ q. q.reply ≡ None)) e w in
    absurd (none-some reply (sym nobody ∙ own))

-- a completed update is answered
ends : (own exact : Bool) (row : Row) (p : Pending) (reply : Reply) → p.reply ≡ Some reply → IsAnswered reply (completed_at own exact row p)
ends own exact row p reply e = by_tests own exact
  where
    told : IsSomeAnd p.reply (λ told. IsToldFor reply told)
    told = subst (λ (o : Option Reply). IsSomeAnd o (λ told. IsToldFor reply told)) (sym e) (record { call = refl; answer = inl refl })

    by_val : (b : Bool) → ((if b then Valid else Invalid) ≡ Valid) ⊎ ((if b then Valid else Invalid) ≡ Invalid)
    by_val true = inl refl
    by_val false = inr refl

    by_tests : (own exact : Bool) → IsAnswered reply (completed_at own exact row p)
    by_tests true true = record { told = told; gone = refl; state = inl refl }
    by_tests true false = record { told = told; gone = refl; state = inr refl }
    by_tests false exact = record { told = told; gone = refl; state = by_val row.kept_val }

started : (alone : Bool) (row : Row) (p q : Pending) (reply : Reply) → (row.state ≡ Write) ⊎ (row.state ≡ Trans) → Keeps p reply q →
    GoesOnOrIsAnswered p reply (started_at alone row q)
started true row p q reply at keeps = inr (ends (tag_of row.stamp == tag_of q.stamp) (all_exact q.acks) row q reply keeps.1)
started false row p q reply at keeps = inl (record { update = keeps; state = at; silent = refl })

pub begin_answers_or_waits : BeginAnswersOrWaits
begin_answers_or_waits me members reply s kind content =
    started (all_noted me members []) (record { state = Write; stamp = s; kind = kind; content = content; kept_val = false; pending = None })
    (unnoted (Some reply) s kind content) (unnoted (Some reply) s kind content) reply (inl refl) (refl, refl)

pub inv_answers_or_waits : InvAnswersOrWaits
inv_answers_or_waits me members row p reply from s kind content ok e own = by_order (nat_cmp (tag_of row.stamp) (tag_of s))
  where
    unchanged : (send : Option Sending) → GoesOnOrIsAnswered p reply (record { row = row; out = record { send = send; reply = None } })
    unchanged send = inl (record { update = same_update p reply row.pending e own; state = in_write_or_trans row.state row.pending row.stamp p reply ok.holds ok.waits e own; silent = refl })

    after : State → Option Pending → Option Sending → Done
    after state o send = record {
      row = record { state = (displaced state o).0; stamp = s; kind = kind; content = content; kept_val = false; pending = (displaced state o).1 };
      out = record { send = send; reply = given_up state o s };
    }

    by_kind : (k : Kind) (q : Pending) (send : Option Sending) → Keeps p reply q → GoesOnOrIsAnswered p reply (record {
      row = record { state = (displaced_write k q).0; stamp = s; kind = kind; content = content; kept_val = false; pending = (displaced_write k q).1 };
      out = record { send = send; reply = given_up_write k q.reply s };
    })
    by_kind Kind.Write q send keeps = inl (record { update = keeps; state = inr refl; silent = refl })
    by_kind Kind.Rmw q send keeps = inr (record {
      told = subst (λ (o : Option Reply). IsSomeAnd (aborted o s) (λ told. IsToldFor reply told)) (sym keeps.1) (record { call = refl; answer = inr (s, refl) });
      gone = refl;
      state = inr refl;
    })

    -- an INV above the row: by its state and its pending update
    above : (state : State) (o : Option Pending) (send : Option Sending) → Holds state o row.stamp → Waits state o → o ≡ Some p → GoesOnOrIsAnswered p reply (after state o send)
    above Valid o send h w e = absurd (none-some p (sym h ∙ e))
    above Invalid o send h w e = absurd (none-some p (sym h ∙ e))
    above Replay o send h w e =
        let nobody : p.reply ≡ None = subst (λ (k : Option Pending). IfSome k (λ q. q.reply ≡ None)) e w in
        absurd (none-some reply (sym nobody ∙ own))
    above Trans o send h w e = inl (record { update = same_update p reply o e own; state = inr refl; silent = refl })
    above Write None send h w e = absurd h
    above Write (Some q) send h w e = by_kind q.kind q send (same_update p reply (Some q) e own)

    by_order : (o : Ordering) → GoesOnOrIsAnswered p reply (on_inv_at o row from s kind content)
    by_order Less = above row.state row.pending (on_inv_at Less row from s kind content).out.send ok.holds ok.waits e
    by_order Equal = unchanged (on_inv_at Equal row from s kind content).out.send
    by_order Greater = at kind
      where
        at : (k : Kind) → GoesOnOrIsAnswered p reply (on_inv_at Greater row from s k content)
        at Kind.Write = unchanged (on_inv_at Greater row from s Kind.Write content).out.send
        at Kind.Rmw = unchanged (on_inv_at Greater row from s Kind.Rmw content).out.send

pub ack_answers_or_waits : AckAnswersOrWaits
ack_answers_or_waits me members row p reply from s top ok e own = by_pending row.pending e
  where
    at : (row.state ≡ Write) ⊎ (row.state ≡ Trans)
    at = in_write_or_trans row.state row.pending row.stamp p reply ok.holds ok.waits e own

    noted : (last : Bool) (q : Pending) → Keeps p reply q → GoesOnOrIsAnswered p reply (noted_at last row q)
    noted true q keeps = inr (ends (tag_of row.stamp == tag_of q.stamp) (all_exact q.acks) row q reply keeps.1)
    noted false q keeps = inl (record { update = keeps; state = at; silent = refl })

    unchanged : GoesOnOrIsAnswered p reply (still row)
    unchanged = inl (record { update = same_update p reply row.pending e own; state = at; silent = refl })

    by_test : (q : Pending) (mine exact : Bool) → Keeps p reply q → GoesOnOrIsAnswered p reply (on_ack_at mine exact me members row q from)
    by_test q false exact keeps = unchanged
    by_test q true exact keeps = noted (all_noted me members (note_in from exact q.acks)) (with_acks q (note_in from exact q.acks)) keeps

    by_pending : (o : Option Pending) → o ≡ Some p → GoesOnOrIsAnswered p reply (on_ack_pending o me members row from s top)
    by_pending None e = unchanged
    by_pending (Some q) e = by_test q (tag_of s == tag_of q.stamp) (tag_of top == tag_of s) (same_update p reply (Some q) e own)

pub val_answers_or_waits : ValAnswersOrWaits
val_answers_or_waits me members row p reply s ok e own = by_test (tag_of row.stamp == tag_of s)
  where
    at : (row.state ≡ Write) ⊎ (row.state ≡ Trans)
    at = in_write_or_trans row.state row.pending row.stamp p reply ok.holds ok.waits e own

    unchanged : GoesOnOrIsAnswered p reply (still row)
    unchanged = inl (record { update = same_update p reply row.pending e own; state = at; silent = refl })

    by_state : (state : State) → Holds state row.pending row.stamp → GoesOnOrIsAnswered p reply (still (validated state row))
    by_state Invalid h = absurd (none-some p (sym h ∙ e))
    by_state Trans h = inl (record { update = same_update p reply row.pending e own; state = at; silent = refl })
    by_state Valid h = unchanged
    by_state Write h = unchanged
    by_state Replay h = unchanged

    by_test : (b : Bool) → GoesOnOrIsAnswered p reply (still (on_val_at b row))
    by_test true = by_state row.state ok.holds
    by_test false = unchanged

pub view_answers_or_waits : ViewAnswersOrWaits
view_answers_or_waits me old members row p reply ok e own = by_pending row.pending e
  where
    by_pending : (o : Option Pending) → o ≡ Some p → GoesOnOrIsAnswered p reply (on_view_at o me members row)
    by_pending None none = absurd (none-some p none)
    by_pending (Some q) same = started (all_noted me members []) row p (with_acks q []) reply
        (in_write_or_trans row.state row.pending row.stamp p reply ok.holds ok.waits e own) (same_update p reply (Some q) same own)

pub resend_answers_or_waits : ResendAnswersOrWaits
resend_answers_or_waits me members row p reply ok e own = by_pending row.pending
  where
    at : (row.state ≡ Write) ⊎ (row.state ≡ Trans)
    at = in_write_or_trans row.state row.pending row.stamp p reply ok.holds ok.waits e own

    by_pending : (o : Option Pending) → GoesOnOrIsAnswered p reply (resend_at o row)
    by_pending None = inl (record { update = same_update p reply row.pending e own; state = at; silent = refl })
    by_pending (Some q) = inl (record { update = same_update p reply row.pending e own; state = at; silent = refl })

pub replay_answers_or_waits : ReplayAnswersOrWaits
replay_answers_or_waits me members row p reply ok e own = by_state row.state ok.holds
  where
    unchanged : GoesOnOrIsAnswered p reply (still row)
    unchanged = inl (record { update = same_update p reply row.pending e own; state = in_write_or_trans row.state row.pending row.stamp p reply ok.holds ok.waits e own; silent = refl })

    by_state : (state : State) → Holds state row.pending row.stamp → GoesOnOrIsAnswered p reply (replay_at state me members row)
    by_state Invalid h = absurd (none-some p (sym h ∙ e))
    by_state Valid h = unchanged
    by_state Write h = unchanged
    by_state Replay h = unchanged
    by_state Trans h = unchanged
