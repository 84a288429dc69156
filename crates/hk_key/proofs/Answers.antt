-- What a step answers was waited for at its row.
use Rattle.std.proofs.Common.{◌≡◌, inl, inr, Bool, true, false, [], Option, Some, None, ◌==◌, refl, sym, ◌∙◌, subst}
use Rattle.std.specs.Option.{IsSomeAnd}
use Rattle.std.proofs.lemmas.Option.{none-some}
use Rattle.std.specs.Ordering.{nat_cmp}
use Rattle.std.specs.declared.cmp.Ordering.{Ordering}
use Rattle.std.specs.declared.cmp.Ordering.TheVariants.{Less, Equal, Greater}
use Rattle.hk_base.specs.declared.stamp.Kind.{Kind}
use Rattle.hk_base.specs.declared.call.State.{State}
use Rattle.hk_base.specs.declared.call.State.TheVariants.{Valid, Invalid, Write, Replay, Trans}
use Rattle.hk_base.specs.declared.call.Reply.{Reply}
use Rattle.hk_base.specs.Stamp.{tag_of}
use Rattle.hk_key.specs.declared.row.Pending.{Pending}
use Rattle.hk_key.specs.declared.row.Row.{Row}
use Rattle.hk_key.specs.Notes.{all_noted, all_exact, note_in}
use Rattle.hk_key.specs.Table.{given_up, given_up_write, aborted, completed_at, started_at, noted_at, with_acks, unnoted, replay_at, on_inv_at, on_ack_at, on_ack_pending, on_view_at, resend_at}
use Rattle.hk_key.specs.Answered.{IsToldFor, HadWaiting}
use Rattle.hk_key.specs.Laws.{InvAnswersWaiting, AckAnswersWaiting, ViewAnswersWaiting, ReplayAnswersNone, ResendAnswersNone, BeginAnswersOwn}

-- what is told to the call of a kept reply, if there is one
abbrev IsToldForKept : Option Reply → Reply → Type 0
IsToldForKept o told = IsSomeAnd o (λ kept. IsToldFor kept told)

kept : (o : Option Reply) (told : Reply) → o ≡ Some told → IsToldForKept o told
kept o told e = subst (λ (k : Option Reply). IsToldForKept k told) (sym e) (record { call = refl; answer = inl refl })

-- the completed update's reply is what is answered
completed_reply : (own exact : Bool) (row : Row) (p : Pending) → (completed_at own exact row p).out.reply ≡ p.reply
completed_reply true true row p = refl
completed_reply true false row p = refl
completed_reply false exact row p = refl

-- one that goes out answers its reply or nothing
started_told : (alone : Bool) (row : Row) (p : Pending) (told : Reply) → (started_at alone row p).out.reply ≡ Some told → p.reply ≡ Some told
started_told true row p told e = sym (completed_reply (tag_of row.stamp == tag_of p.stamp) (all_exact p.acks) row p) ∙ e
started_told false row p told e = absurd (none-some told e)

pub inv_answers_waiting : InvAnswersWaiting
inv_answers_waiting row from s kind content told e = by_order (nat_cmp (tag_of row.stamp) (tag_of s)) e
  where
    given : (o : Option Reply) → aborted o s ≡ Some told → IsToldForKept o told
    given None e = absurd (none-some told e)
    given (Some reply) e = subst (λ (k : Option Reply). IsSomeAnd k (λ t. IsToldFor reply t)) e (record { call = refl; answer = inr (s, refl) })

    by_kind : (k : Kind) (p : Pending) → given_up_write k p.reply s ≡ Some told → IsToldForKept p.reply told
    by_kind Kind.Write p e = absurd (none-some told e)
    by_kind Kind.Rmw p e = given p.reply e

    above : (state : State) (o : Option Pending) → given_up state o s ≡ Some told → IsSomeAnd o (λ p. IsToldForKept p.reply told)
    above Valid o e = absurd (none-some told e)
    above Invalid o e = absurd (none-some told e)
    above Replay o e = absurd (none-some told e)
    above Trans o e = absurd (none-some told e)
    above Write None e = absurd (none-some told e)
    above Write (Some p) e = by_kind p.kind p e

    by_order : (o : Ordering) → (on_inv_at o row from s kind content).out.reply ≡ Some told → HadWaiting row told
    by_order Less e = above row.state row.pending e
    by_order Equal e = absurd (none-some told e)
    by_order Greater e = at kind e
      where
        at : (k : Kind) → (on_inv_at Greater row from s k content).out.reply ≡ Some told → HadWaiting row told
        at Kind.Write e = absurd (none-some told e)
        at Kind.Rmw e = absurd (none-some told e)

pub ack_answers_waiting : AckAnswersWaiting
ack_answers_waiting me members row from s top told e = by_pending row.pending e
  where
    noted : (last : Bool) (p : Pending) → (noted_at last row p).out.reply ≡ Some told → IsToldForKept p.reply told
    noted true p e = kept p.reply told (sym (completed_reply (tag_of row.stamp == tag_of p.stamp) (all_exact p.acks) row p) ∙ e)
    noted false p e = absurd (none-some told e)

    by_test : (p : Pending) (own exact : Bool) → (on_ack_at own exact me members row p from).out.reply ≡ Some told → IsToldForKept p.reply told
    by_test p false exact e = absurd (none-some told e)
    by_test p true exact e = noted (all_noted me members (note_in from exact p.acks)) (with_acks p (note_in from exact p.acks)) e

    by_pending : (o : Option Pending) → (on_ack_pending o me members row from s top).out.reply ≡ Some told → IsSomeAnd o (λ p. IsToldForKept p.reply told)
    by_pending None e = absurd (none-some told e)
    by_pending (Some p) e = by_test p (tag_of s == tag_of p.stamp) (tag_of top == tag_of s) e

pub view_answers_waiting : ViewAnswersWaiting
view_answers_waiting me members row told e = by_pending row.pending e
  where
    by_pending : (o : Option Pending) → (on_view_at o me members row).out.reply ≡ Some told → IsSomeAnd o (λ p. IsToldForKept p.reply told)
    by_pending None e = absurd (none-some told e)
    by_pending (Some p) e = kept p.reply told (started_told (all_noted me members []) row (with_acks p []) told e)

pub replay_answers_none : ReplayAnswersNone
replay_answers_none me members row = by_state row.state
  where
    again : Row
    again = record row { state = Replay }

    update : Pending
    update = unnoted None row.stamp row.kind row.content

    by_alone : (alone : Bool) → (started_at alone again update).out.reply ≡ None
    by_alone true = completed_reply (tag_of row.stamp == tag_of row.stamp) true again update
    by_alone false = refl

    by_state : (state : State) → (replay_at state me members row).out.reply ≡ None
    by_state Invalid = by_alone (all_noted me members [])
    by_state Valid = refl
    by_state Write = refl
    by_state Replay = refl
    by_state Trans = refl

pub resend_answers_none : ResendAnswersNone
resend_answers_none row = by_pending row.pending
  where
    by_pending : (o : Option Pending) → (resend_at o row).out.reply ≡ None
    by_pending None = refl
    by_pending (Some p) = refl

pub begin_answers_own : BeginAnswersOwn
begin_answers_own me members reply s kind content told e = own
    (started_told (all_noted me members []) (record { state = Write; stamp = s; kind = kind; content = content; kept_val = false; pending = None })
    (unnoted (Some reply) s kind content) told e)
  where
    own : Some reply ≡ Some told → told ≡ reply
    own same = subst (λ (o : Option Reply). IsSomeAnd o (λ t. t ≡ reply)) same refl
