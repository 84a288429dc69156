-- The steps of one row of one key at one node, as a table: a clause for each line. A step gives the row afterwards, and
-- what it sends and answers.
--
-- Stamps are ordered by version, then by node: that is the order of their tags.
use Rattle.std.specs.Prelude.{Bool, true, false, List, [], Option, Some, None, if◌then◌else◌, ◌==◌}
use Rattle.std.specs.Ordering.{nat_cmp}
use Rattle.std.specs.declared.cmp.Ordering.{Ordering}
use Rattle.std.specs.declared.cmp.Ordering.TheVariants.{Less, Equal, Greater}
use Rattle.hk_base.specs.declared.stamp.Stamp.{Stamp}
use Rattle.hk_base.specs.declared.stamp.NodeId.{NodeId}
use Rattle.hk_base.specs.declared.stamp.Kind.{Kind}
use Rattle.hk_base.specs.declared.call.State.{State}
use Rattle.hk_base.specs.declared.call.State.TheVariants.{Valid, Invalid, Write, Replay, Trans}
use Rattle.hk_base.specs.declared.call.Content.{Content}
use Rattle.hk_base.specs.declared.call.Reply.{Reply}
use Rattle.hk_base.specs.declared.call.Answer.TheVariants.{Aborted}
use Rattle.hk_base.specs.declared.letter.CopyItem.{CopyItem}
use Rattle.hk_base.specs.Stamp.{tag_of}
use Rattle.hk_key.specs.declared.acks.Ack.{Ack}
use Rattle.hk_key.specs.declared.row.Pending.{Pending}
use Rattle.hk_key.specs.declared.row.Row.{Row}
use Rattle.hk_key.specs.declared.out.Aim.{Aim}
use Rattle.hk_key.specs.declared.out.Aim.TheVariants.{One, Others, NotAcked}
use Rattle.hk_key.specs.declared.out.What.{What}
use Rattle.hk_key.specs.declared.out.Out.{Out}
use Rattle.hk_key.specs.Notes.{all_noted, all_exact, note_in}

-- the row of a key that nothing has touched: Valid, `0.0`, kind Write, no content
abbrev pub first_row : Row
first_row = record { state = Valid; stamp = record { version = 0; node = 0 }; kind = Kind.Write; content = None; kept_val = false; pending = None }

-- a row, and what its step gives
pub record Done : Type 0 where
  pub row : Row
  pub out : Out

-- nothing is sent and nothing answered
abbrev pub no_out : Out
no_out = record { send = None; reply = None }

-- a letter is sent and nothing answered
abbrev pub sent_out : Aim → What → Out
sent_out aim what = record { send = Some (record { aim = aim; what = what }); reply = None }

abbrev pub still : Row → Done
still row = record { row = row; out = no_out }

abbrev pub sends : Row → Aim → What → Done
sends row aim what = record { row = row; out = sent_out aim what }

-- COMPLETES. By two tests: whether the row's stamp is the pending update's, and whether all notes are exact. The call,
-- where there is one, is answered with the answer kept at begin, and the pending update is gone.
abbrev pub completed_at : Bool → Bool → Row → Pending → Done
-- its own stamp, all exact: becomes Valid, VAL to all others
completed_at true true row p = record {
  row = record row { state = Valid; pending = None };
  out = record { send = Some (record { aim = Others; what = What.Val p.stamp }); reply = p.reply };
}
-- its own stamp, a note not exact: becomes Invalid
completed_at true false row p = record { row = record row { state = Invalid; pending = None }; out = record { send = None; reply = p.reply } }
-- another stamp, that is in Trans: becomes Valid where `kept_val` holds, else Invalid
completed_at false exact row p = record {
  row = record row { state = if row.kept_val then Valid else Invalid; pending = None };
  out = record { send = None; reply = p.reply };
}

abbrev pub completed : Row → Pending → Done
completed row p = completed_at (tag_of row.stamp == tag_of p.stamp) (all_exact p.acks) row p

-- A pending update goes out, by whether all others are noted: that is, as none is noted yet, whether there are none.
abbrev pub started_at : Bool → Row → Pending → Done
-- with no others: completes at once
started_at true row p = completed row p
-- with others: INV of the pending update to all others
started_at false row p = sends (record row { pending = Some p }) Others What.InvPending

abbrev pub started : NodeId → List NodeId → Row → Pending → Done
started me members row p = started_at (all_noted me members p.acks) row p

-- an update with no acknowledgements
abbrev pub unnoted : Option Reply → Stamp → Kind → Option Content → Pending
unnoted reply s kind content = record { reply = reply; stamp = s; kind = kind; content = content; acks = [] }

-- BEGIN, state Valid: the row takes the new stamp, kind and content; `kept_val` false; state Write; pending with no
-- acknowledgements; goes out
abbrev pub begin : NodeId → List NodeId → Reply → Stamp → Kind → Option Content → Done
begin me members reply s kind content = started me members
    (record { state = Write; stamp = s; kind = kind; content = content; kept_val = false; pending = None })
    (unnoted (Some reply) s kind content)

-- Where a row in Write goes under an INV above it, and with which pending update, by the kind of that.
abbrev pub displaced_write : Kind → Pending → State × Option Pending
-- on INV, stamp greater, Write with a plain write: becomes Trans
displaced_write Kind.Write p = (Trans, Some p)
-- on INV, stamp greater, Write with a read-modify-write: drops it, becomes Invalid
displaced_write Kind.Rmw p = (Invalid, None)

-- Where any row goes under an INV above it.
abbrev pub displaced : State → Option Pending → State × Option Pending
-- on INV, stamp greater, Valid or Invalid: becomes Invalid
displaced Valid p = (Invalid, None)
displaced Invalid p = (Invalid, None)
-- on INV, stamp greater, Replay: drops its pending, becomes Invalid
displaced Replay p = (Invalid, None)
-- on INV, stamp greater, Trans: stays Trans
displaced Trans p = (Trans, p)
displaced Write (Some p) = displaced_write p.kind p
-- no row is in Write with no pending update
displaced Write None = (Invalid, None)

-- the answer of a call that is given up for this stamp
abbrev pub aborted : Option Reply → Stamp → Option Reply
aborted None s = None
aborted (Some reply) s = Some (record reply { answer = Aborted s })

abbrev pub given_up_write : Kind → Option Reply → Stamp → Option Reply
given_up_write Kind.Write reply s = None
-- on INV, stamp greater, Write with a read-modify-write: answers Aborted with the letter's stamp
given_up_write Kind.Rmw reply s = aborted reply s

-- the answer of the call that an INV above the row gives up, if it does
abbrev pub given_up : State → Option Pending → Stamp → Option Reply
given_up Valid p s = None
given_up Invalid p s = None
given_up Replay p s = None
given_up Trans p s = None
given_up Write None s = None
given_up Write (Some p) s = given_up_write p.kind p.reply s

-- ON INV, by how the row's stamp stands to the letter's.
abbrev pub on_inv_at : Ordering → Row → NodeId → Stamp → Kind → Option Content → Done
-- stamp greater: takes stamp, kind and content; `kept_val` false; ACK with top equal to the stamp
on_inv_at Less row from s kind content = record {
  row = record {
    state = (displaced row.state row.pending).0;
    stamp = s;
    kind = kind;
    content = content;
    kept_val = false;
    pending = (displaced row.state row.pending).1;
  };
  out = record { send = Some (record { aim = One from; what = What.Ack s s }); reply = given_up row.state row.pending s };
}
-- stamp equal: ACK with top equal to the stamp, nothing changes
on_inv_at Equal row from s kind content = sends row (One from) (What.Ack s s)
-- stamp lower, kind Write: ACK of the letter's stamp with top the row's stamp
on_inv_at Greater row from s Kind.Write content = sends row (One from) (What.Ack s row.stamp)
-- stamp lower, kind Rmw: INV of the row's own stamp, kind and content, to the sender
on_inv_at Greater row from s Kind.Rmw content = sends row (One from) What.InvRow

abbrev pub on_inv : Row → NodeId → Stamp → Kind → Option Content → Done
on_inv row from s kind content = on_inv_at (nat_cmp (tag_of row.stamp) (tag_of s)) row from s kind content

abbrev pub with_acks : Pending → List Ack → Pending
with_acks p acks = record p { acks = acks }

-- ON ACK of the pending update's stamp, by whether each other is noted now.
abbrev pub noted_at : Bool → Row → Pending → Done
-- the last of the others: completes
noted_at true row p = completed row p
-- others are left: the note is kept
noted_at false row p = still (record row { pending = Some p })

abbrev pub noted : NodeId → List NodeId → Row → Pending → Done
noted me members row p = noted_at (all_noted me members p.acks) row p

-- by whether the letter's stamp is the pending update's, and whether its top is that stamp
abbrev pub on_ack_at : Bool → Bool → NodeId → List NodeId → Row → Pending → NodeId → Done
-- stamp is the pending's: notes the sender, its note exact where this or an earlier one had top equal to the stamp
on_ack_at true exact me members row p from = noted me members row (with_acks p (note_in from exact p.acks))
-- else: nothing
on_ack_at false exact me members row p from = still row

abbrev pub on_ack_pending : Option Pending → NodeId → List NodeId → Row → NodeId → Stamp → Stamp → Done
on_ack_pending (Some p) me members row from s top = on_ack_at (tag_of s == tag_of p.stamp) (tag_of top == tag_of s) me members row p from
-- no pending update: nothing
on_ack_pending None me members row from s top = still row

abbrev pub on_ack : NodeId → List NodeId → Row → NodeId → Stamp → Stamp → Done
on_ack me members row from s top = on_ack_pending row.pending me members row from s top

-- ON VAL of the row's stamp, by its state.
abbrev pub validated : State → Row → Row
-- Invalid: becomes Valid
validated Invalid row = record row { state = Valid }
-- Trans: `kept_val` true
validated Trans row = record row { kept_val = true }
-- else: nothing
validated Valid row = row
validated Write row = row
validated Replay row = row

-- on VAL of another stamp: nothing
abbrev pub on_val_at : Bool → Row → Row
on_val_at true row = validated row.state row
on_val_at false row = row

abbrev pub on_val : Row → Stamp → Row
on_val row s = on_val_at (tag_of row.stamp == tag_of s) row

-- RESEND, a pending update: INV of the pending to each other that is not noted
abbrev pub resend_at : Option Pending → Row → Done
resend_at (Some p) row = sends row NotAcked What.InvPending
resend_at None row = still row

abbrev pub resend : Row → Done
resend row = resend_at row.pending row

-- REPLAY, by the row's state.
abbrev pub replay_at : State → NodeId → List NodeId → Row → Done
-- Invalid: state Replay; pending with the row's stamp, kind and content and no call; goes out
replay_at Invalid me members row = started me members (record row { state = Replay }) (unnoted None row.stamp row.kind row.content)
-- else: nothing
replay_at Valid me members row = still row
replay_at Write me members row = still row
replay_at Replay me members row = still row
replay_at Trans me members row = still row

abbrev pub replay : NodeId → List NodeId → Row → Done
replay me members row = replay_at row.state me members row

-- ON VIEW, by whether there is a pending update.
abbrev pub on_view_at : Option Pending → NodeId → List NodeId → Row → Done
-- notes dropped; goes out to all others of the new view
on_view_at (Some p) me members row = started me members row (with_acks p [])
on_view_at None me members row = still row

abbrev pub on_view : NodeId → List NodeId → Row → Done
on_view me members row = on_view_at row.pending me members row

abbrev pub state_of_copy : Bool → State
state_of_copy true = Valid
state_of_copy false = Invalid

-- ON COPY ITEM of the row's stamp, by whether the giver was Valid and the row's state.
abbrev pub copied_same : Bool → State → Row → Row
-- giver Valid, row Invalid: becomes Valid
copied_same true Invalid row = record row { state = Valid }
-- else: nothing
copied_same true Valid row = row
copied_same true Write row = row
copied_same true Replay row = row
copied_same true Trans row = row
copied_same false state row = row

-- by how the row's stamp stands to the item's
abbrev pub on_copy_at : Ordering → Row → CopyItem → Row
-- item's stamp greater: takes it; Valid where the giver was Valid, else Invalid; `kept_val` false
on_copy_at Less row item = record {
  state = state_of_copy item.valid;
  stamp = item.stamp;
  kind = item.kind;
  content = item.content;
  kept_val = false;
  pending = None;
}
on_copy_at Equal row item = copied_same item.valid row.state row
-- item's stamp lower: nothing
on_copy_at Greater row item = row

abbrev pub on_copy : Row → CopyItem → Row
on_copy row item = on_copy_at (nat_cmp (tag_of row.stamp) (tag_of item.stamp)) row item
