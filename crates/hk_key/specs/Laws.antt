-- What holds of every step: it keeps what every row keeps; it changed a row in just the case that the test of sameness
-- tells; a row's stamp falls by none but begin, which gives it; and a call that waits is answered once.
use Rattle.std.specs.Prelude.{◌≡◌, ◌<◌, ◌≤◌, List, Option, Some, None, true, false}
use Rattle.hk_base.specs.declared.stamp.Stamp.{Stamp}
use Rattle.hk_base.specs.declared.stamp.NodeId.{NodeId}
use Rattle.hk_base.specs.declared.stamp.Kind.{Kind}
use Rattle.hk_base.specs.declared.call.Content.{Content}
use Rattle.hk_base.specs.declared.call.Reply.{Reply}
use Rattle.hk_base.specs.declared.call.State.TheVariants.{Invalid}
use Rattle.hk_base.specs.declared.letter.CopyItem.{CopyItem}
use Rattle.hk_key.specs.declared.row.Pending.{Pending}
use Rattle.hk_key.specs.declared.row.Row.{Row}
use Rattle.hk_key.specs.Sound.{IsSound, IsOther}
use Rattle.hk_key.specs.Same.{is_same_row}
use Rattle.hk_key.specs.Answered.{GoesOnOrIsAnswered, HadWaiting}
use Rattle.hk_base.specs.Range.{IsWithin, Leaves}
use Rattle.hk_base.specs.Stamp.{tag_of}
use Rattle.hk_key.specs.Table.{first_row, unnoted, still, begin, replay, on_inv, on_ack, on_val, on_view, on_copy, resend}

abbrev pub FirstIsSound : Type 0
FirstIsSound = (me : NodeId) (members : List NodeId) → IsSound me members first_row

-- an update begins above `0.0`
abbrev pub BeginIsSound : Type 0
BeginIsSound = (me : NodeId) (members : List NodeId) (reply : Reply) (s : Stamp) (kind : Kind) (content : Option Content) →
    IsWithin s → 0 < tag_of s → Leaves kind content → IsSound me members (begin me members reply s kind content).row

abbrev pub ReplayKeepsSound : Type 0
ReplayKeepsSound = (me : NodeId) (members : List NodeId) (row : Row) →
    IsSound me members row → IsSound me members (replay me members row).row

abbrev pub InvKeepsSound : Type 0
InvKeepsSound = (me : NodeId) (members : List NodeId) (row : Row) (from : NodeId) (s : Stamp) (kind : Kind) (content : Option Content) →
    IsWithin s → Leaves kind content → IsSound me members row → IsSound me members (on_inv row from s kind content).row

abbrev pub AckKeepsSound : Type 0
AckKeepsSound = (me : NodeId) (members : List NodeId) (row : Row) (from : NodeId) (s top : Stamp) →
    IsOther me members from → IsSound me members row → IsSound me members (on_ack me members row from s top).row

abbrev pub ValKeepsSound : Type 0
ValKeepsSound = (me : NodeId) (members : List NodeId) (row : Row) (s : Stamp) →
    IsSound me members row → IsSound me members (on_val row s)

-- a row that is sound in one view is sound in the next once that is installed
abbrev pub ViewKeepsSound : Type 0
ViewKeepsSound = (me : NodeId) (old members : List NodeId) (row : Row) →
    IsSound me old row → IsSound me members (on_view me members row).row

abbrev pub CopyKeepsSound : Type 0
CopyKeepsSound = (me : NodeId) (members : List NodeId) (row : Row) (item : CopyItem) →
    IsWithin item.stamp → Leaves item.kind item.content → IsSound me members row → IsSound me members (on_copy row item)

-- A row is the same as itself: where two are not the same, they differ.
abbrev pub EachIsSame : Type 0
EachIsSame = (row : Row) → is_same_row row row ≡ true

-- Where a step leaves a row the same, it leaves the very row, with its contents.
abbrev pub SameAfterInv : Type 0
SameAfterInv = (row : Row) (from : NodeId) (s : Stamp) (kind : Kind) (content : Option Content) →
    is_same_row row (on_inv row from s kind content).row ≡ true → (on_inv row from s kind content).row ≡ row

abbrev pub SameAfterAck : Type 0
SameAfterAck = (me : NodeId) (members : List NodeId) (row : Row) (from : NodeId) (s top : Stamp) →
    is_same_row row (on_ack me members row from s top).row ≡ true → (on_ack me members row from s top).row ≡ row

abbrev pub SameAfterVal : Type 0
SameAfterVal = (row : Row) (s : Stamp) → is_same_row row (on_val row s) ≡ true → on_val row s ≡ row

abbrev pub SameAfterView : Type 0
SameAfterView = (me : NodeId) (members : List NodeId) (row : Row) →
    is_same_row row (on_view me members row).row ≡ true → (on_view me members row).row ≡ row

abbrev pub SameAfterCopy : Type 0
SameAfterCopy = (row : Row) (item : CopyItem) → is_same_row row (on_copy row item) ≡ true → on_copy row item ≡ row

abbrev pub SameAfterReplay : Type 0
SameAfterReplay = (me : NodeId) (members : List NodeId) (row : Row) →
    is_same_row row (replay me members row).row ≡ true → (replay me members row).row ≡ row

-- to send again changes no row
abbrev pub ResendKeepsRow : Type 0
ResendKeepsRow = (row : Row) → (resend row).row ≡ row

-- an Invalid row that is replayed is not the same
abbrev pub ReplayChanges : Type 0
ReplayChanges = (me : NodeId) (members : List NodeId) (row : Row) →
    row.state ≡ Invalid → is_same_row row (replay me members row).row ≡ false

-- a row that begins an update of a stamp above its own is not the same
abbrev pub BeginChanges : Type 0
BeginChanges = (me : NodeId) (members : List NodeId) (row : Row) (reply : Reply) (s : Stamp) (kind : Kind) (content : Option Content) →
    tag_of row.stamp < tag_of s → is_same_row row (begin me members reply s kind content).row ≡ false

-- Each step but begin leaves a row's stamp or raises it; begin gives the row the stamp that it is passed.
abbrev pub BeginTakesStamp : Type 0
BeginTakesStamp = (me : NodeId) (members : List NodeId) (reply : Reply) (s : Stamp) (kind : Kind) (content : Option Content) →
    (begin me members reply s kind content).row.stamp ≡ s

abbrev pub ReplayNeverLowers : Type 0
ReplayNeverLowers = (me : NodeId) (members : List NodeId) (row : Row) → tag_of row.stamp ≤ tag_of (replay me members row).row.stamp

abbrev pub InvNeverLowers : Type 0
InvNeverLowers = (row : Row) (from : NodeId) (s : Stamp) (kind : Kind) (content : Option Content) →
    tag_of row.stamp ≤ tag_of (on_inv row from s kind content).row.stamp

abbrev pub AckNeverLowers : Type 0
AckNeverLowers = (me : NodeId) (members : List NodeId) (row : Row) (from : NodeId) (s top : Stamp) →
    tag_of row.stamp ≤ tag_of (on_ack me members row from s top).row.stamp

abbrev pub ValNeverLowers : Type 0
ValNeverLowers = (row : Row) (s : Stamp) → tag_of row.stamp ≤ tag_of (on_val row s).stamp

abbrev pub ViewNeverLowers : Type 0
ViewNeverLowers = (me : NodeId) (members : List NodeId) (row : Row) → tag_of row.stamp ≤ tag_of (on_view me members row).row.stamp

abbrev pub CopyNeverLowers : Type 0
CopyNeverLowers = (row : Row) (item : CopyItem) → tag_of row.stamp ≤ tag_of (on_copy row item).stamp

abbrev pub ResendNeverLowers : Type 0
ResendNeverLowers = (row : Row) → tag_of row.stamp ≤ tag_of (resend row).row.stamp

-- A sound row has a pending update with a call's reply: after the step it goes on with it, or the call is answered.
abbrev pub ReplayAnswersOrWaits : Type 0
ReplayAnswersOrWaits = (me : NodeId) (members : List NodeId) (row : Row) (p : Pending) (reply : Reply) →
    IsSound me members row → row.pending ≡ Some p → p.reply ≡ Some reply → GoesOnOrIsAnswered p reply (replay me members row)

abbrev pub InvAnswersOrWaits : Type 0
InvAnswersOrWaits = (me : NodeId) (members : List NodeId) (row : Row) (p : Pending) (reply : Reply) (from : NodeId) (s : Stamp) (kind : Kind) (content : Option Content) →
    IsSound me members row → row.pending ≡ Some p → p.reply ≡ Some reply → GoesOnOrIsAnswered p reply (on_inv row from s kind content)

abbrev pub AckAnswersOrWaits : Type 0
AckAnswersOrWaits = (me : NodeId) (members : List NodeId) (row : Row) (p : Pending) (reply : Reply) (from : NodeId) (s top : Stamp) →
    IsSound me members row → row.pending ≡ Some p → p.reply ≡ Some reply → GoesOnOrIsAnswered p reply (on_ack me members row from s top)

-- a VAL answers no call
abbrev pub ValAnswersOrWaits : Type 0
ValAnswersOrWaits = (me : NodeId) (members : List NodeId) (row : Row) (p : Pending) (reply : Reply) (s : Stamp) →
    IsSound me members row → row.pending ≡ Some p → p.reply ≡ Some reply → GoesOnOrIsAnswered p reply (still (on_val row s))

-- of a row that is sound in the view before
abbrev pub ViewAnswersOrWaits : Type 0
ViewAnswersOrWaits = (me : NodeId) (old members : List NodeId) (row : Row) (p : Pending) (reply : Reply) →
    IsSound me old row → row.pending ≡ Some p → p.reply ≡ Some reply → GoesOnOrIsAnswered p reply (on_view me members row)

abbrev pub ResendAnswersOrWaits : Type 0
ResendAnswersOrWaits = (me : NodeId) (members : List NodeId) (row : Row) (p : Pending) (reply : Reply) →
    IsSound me members row → row.pending ≡ Some p → p.reply ≡ Some reply → GoesOnOrIsAnswered p reply (resend row)

-- and the call of an update that is begun waits with it, or is answered
abbrev pub BeginAnswersOrWaits : Type 0
BeginAnswersOrWaits = (me : NodeId) (members : List NodeId) (reply : Reply) (s : Stamp) (kind : Kind) (content : Option Content) →
    GoesOnOrIsAnswered (unnoted (Some reply) s kind content) reply (begin me members reply s kind content)

-- A call that a step answers is the one that waited at the row.
abbrev pub InvAnswersWaiting : Type 0
InvAnswersWaiting = (row : Row) (from : NodeId) (s : Stamp) (kind : Kind) (content : Option Content) (told : Reply) →
    (on_inv row from s kind content).out.reply ≡ Some told → HadWaiting row told

abbrev pub AckAnswersWaiting : Type 0
AckAnswersWaiting = (me : NodeId) (members : List NodeId) (row : Row) (from : NodeId) (s top : Stamp) (told : Reply) →
    (on_ack me members row from s top).out.reply ≡ Some told → HadWaiting row told

abbrev pub ViewAnswersWaiting : Type 0
ViewAnswersWaiting = (me : NodeId) (members : List NodeId) (row : Row) (told : Reply) →
    (on_view me members row).out.reply ≡ Some told → HadWaiting row told

-- neither a replay nor what is sent again answers a call
abbrev pub ReplayAnswersNone : Type 0
ReplayAnswersNone = (me : NodeId) (members : List NodeId) (row : Row) → (replay me members row).out.reply ≡ None

abbrev pub ResendAnswersNone : Type 0
ResendAnswersNone = (row : Row) → (resend row).out.reply ≡ None

-- begin answers its own call or none
abbrev pub BeginAnswersOwn : Type 0
BeginAnswersOwn = (me : NodeId) (members : List NodeId) (reply : Reply) (s : Stamp) (kind : Kind) (content : Option Content) (told : Reply) →
    (begin me members reply s kind content).out.reply ≡ Some told → told ≡ reply
