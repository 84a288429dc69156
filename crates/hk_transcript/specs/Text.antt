-- How a transcript writes what a world shows: a line for each thing that happened.
use Rattle.std.specs.Prelude.{ℕ, ◌+◌, List, [], ◌∷◌, ◌++◌, Bool, true, false, Option, Some, None, codes, decimal}
use Rattle.hk_base.specs.declared.stamp.NodeId.{NodeId}
use Rattle.hk_base.specs.declared.stamp.Kind.{Kind}
use Rattle.hk_base.specs.declared.stamp.Kind.TheVariants as Kind
use Rattle.hk_base.specs.declared.stamp.Stamp.{Stamp}
use Rattle.hk_base.specs.declared.call.CallNo.{CallNo}
use Rattle.hk_base.specs.declared.call.Content.{Content}
use Rattle.hk_base.specs.declared.call.Answer.{Answer}
use Rattle.hk_base.specs.declared.call.Answer.TheVariants.{Found, Missing, Stored, Number, Exists, NotFound, NotNumber, NotStored, Deleted, Busy, Aborted, Exhausted}
use Rattle.hk_base.specs.declared.call.Why.{Why}
use Rattle.hk_base.specs.declared.call.Why.TheVariants.{Lease, Row}
use Rattle.hk_base.specs.declared.call.State.{State}
use Rattle.hk_base.specs.declared.call.State.TheVariants as state
use Rattle.hk_base.specs.declared.call.Reply.{Reply}
use Rattle.hk_base.specs.declared.view.View.{View}
use Rattle.hk_base.specs.declared.view.Ballot.{Ballot}
use Rattle.hk_base.specs.declared.view.Voted.{Voted}
use Rattle.hk_base.specs.declared.letter.CopyItem.{CopyItem}
use Rattle.hk_base.specs.declared.letter.Body.{Body}
use Rattle.hk_base.specs.declared.letter.Body.TheVariants.{Inv, Ack, Val, CopyAsk, CopyGive, LeaseAsk, LeaseGive, Prepare, Promise, Accept, Accepted, Chosen, Activate}
use Rattle.hk_base.specs.declared.letter.Letter.{Letter}
use Rattle.hk_event.specs.declared.refused.Refused.{Refused}
use Rattle.hk_event.specs.declared.refused.Refused.TheVariants.{NoActor, Crashed, NoLetter, Skew, ClockFalls, LeaseRuns, Managed, NoView, NotMember, Behind, NoSuchMember, LastMember, Full, NoNumbers, NotPast, Started}
use Rattle.hk_script.specs.Words.{word_of, actor_word}

-- ---- parts of lines
-- `VERSION.NODE`
abbrev pub stamp_text : Stamp → List ℕ
stamp_text s = decimal s.version ++ codes "." ++ decimal s.node

abbrev pub kind_text : Kind → List ℕ
kind_text Kind.Write = codes "write"
kind_text Kind.Rmw = codes "rmw"

-- `FLAGS DATA`, or `gone` where there is nothing
abbrev pub content_text : Option Content → List ℕ
content_text None = codes "gone"
content_text (Some c) = decimal c.flags ++ codes " " ++ word_of c.bytes

abbrev pub state_text : State → List ℕ
state_text state.Valid = codes "valid"
state_text state.Invalid = codes "invalid"
state_text state.Write = codes "write"
state_text state.Replay = codes "replay"
state_text state.Trans = codes "trans"

abbrev pub why_text : Why → List ℕ
why_text (Lease end now) = codes "lease " ++ decimal end ++ codes " " ++ decimal now
why_text (Row s stamp) = state_text s ++ codes " " ++ stamp_text stamp

unfoldable pub answer_text : Answer → List ℕ
answer_text (Found c tag) = codes "found " ++ decimal c.flags ++ codes " " ++ decimal tag ++ codes " " ++ word_of c.bytes
answer_text Missing = codes "missing"
answer_text Stored = codes "stored"
answer_text (Number n) = codes "number " ++ decimal n
answer_text Exists = codes "exists"
answer_text NotFound = codes "not-found"
answer_text NotNumber = codes "not-number"
answer_text NotStored = codes "not-stored"
answer_text Deleted = codes "deleted"
answer_text (Busy why) = codes "busy " ++ why_text why
answer_text (Aborted s) = codes "aborted " ++ stamp_text s
answer_text (Exhausted s) = codes "exhausted " ++ stamp_text s

unfoldable pub refusal_text : Refused → List ℕ
refusal_text NoActor = codes "no-actor"
refusal_text Crashed = codes "crashed"
refusal_text NoLetter = codes "no-letter"
refusal_text (Skew to other) = codes "skew " ++ decimal to ++ codes " " ++ decimal other
refusal_text (ClockFalls clock) = codes "clock-falls " ++ decimal clock
refusal_text (LeaseRuns node end) = codes "lease-runs " ++ decimal node.0 ++ codes " " ++ decimal end
refusal_text Managed = codes "managed"
refusal_text NoView = codes "no-view"
refusal_text NotMember = codes "not-member"
refusal_text (Behind held) = codes "behind " ++ decimal held
refusal_text NoSuchMember = codes "no-such-member"
refusal_text LastMember = codes "last-member"
refusal_text Full = codes "full"
refusal_text NoNumbers = codes "no-numbers"
refusal_text (NotPast node end) = codes "not-past " ++ decimal node.0 ++ codes " " ++ decimal end
refusal_text Started = codes "started"

-- `EPOCH:NEXT:` and the members, parted by commas
abbrev pub members_text : List NodeId → List ℕ
members_text [] = []
members_text (id ∷ []) = decimal id.0
members_text (id ∷ next ∷ ids) = decimal id.0 ++ codes "," ++ members_text (next ∷ ids)

abbrev pub view_text : View → List ℕ
view_text v = decimal v.epoch ++ codes ":" ++ decimal v.next ++ codes ":" ++ members_text v.members

-- `ROUND.MANAGER`
abbrev pub ballot_text : Ballot → List ℕ
ballot_text b = decimal b.round ++ codes "." ++ decimal b.manager

-- ---- letters
-- the key behind which a batch begins, `-` for the start
abbrev pub after_text : Option (List ℕ) → List ℕ
after_text None = codes "-"
after_text (Some key) = word_of key

abbrev pub valid_text : Bool → List ℕ
valid_text true = codes "valid"
valid_text false = codes "open"

abbrev pub copy_item_text : CopyItem → List ℕ
copy_item_text i = codes " " ++ word_of i.key ++ codes " " ++ stamp_text i.stamp ++ codes " " ++ kind_text i.kind ++ codes " " ++ valid_text i.valid ++ codes " " ++ content_text i.content

abbrev pub copy_items_text : List CopyItem → List ℕ
copy_items_text [] = []
copy_items_text (i ∷ items) = copy_item_text i ++ copy_items_text items

abbrev pub done_text : Bool → List ℕ
done_text true = codes "done"
done_text false = codes "more"

abbrev pub vote_text : Option Voted → List ℕ
vote_text None = codes "none"
vote_text (Some v) = ballot_text v.ballot ++ codes " " ++ view_text v.view

unfoldable pub body_text : Body → List ℕ
body_text (Inv key stamp kind content) = codes "inv " ++ word_of key ++ codes " " ++ stamp_text stamp ++ codes " " ++ kind_text kind ++ codes " " ++ content_text content
body_text (Ack key stamp top) = codes "ack " ++ word_of key ++ codes " " ++ stamp_text stamp ++ codes " " ++ stamp_text top
body_text (Val key stamp) = codes "val " ++ word_of key ++ codes " " ++ stamp_text stamp
body_text (CopyAsk after room) = codes "copyask " ++ after_text after ++ codes " " ++ decimal room
body_text (CopyGive after done items) = codes "copygive " ++ after_text after ++ codes " " ++ done_text done ++ copy_items_text items
body_text (LeaseAsk asked) = codes "leaseask"
body_text (LeaseGive end) = codes "leasegive " ++ decimal end
body_text (Prepare b) = codes "prepare " ++ ballot_text b
body_text (Promise b vote) = codes "promise " ++ ballot_text b ++ codes " " ++ vote_text vote
body_text (Accept b v) = codes "accept " ++ ballot_text b ++ codes " " ++ view_text v
body_text (Accepted b) = codes "accepted " ++ ballot_text b
body_text (Chosen v) = codes "chosen " ++ view_text v
body_text (Activate v) = codes "activate " ++ view_text v

-- ---- the lines of event i
-- letter m, which tells its sender's epoch
unfoldable pub send_text : ℕ → ℕ → Letter → List ℕ
send_text i m l = decimal i ++ codes " send " ++ decimal m ++ codes " " ++ actor_word l.from ++ codes ">" ++ actor_word l.to ++ codes " " ++ decimal l.epoch ++ codes " " ++ body_text l.body ++ codes "\n"

-- letters that are numbered from m
abbrev pub sends_text : ℕ → ℕ → List Letter → List ℕ
sends_text i m [] = []
sends_text i m (l ∷ letters) = send_text i m l ++ sends_text i (m + 1) letters

unfoldable pub reply_text : ℕ → Reply → List ℕ
reply_text i r = decimal i ++ codes " reply " ++ decimal r.call.0 ++ codes " " ++ answer_text r.answer ++ codes "\n"

abbrev pub replies_text : ℕ → List Reply → List ℕ
replies_text i [] = []
replies_text i (r ∷ replies) = reply_text i r ++ replies_text i replies

abbrev pub call_text : ℕ → Option CallNo → List ℕ
call_text i None = []
call_text i (Some call) = decimal i ++ codes " call " ++ decimal call.0 ++ codes "\n"

-- the view that was agreed, that a manager now holds, or that a node installed
abbrev pub view_line_text : ℕ → Option View → Option ℕ → Option NodeId → List ℕ
view_line_text i None chosen installed = []
view_line_text i (Some v) (Some m) installed = decimal i ++ codes " chosen m" ++ decimal m ++ codes " " ++ view_text v ++ codes "\n"
view_line_text i (Some v) None None = decimal i ++ codes " view " ++ view_text v ++ codes "\n"
view_line_text i (Some v) None (Some id) = decimal i ++ codes " installed " ++ decimal id.0 ++ codes " " ++ decimal v.epoch ++ codes "\n"

unfoldable pub refused_text : ℕ → Refused → List ℕ
refused_text i refused = decimal i ++ codes " refused " ++ refusal_text refused ++ codes "\n"

-- the numbers of events, calls and letters
unfoldable pub end_text : ℕ → ℕ → ℕ → List ℕ
end_text events calls letters = codes "end " ++ decimal events ++ codes " " ++ decimal calls ++ codes " " ++ decimal letters ++ codes "\n"
