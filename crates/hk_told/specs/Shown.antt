-- What a desk may tell of an ask, by what its pass has seen of the list of the key's cell: the list before the ask, and what was added in it.
use Rattle.std.specs.Prelude.{◌≡◌, ◌⊎◌, ℕ, ◌+◌, ◌≤◌, List, [], ◌∷◌, ◌++◌, true, Option, Some, None}
use Rattle.std.specs.Option.{IsSomeAnd}
use mathlib.Core.List.{IsPrefix}
use Rattle.hk_base.specs.declared.stamp.Stamp.{Stamp}
use Rattle.hk_base.specs.declared.stamp.Kind.{Kind}
use Rattle.hk_base.specs.declared.stamp.Kind.TheVariants.{Rmw}
use Rattle.hk_base.specs.declared.call.CallNo.{CallNo}
use Rattle.hk_base.specs.declared.call.Op.{Op}
use Rattle.hk_base.specs.declared.call.Answer.{Answer}
use Rattle.hk_base.specs.declared.call.Answer.TheVariants.{Stored, Number, Deleted, Aborted}
use Rattle.hk_base.specs.declared.call.Reply.{Reply}
use Rattle.hk_base.specs.declared.call.State.TheVariants.{Valid, Invalid, Write}
use Rattle.hk_base.specs.Register.{Acted, act}
use Rattle.hk_base.specs.Stamp.{tag_of}
use Rattle.hk_node.specs.declared.event.NodeEvent.TheVariants.{Call}
use Rattle.hk_node.specs.Node.{NodeState}
use Rattle.hk_node.specs.Calls.{kind_of, lease_end}
use Rattle.hk_node.specs.Stepped.{replies_of}
use Rattle.hk_node.specs.Steps.{node_step}
use Rattle.hk_node.specs.Rows.{Rows}
use Rattle.hk_node.specs.Sound.{IsNode}
use Rattle.hk_outside.specs.Desk.{answers, is_update}
use Rattle.hk_snap.specs.declared.rule.Publication.{Publication}
use Rattle.hk_snap.specs.Ends.{End}
use Rattle.hk_journal.specs.declared.step_entry.JournalEntry.{JournalEntry}
use Rattle.hk_told.specs.declared.ask.Ask.{Ask}
use Rattle.hk_told.specs.Lists.{is_open, is_write, next_past, row_in, register_of}
use Rattle.hk_told.specs.Steps.{AtOnce}
use Rattle.hk_told.specs.Held.{Begins, Followed, Asks, Lists, IsHeld, Grow, Show}

-- what the operation makes of the register that the key's last publication shows, under the tag of the new update
abbrev pub acted_on : Op → List ℕ → List Publication → Publication → Acted
acted_on op key list x = act op (register_of key list) (tag_of x.row.stamp)

-- In what was added the update of the call begins: its publication has the call's number, and holds what the operation makes of what the key held before.
pub record Begun (old grown : List Publication) (call : CallNo) (key : List ℕ) (op : Op) : Type 0 where
  pub before : List Publication
  pub x : Publication
  pub later : List Publication
  pub answer : Answer
  pub stands : grown ≡ before ++ x ∷ later
  pub of_key : x.key ≡ key
  pub number : x.call ≡ Some call
  pub changes : (acted_on op key (old ++ before) x).changed ≡ true
  pub acts : (acted_on op key (old ++ before) x).answer ≡ answer
  pub content : x.row.content ≡ (acted_on op key (old ++ before) x).register.content

-- It was complete at once, or the key's next publication that is neither Write nor Trans follows; for a read-modify-write with its stamp.
abbrev pub Ended : Kind → Publication → List Publication → Type 0
Ended kind x later = (x.row.state ≡ Valid)
    ⊎ ((x.row.state ≡ Write) × IsSomeAnd (next_past is_open x.key later) (λ y. kind ≡ Rmw → y.row.stamp ≡ x.row.stamp))

-- the update of the call ended, and this is its answer
abbrev pub Changed : List Publication → List Publication → CallNo → List ℕ → Op → Answer → Type 0
Changed old grown call key op answer = (b : Begun old grown call key op) × (b.answer ≡ answer) × Ended (kind_of op) b.x b.later

-- The update of the call, a read-modify-write, was given up for one with this stamp: the key's next publication that is not Write is Invalid, with the stamp.
abbrev pub GivenUp : List Publication → List Publication → CallNo → List ℕ → Op → Stamp → Type 0
GivenUp old grown call key op stamp = (b : Begun old grown call key op) × (kind_of op ≡ Rmw) × (b.x.row.state ≡ Write)
    × IsSomeAnd (next_past is_write b.x.key b.later) (λ y. (y.row.state ≡ Invalid) × (y.row.stamp ≡ stamp))

-- The table of what may be told, by a lease that ends at `end` where the node's clock is `now`, and another clock may be ahead by `skew`: of an update that
-- ended, of one that was given up, and at once of what the key's last publication shows.
abbrev pub Shown : List Publication → List Publication → CallNo → List ℕ → Op → ℕ → ℕ → ℕ → Answer → Type 0
Shown old grown call key op end now skew Stored = Changed old grown call key op Stored
Shown old grown call key op end now skew (Number value) = Changed old grown call key op (Number value)
Shown old grown call key op end now skew Deleted = Changed old grown call key op Deleted
Shown old grown call key op end now skew (Aborted stamp) = GivenUp old grown call key op stamp
Shown old grown call key op end now skew answer = AtOnce end now skew (row_in key (old ++ grown)) op answer

-- the update of the call has not ended in all that was seen
abbrev pub NotEnded : List Publication → List Publication → CallNo → List ℕ → Op → Type 0
NotEnded old grown call key op = (b : Begun old grown call key op) × (b.x.row.state ≡ Write) × (next_past is_open b.x.key b.later ≡ None)

-- ---- an ask of a desk: from what its pass had seen of the cell before to what it has seen after
-- The list begins with what the pass had seen, the pass made at least one load, and the answer is shown.
abbrev pub TellsShown : CallNo → List ℕ → Op → ℕ → ℕ → ℕ → End → End → Answer → Type 0
TellsShown call key op end now skew old new answer = (grown : List Publication) × (loads : ℕ) × (new.seen ≡ old.seen ++ grown) × (new.loads ≡ old.loads + loads) × (1 ≤ loads)
    × Shown old.seen grown call key op end now skew answer

-- the same of an update that had not ended after so many loads at least
abbrev pub TellsUnknown : CallNo → List ℕ → Op → ℕ → End → End → Type 0
TellsUnknown call key op turns old new = (grown : List Publication) × (loads : ℕ) × (new.seen ≡ old.seen ++ grown) × (new.loads ≡ old.loads + loads) × (turns ≤ loads)
    × NotEnded old.seen grown call key op

-- ---- by which steps it comes to that
-- The update of the call begins in the list, and waits.
pub record Started (list new : List Publication) (call : CallNo) (key : List ℕ) (ticket : ℕ) (op : Op) : Type 0 where
  pub front : List Publication
  pub x : Publication
  pub back : List Publication
  pub kept : Reply
  pub grown : new ≡ list ++ (front ++ x ∷ back)
  pub of_key : x.key ≡ key
  pub at_ticket : x.ticket ≡ ticket
  pub begins : Begins x kept
  pub number : kept.call ≡ call
  pub kind : x.row.kind ≡ kind_of op
  pub changes : (acted_on op key (list ++ front) x).changed ≡ true
  pub acts : (acted_on op key (list ++ front) x).answer ≡ kept.answer
  pub content : x.row.content ≡ (acted_on op key (list ++ front) x).register.content

-- What a call makes of the list, by the replies of its step: with none its update waits, else it is told at once, and this is shown.
abbrev pub BeginsIn : List Publication → List Publication → CallNo → List ℕ → ℕ → Op → ℕ → ℕ → ℕ → List Reply → Type 0
BeginsIn list new call key ticket op end now skew [] = Started list new call key ticket op
BeginsIn list new call key ticket op end now skew (reply ∷ replies) =
    (replies ≡ []) × (reply.call ≡ call) × ((grown : List Publication) × (new ≡ list ++ grown) × Shown list grown call key op end now skew reply.answer)

-- The step of a call, at a shard whose lists show its rows.
abbrev pub CallsBeginInLists : Type 0
CallsBeginInLists = (node : NodeState) (entry : JournalEntry) (call : CallNo) (key : List ℕ) (op : Op) (lists grown : Lists) (last : ℕ) →
    IsNode node → entry.event ≡ Call call key op → Grow lists grown node entry → Show node.rows lists last →
    BeginsIn (lists key) (grown key) call key entry.ticket op (lease_end node) node.clock node.skew (replies_of (node_step node entry.event))

-- what follows the beginning of the ticket's update at the key is as this answer, or its lack, tells
abbrev pub LooksAt : List Publication → List ℕ → ℕ → Option Answer → Type 0
LooksAt list key ticket told = (front more : List Publication) (x : Publication) (kept : Reply) → list ≡ front ++ x ∷ more → x.key ≡ key → x.ticket ≡ ticket → Begins x kept →
    Followed x more kept told

-- what an ask that is kept was told, its key's list shows
abbrev pub AsksAreShown : Type 0
AsksAreShown = (rows : Rows) (lists : Lists) (last : ℕ) (asks : Asks) (call : CallNo) (ask : Ask) → IsHeld rows lists last asks → asks call ≡ Some ask →
    LooksAt (lists ask.key) ask.key ask.ticket ask.told

-- A pass meets the writer, a call begins in the list, and the pass meets the writer again.
abbrev pub Starts : End → End → CallNo → List ℕ → ℕ → Op → ℕ → ℕ → ℕ → List Reply → Type 0
Starts old new call key ticket op end now skew replies =
    (first : List Publication) × IsPrefix old.seen first × BeginsIn first new.seen call key ticket op end now skew replies × (new.loads ≡ old.loads + 2)

-- a pass meets the writer, and the ask of the ticket was told this, or nothing
abbrev pub Looks : End → End → List ℕ → ℕ → Option Answer → Type 0
Looks old new key ticket told = IsPrefix old.seen new.seen × (new.loads ≡ old.loads + 1) × LooksAt new.seen key ticket told

-- the same after so many looks
abbrev pub LooksOn : ℕ → End → End → List ℕ → ℕ → Option Answer → Type 0
LooksOn turns old new key ticket told = IsPrefix old.seen new.seen × (new.loads ≡ old.loads + turns) × LooksAt new.seen key ticket told

-- looks are looks one after the other
abbrev pub LooksAreJoined : Type 0
LooksAreJoined = (turns : ℕ) (old mid new : End) (key : List ℕ) (ticket : ℕ) (told : Option Answer) →
    IsPrefix old.seen mid.seen → mid.loads ≡ old.loads + turns → Looks mid new key ticket told → LooksOn (turns + 1) old new key ticket told

-- what is told at once is shown
abbrev pub AtOnceIsShown : Type 0
AtOnceIsShown = (call : CallNo) (key : List ℕ) (ticket : ℕ) (op : Op) (end now skew : ℕ) (old new : End) (reply : Reply) →
    Starts old new call key ticket op end now skew (reply ∷ []) → TellsShown call key op end now skew old new reply.answer

-- what is told after looks is shown
abbrev pub AfterLooksIsShown : Type 0
AfterLooksIsShown = (call : CallNo) (key : List ℕ) (ticket : ℕ) (op : Op) (end now skew turns : ℕ) (old mid new : End) (answer : Answer) →
    Starts old mid call key ticket op end now skew [] → LooksOn turns mid new key ticket (Some answer) → TellsShown call key op end now skew old new answer

-- where nothing was told after so many looks, the update has not ended in all that was seen
abbrev pub UnknownIsShown : Type 0
UnknownIsShown = (call : CallNo) (key : List ℕ) (ticket : ℕ) (op : Op) (end now skew turns : ℕ) (old mid new : End) →
    Starts old mid call key ticket op end now skew [] → LooksOn turns mid new key ticket None → TellsUnknown call key op turns old new

-- what is shown suits its operation, and an unknown outcome is an update's
abbrev pub ShownSuits : Type 0
ShownSuits = (old grown : List Publication) (call : CallNo) (key : List ℕ) (op : Op) (end now skew : ℕ) (answer : Answer) →
    Shown old grown call key op end now skew answer → answers op answer ≡ true

abbrev pub UnknownSuits : Type 0
UnknownSuits = (old grown : List Publication) (call : CallNo) (key : List ℕ) (op : Op) → NotEnded old grown call key op → is_update op ≡ true
