-- What stands under a shard's lock beside the shard: the asks of updates that wait, and what they were told. What each of them keeps of its cell's list.
use Rattle.std.specs.Prelude.{◌≡◌, ◌≢◌, ◌⊎◌, ℕ, ◌<◌, ◌≤◌, List, [], ◌∷◌, ◌++◌, map, Option, Some, None, ◌==◌, if◌then◌else◌}
use Rattle.std.specs.Option.{IsSome, IsSomeAnd, option_or}
use Rattle.std.specs.List.{AllByRecursion}
use Rattle.hk_base.specs.declared.call.CallNo.{CallNo}
use Rattle.hk_base.specs.declared.call.Op.{Op}
use Rattle.hk_base.specs.declared.call.Answer.{Answer}
use Rattle.hk_base.specs.declared.call.Answer.TheVariants.{Aborted}
use Rattle.hk_base.specs.declared.call.Reply.{Reply}
use Rattle.hk_base.specs.declared.call.State.TheVariants.{Invalid, Write}
use Rattle.hk_base.specs.declared.stamp.Kind.TheVariants.{Rmw}
use Rattle.hk_key.specs.declared.row.Row.{Row}
use Rattle.hk_node.specs.Rows.{Rows, find_row, row_at}
use Rattle.hk_node.specs.Node.{NodeState}
use Rattle.hk_node.specs.Stepped.{replies_of}
use Rattle.hk_node.specs.Steps.{node_step}
use Rattle.hk_node.specs.Sound.{IsNode, IsNodeEvent}
use Rattle.hk_node.specs.Laws.{IsNoCall}
use Rattle.hk_node.specs.declared.event.NodeEvent.TheVariants.{Call}
use Rattle.hk_snap.specs.declared.rule.Publication.{Publication}
use Rattle.hk_snap.specs.Snapshots.{cell_of, published}
use Rattle.hk_journal.specs.declared.step_entry.JournalEntry.{JournalEntry}
use Rattle.hk_journal.specs.Journal.{ShownRow, after, published as shown_rows}
use Rattle.hk_told.specs.declared.ask.Ask.{Ask}
use Rattle.hk_told.specs.Moves.{WaitsFor, HasReply}
use Rattle.hk_told.specs.Lists.{is_open, is_write, next_past, last_row}

-- ---- what follows the beginning of an update
-- The publication shows the beginning of an update whose call waits, and is kept this reply.
pub record Begins (x : Publication) (kept : Reply) : Type 0 where
  pub number : x.call ≡ Some kept.call
  pub writes : x.row.state ≡ Write
  pub waits : WaitsFor x.row.stamp x.row.kind kept x.row

-- Nothing that follows has ended it. Of a read-modify-write nothing but Write follows.
pub record Open (x : Publication) (later : List Publication) : Type 0 where
  pub open_yet : next_past is_open x.key later ≡ None
  pub written : x.row.kind ≡ Rmw → next_past is_write x.key later ≡ None

-- It ended with the answer that was kept: a publication of its key follows that is neither Write nor Trans, the next one for a read-modify-write with its
-- stamp.
pub record Done (x : Publication) (later : List Publication) (kept : Reply) (answer : Answer) : Type 0 where
  pub same : answer ≡ kept.answer
  pub follows : IsSomeAnd (next_past is_open x.key later) (λ y. x.row.kind ≡ Rmw → y.row.stamp ≡ x.row.stamp)

-- It was given up: its key's next publication that is not Write is Invalid, with the stamp that is told.
pub record Dropped (x : Publication) (later : List Publication) (answer : Answer) : Type 0 where
  pub rmw : x.row.kind ≡ Rmw
  pub follows : IsSomeAnd (next_past is_write x.key later) (λ y. (y.row.state ≡ Invalid) × (answer ≡ Aborted y.row.stamp))

-- what follows it, by whether an answer was delivered
abbrev pub Followed : Publication → List Publication → Reply → Option Answer → Type 0
Followed x later kept None = Open x later
Followed x later kept (Some answer) = Done x later kept answer ⊎ Dropped x later answer

-- ---- asks
-- another publication than that of this key with this ticket
abbrev pub IsAnother : List ℕ → ℕ → Publication → Type 0
IsAnother key ticket p = (p.key ≢ key) ⊎ (p.ticket ≢ ticket)

-- An ask of the call, of which the list of its key's cell has the beginning, and what follows is as the ask says. While nothing was delivered, the row that
-- its key has now waits for it. No other publication of the key in the list has its ticket.
pub record Fits (list : List Publication) (row : Row) (call : CallNo) (ask : Ask) : Type 0 where
  pub before : List Publication
  pub x : Publication
  pub later : List Publication
  pub kept : Reply
  pub stands : list ≡ before ++ x ∷ later
  pub key : x.key ≡ ask.key
  pub ticket : x.ticket ≡ ask.ticket
  pub number : kept.call ≡ call
  pub begins : Begins x kept
  pub follows : Followed x later kept ask.told
  pub waits : ask.told ≡ None → WaitsFor x.row.stamp x.row.kind kept row
  pub alone_before : AllByRecursion (IsAnother ask.key ask.ticket) before
  pub alone_behind : AllByRecursion (IsAnother ask.key ask.ticket) later

-- the asks by the numbers of their calls
abbrev pub Asks : Type 0
Asks = CallNo → Option Ask

-- a key's list: that of its cell
abbrev pub Lists : Type 0
Lists = List ℕ → List Publication

-- the ask waits, and is of the key
abbrev pub IsWaitingAt : List ℕ → Ask → Type 0
IsWaitingAt key ask = (ask.told ≡ None) × (ask.key ≡ key)

-- The asks that a shard with these rows keeps, and these lists, in which no ticket is above the last: each fits its cell's list and its row; and each call that
-- waits at a row has its ask.
pub record IsHeld (rows : Rows) (lists : Lists) (last : ℕ) (asks : Asks) : Type 0 where
  pub fit : (call : CallNo) (ask : Ask) → asks call ≡ Some ask → Fits (lists ask.key) (row_at ask.key rows) call ask
  pub drawn : (call : CallNo) (ask : Ask) → asks call ≡ Some ask → ask.ticket ≤ last
  pub kept : (key : List ℕ) (reply : Reply) → HasReply reply (row_at key rows) → IsSomeAnd (asks reply.call) (IsWaitingAt key)

-- ---- what a step makes of them
-- the answer of the first of these replies that is the call's
abbrev pub answer_to : CallNo → List Reply → Option Answer
answer_to call [] = None
answer_to call (reply ∷ replies) = if reply.call.0 == call.0 then Some reply.answer else answer_to call replies

-- the ask of the call once these replies were delivered: one that waits is told its answer, and another keeps what it was told
abbrev pub heard : CallNo → List Reply → Option Ask → Option Ask
heard call replies None = None
heard call replies (Some ask) = Some (record ask { told = option_or ask.told (answer_to call replies) })

-- The asks once these replies were delivered: each was told, or is dropped since it was told something.
abbrev pub Delivers : List Reply → Asks → Asks → Type 0
Delivers replies asks new = (call : CallNo) → (new call ≡ heard call replies (asks call)) ⊎ ((new call ≡ None) × IsSomeAnd (heard call replies (asks call)) (λ ask. IsSome ask.told))

-- replies are delivered one after the other
abbrev pub DeliversInTurn : Type 0
DeliversInTurn = (reply : Reply) (replies : List Reply) (asks mid new : Asks) → Delivers (reply ∷ []) asks mid → Delivers replies mid new → Delivers (reply ∷ replies) asks new

-- what the step of an entry publishes in the cell of a key
abbrev pub shown_at : List ℕ → NodeState → JournalEntry → List Publication
shown_at key node entry = map (λ (s : ShownRow). published s.key s.row s.ticket s.call) (shown_rows (λ k. cell_of k == cell_of key) node (entry ∷ []))

-- the lists grow by what the step publishes
abbrev pub Grow : Lists → Lists → NodeState → JournalEntry → Type 0
Grow lists grown node entry = (key : List ℕ) → grown key ≡ lists key ++ shown_at key node entry

-- what each list has shows the row of its key, if it has one, and no ticket is above the last
pub record Show (rows : Rows) (lists : Lists) (last : ℕ) : Type 0 where
  pub covers : (key : List ℕ) → last_row key (lists key) None ≡ find_row key rows
  pub below : (key : List ℕ) → AllByRecursion (λ p. p.ticket ≤ last) (lists key)

-- A step that is no call keeps the asks, once its rows are published and then its replies are delivered.
abbrev pub StepsKeepAsks : Type 0
StepsKeepAsks = (node : NodeState) (entry : JournalEntry) (lists grown : Lists) (last : ℕ) (asks new : Asks) →
    IsNode node → IsNodeEvent entry.event → IsNoCall entry.event → last < entry.ticket → Grow lists grown node entry →
    Delivers (replies_of (node_step node entry.event)) asks new →
    IsHeld node.rows lists last asks → IsHeld (after node entry).rows grown entry.ticket new

-- an ask of the key that has just begun
abbrev pub IsNewAsk : List ℕ → ℕ → Ask → Type 0
IsNewAsk key ticket ask = (ask.key ≡ key) × (ask.ticket ≡ ticket) × (ask.told ≡ None)

-- the call has this ask, and all others what they had
abbrev pub IsWith : CallNo → Ask → Asks → Asks → Type 0
IsWith call ask asks new = (new call ≡ Some ask) × ((other : CallNo) → other ≢ call → new other ≡ asks other)

-- A call keeps the asks: one that is answered at once leaves them, and one whose update waits has an ask.
abbrev pub CallsKeepAsks : Type 0
CallsKeepAsks = (node : NodeState) (entry : JournalEntry) (call : CallNo) (key : List ℕ) (op : Op) (lists grown : Lists) (last : ℕ) (asks new : Asks) →
    IsNode node → entry.event ≡ Call call key op → asks call ≡ None → last < entry.ticket → Grow lists grown node entry → Show node.rows lists last →
    (((reply : Reply) × (replies_of (node_step node entry.event) ≡ reply ∷ [])) × ((other : CallNo) → new other ≡ asks other))
    ⊎ ((replies_of (node_step node entry.event) ≡ []) × ((ask : Ask) × IsNewAsk key entry.ticket ask × IsWith call ask asks new)) →
    IsHeld node.rows lists last asks → IsHeld (after node entry).rows grown entry.ticket new

-- Asks that were told something may be dropped, at any time; the others stay, as far as it matters here.
pub record AreFewer (asks new : Asks) : Type 0 where
  pub had : (call : CallNo) (ask : Ask) → new call ≡ Some ask → IsSomeAnd (asks call) (λ old. (old.key ≡ ask.key) × (old.ticket ≡ ask.ticket) × (old.told ≡ ask.told))
  pub waits : (call : CallNo) (ask : Ask) → asks call ≡ Some ask → ask.told ≡ None → IsSomeAnd (new call) (IsWaitingAt ask.key)

abbrev pub DropsKeepAsks : Type 0
DropsKeepAsks = (rows : Rows) (lists : Lists) (last : ℕ) (asks new : Asks) → AreFewer asks new → IsHeld rows lists last asks → IsHeld rows lists last new

-- a shard that begins with no update waiting keeps no asks
abbrev pub NoneAreHeld : Type 0
NoneAreHeld = (rows : Rows) (lists : Lists) (last : ℕ) (asks : Asks) → ((key : List ℕ) → (row_at key rows).pending ≡ None) → ((call : CallNo) → asks call ≡ None) →
    IsHeld rows lists last asks
