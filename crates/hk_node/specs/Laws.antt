-- What holds of every step of a node.
use Rattle.std.specs.Prelude.{◌≡◌, ◌≢◌, ◌≤◌, ◌<◌, ◌⊎◌, ⊤, ℕ, List, [], ◌∷◌, Option, Some, None}
use Rattle.std.specs.Option.{IsSomeAnd}
use Rattle.std.specs.List.{AllByRecursion}
use Rattle.std.specs.List.Sorted.{IsStrictlySortedBy}
use Rattle.std.specs.Map.{keys_of}
use Rattle.hk_base.specs.Range.{IsLetter}
use Rattle.hk_base.specs.Stamp.{tag_of}
use Rattle.hk_base.specs.declared.stamp.Stamp.{Stamp}
use Rattle.hk_base.specs.declared.call.CallNo.{CallNo}
use Rattle.hk_base.specs.declared.call.Op.{Op}
use Rattle.hk_base.specs.declared.call.Answer.{Answer}
use Rattle.hk_base.specs.declared.call.Reply.{Reply}
use Rattle.hk_base.specs.declared.call.State.TheVariants.{Valid, Invalid, Write, Trans}
use Rattle.hk_base.specs.declared.letter.Body.{Body}
use Rattle.hk_base.specs.declared.letter.Body.TheVariants.{Inv, Ack, Val}
use Rattle.hk_copy.specs.Batches.{key_cmp}
use Rattle.hk_key.specs.declared.row.Pending.{Pending}
use Rattle.hk_key.specs.declared.row.Row.{Row}
use Rattle.hk_key.specs.Answered.{IsToldFor, HadWaiting}
use Rattle.hk_node.specs.declared.event.NodeEvent.{NodeEvent}
use Rattle.hk_node.specs.declared.event.NodeEvent.TheVariants.{Call, Receive, Resend, Replay}
use Rattle.hk_node.specs.Rows.{Rows, find_row, row_at, with_row}
use Rattle.hk_node.specs.Report.{AreChanged, changed_rows}
use Rattle.hk_node.specs.Node.{NodeState}
use Rattle.hk_node.specs.Stepped.{Stepped}
use Rattle.hk_node.specs.Steps.{node_step}
use Rattle.hk_node.specs.Sound.{IsNode, IsNodeEvent}

-- a step keeps what every node keeps
abbrev pub StepKeepsNode : Type 0
StepKeepsNode = (node : NodeState) (event : NodeEvent) → IsNode node → IsNodeEvent event → IsNode (node_step node event).node

-- a node sends only letters that are in range
abbrev pub LettersInRange : Type 0
LettersInRange = (node : NodeState) (event : NodeEvent) → IsNode node → IsNodeEvent event → AllByRecursion IsLetter (node_step node event).letters

-- the report of a step has just the rows that it changed
abbrev pub ReportsAreExact : Type 0
ReportsAreExact = (node : NodeState) (event : NodeEvent) → IsNode node → IsNodeEvent event →
    AreChanged (changed_rows node.rows (node_step node event).node.rows) node.rows (node_step node event).node.rows

-- a row that stands there already may be left alone
abbrev pub SamePutIsIdle : Type 0
SamePutIsIdle = (key : List ℕ) (rows : Rows) → IsStrictlySortedBy key_cmp (keys_of rows) → with_row key (row_at key rows) rows ≡ rows

abbrev pub key_in : Body → Option (List ℕ)
key_in (Inv key s kind content) = Some key
key_in (Ack key s top) = Some key
key_in (Val key s) = Some key
key_in body = None

-- the key that an event names
abbrev pub key_of : NodeEvent → Option (List ℕ)
key_of (Call call key op) = Some key
key_of (Receive letter) = key_in letter.body
key_of (Resend key) = Some key
key_of (Replay key) = Some key
key_of event = None

-- an event that names a key changes no other row
abbrev pub ChangesOneRow : Type 0
ChangesOneRow = (node : NodeState) (event : NodeEvent) (key other : List ℕ) → key_of event ≡ Some key → other ≢ key →
    find_row other (node_step node event).node.rows ≡ find_row other node.rows

-- The stamp of a row never falls. A node's number is below 65,536, as its type has it: one call at a key relies on it, that its
-- next stamp is above the row's.
abbrev pub StampsNeverFall : Type 0
StampsNeverFall = (node : NodeState) (event : NodeEvent) (key : List ℕ) → IsNode node → IsNodeEvent event → (row_at key node.rows).stamp.node < 65536 →
    tag_of (row_at key node.rows).stamp ≤ tag_of (row_at key (node_step node event).node.rows).stamp

-- a call that changes its row raises the row's stamp
abbrev pub BeginRaises : Type 0
BeginRaises = (node : NodeState) (call : CallNo) (key : List ℕ) (op : Op) → IsNode node → (row_at key node.rows).stamp.node < 65536 →
    row_at key (node_step node (Call call key op)).node.rows ≢ row_at key node.rows →
    tag_of (row_at key node.rows).stamp < tag_of (row_at key (node_step node (Call call key op)).node.rows).stamp

-- among what is told is the answer of this key's kept reply, as it was kept or Aborted
abbrev pub Tells : List ℕ → Reply → List (List ℕ × Reply) → Type 0
Tells key kept [] = ⊥
Tells key kept (t ∷ told) = ((t.0 ≡ key) × IsToldFor kept t.1) ⊎ Tells key kept told

-- the update of the stamp is pending at the row, with its reply
pub record IsWaiting (row : Row) (s : Stamp) (reply : Reply) : Type 0 where
  pub update : IsSomeAnd row.pending (λ q. (q.stamp ≡ s) × (q.reply ≡ Some reply))
  pub state : (row.state ≡ Write) ⊎ (row.state ≡ Trans)

-- the call of the reply is told at the key, and no update of the row is pending
pub record IsToldAt (stepped : Stepped) (key : List ℕ) (reply : Reply) : Type 0 where
  pub told : Tells key reply stepped.told
  pub gone : (row_at key stepped.node.rows).pending ≡ None
  pub state : ((row_at key stepped.node.rows).state ≡ Valid) ⊎ ((row_at key stepped.node.rows).state ≡ Invalid)

-- a call that waits waits on, or is told
abbrev pub CallsWaitOrAreAnswered : Type 0
CallsWaitOrAreAnswered = (node : NodeState) (event : NodeEvent) (key : List ℕ) (p : Pending) (reply : Reply) → IsNode node → IsNodeEvent event →
    (row_at key node.rows).pending ≡ Some p → p.reply ≡ Some reply →
    IsWaiting (row_at key (node_step node event).node.rows) p.stamp reply ⊎ IsToldAt (node_step node event) key reply

abbrev pub IsNoCall : NodeEvent → Type 0
IsNoCall (Call call key op) = ⊥
IsNoCall event = ⊤

-- an event other than a call tells nothing at the key of a call that waits on: so no call is told before its update's end
abbrev pub WaitingIsUntold : Type 0
WaitingIsUntold = (node : NodeState) (event : NodeEvent) (key : List ℕ) (p : Pending) (reply : Reply) → IsNode node → IsNodeEvent event → IsNoCall event →
    (row_at key node.rows).pending ≡ Some p → p.reply ≡ Some reply →
    (IsWaiting (row_at key (node_step node event).node.rows) p.stamp reply × AllByRecursion (λ t. t.0 ≢ key) (node_step node event).told)
    ⊎ IsToldAt (node_step node event) key reply

-- the call is answered, and nothing else is
abbrev pub IsAnsweredAlone : List ℕ → CallNo → Stepped → Type 0
IsAnsweredAlone key call stepped = (answer : Answer) × (stepped.told ≡ (key, record { call = call; answer = answer }) ∷ [])

-- nothing is answered, and an update of the call is pending at the row
pub record HasBegun (stepped : Stepped) (key : List ℕ) (call : CallNo) : Type 0 where
  pub silent : stepped.told ≡ []
  pub update : IsSomeAnd (row_at key stepped.node.rows).pending (λ q. IsSomeAnd q.reply (λ kept. kept.call ≡ call))

-- a call is answered at once, or its update waits
abbrev pub CallsAreTaken : Type 0
CallsAreTaken = (node : NodeState) (call : CallNo) (key : List ℕ) (op : Op) → IsNode node →
    IsAnsweredAlone key call (node_step node (Call call key op)) ⊎ HasBegun (node_step node (Call call key op)) key call

-- whatever another event tells was the call of its key's pending update
abbrev pub ToldWereWaiting : Type 0
ToldWereWaiting = (node : NodeState) (event : NodeEvent) → IsNode node → IsNodeEvent event → IsNoCall event →
    AllByRecursion (λ t. HadWaiting (row_at t.0 node.rows) t.1) (node_step node event).told

-- what a step tells stands in key order, one reply at most for a key
abbrev pub ToldInOrder : Type 0
ToldInOrder = (node : NodeState) (event : NodeEvent) → IsNode node → IsNodeEvent event → IsStrictlySortedBy key_cmp (keys_of (node_step node event).told)
