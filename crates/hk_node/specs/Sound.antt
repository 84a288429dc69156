-- What every node keeps, and which events a node may be given.
use Rattle.std.specs.Prelude.{◌≡◌, ◌≤◌, [], Bool, true, false, None, IfSome, ⊤}
use Rattle.std.specs.List.{AllByRecursion}
use Rattle.std.specs.List.Sorted.{IsStrictlySortedBy}
use Rattle.std.specs.Map.{keys_of}
use Rattle.hk_base.specs.declared.view.View.{View}
use Rattle.hk_base.specs.declared.time.TheConstants.{MAX_TIME}
use Rattle.hk_base.specs.View.{IsView, is_member}
use Rattle.hk_base.specs.Range.{IsLetter, IsRoom}
use Rattle.hk_copy.specs.Batches.{key_cmp}
use Rattle.hk_key.specs.Sound.{IsSound}
use Rattle.hk_node.specs.declared.event.NodeEvent.{NodeEvent}
use Rattle.hk_node.specs.declared.event.NodeEvent.TheVariants.{Call, Receive, Resend, Replay, AskLease, AskCopy, Tick, Grant, Install}
use Rattle.hk_node.specs.Rows.{is_touched}
use Rattle.hk_node.specs.Node.{NodeState, members_of}
use Rattle.hk_node.specs.Heard.{AreHeard}

-- it is a view, and the node is a member of it
pub record IsViewOf (node : NodeState) (view : View) : Type 0 where
  pub is_view : IsView view
  pub member : is_member node.id view.members ≡ true

pub record IsNode (node : NodeState) : Type 0 where
  pub view : IfSome node.view (λ view. IsViewOf node view)
  -- a node that has no view has no rows, and is not ready
  pub resting : node.view ≡ None → node.rows ≡ []
  pub unready : node.view ≡ None → node.ready ≡ false
  pub ordered : IsStrictlySortedBy key_cmp (keys_of node.rows)
  pub rows : AllByRecursion (λ r. IsSound node.id (members_of node) r.1) node.rows
  -- a row that no update has touched is not kept
  pub touched : AllByRecursion (λ r. is_touched r.1 ≡ true) node.rows
  -- a node that is not ready has no pending update
  pub shadow : node.ready ≡ false → AllByRecursion (λ r. r.1.pending ≡ None) node.rows
  -- clocks begin at 1
  pub clock_runs : 1 ≤ node.clock
  pub clock : node.clock ≤ MAX_TIME
  pub granted : node.granted ≤ MAX_TIME
  pub skew : node.skew ≤ MAX_TIME
  pub heard : AreHeard node.managers node.ends node.activated

-- letters are in range, a batch has 1 to 64 items, times are within the limit, and a view is one
abbrev pub IsNodeEvent : NodeEvent → Type 0
IsNodeEvent (Call call key op) = ⊤
IsNodeEvent (Receive letter) = IsLetter letter
IsNodeEvent (Resend key) = ⊤
IsNodeEvent (Replay key) = ⊤
IsNodeEvent (AskLease manager) = ⊤
IsNodeEvent (AskCopy from room) = IsRoom room
IsNodeEvent (Tick now) = now ≤ MAX_TIME
IsNodeEvent (Grant end) = end ≤ MAX_TIME
IsNodeEvent (Install view) = IsView view

-- the step of a clock and that of a lease take no memory
abbrev pub takes_memory : NodeEvent → Bool
takes_memory (Tick now) = false
takes_memory (Grant end) = false
takes_memory event = true
