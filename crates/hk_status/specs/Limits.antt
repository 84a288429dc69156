-- How long a status gets.
use Rattle.std.specs.Prelude.{ℕ, ◌<◌, ◌≤◌, ◌^◌, List, length, All, IfSome}
use Rattle.hk_base.specs.declared.view.View.{View}
use Rattle.hk_inside.specs.declared.report.Counts.{Counts}
use Rattle.hk_inside.specs.declared.report.ShardsTold.{ShardsTold}
use Rattle.hk_status.specs.declared.status.ManagerLine.{ManagerLine}
use Rattle.hk_status.specs.declared.status.NodeTold.{NodeTold}
use Rattle.hk_status.specs.declared.status.NodeLine.{NodeLine}
use Rattle.hk_status.specs.declared.status.WaitLine.{WaitLine}
use Rattle.hk_status.specs.declared.status.GroupStatus.{GroupStatus}
use Rattle.hk_status.specs.Lines.{status_text}

-- as each number of a status, by its type
abbrev pub IsNumber : ℕ → Type 0
IsNumber n = n < 2 ^ 64

-- as the addresses that the program takes
abbrev pub IsAddress : List ℕ → Type 0
IsAddress address = length address ≤ 64

pub record IsSmallManager (m : ManagerLine) : Type 0 where
  pub place : IsNumber m.place
  pub inside : IsAddress m.inside
  pub age : IfSome m.age (λ age. IsNumber age)
  pub records : IfSome m.records (λ records. IsNumber records)

pub record IsSmallView (v : View) : Type 0 where
  pub epoch : IsNumber v.epoch
  pub few : length v.members ≤ 16
  pub members : All (λ member. IsNumber member.0) v.members
  pub next : IsNumber v.next

pub record AreSmallShards (s : ShardsTold) : Type 0 where
  pub ready : IsNumber s.ready
  pub least_epoch : IsNumber s.least_epoch
  pub least_lease_left : IsNumber s.least_lease_left

pub record AreSmallCounts (c : Counts) : Type 0 where
  pub keys : IsNumber c.keys
  pub bytes : IsNumber c.bytes
  pub gets : IsNumber c.gets
  pub sets : IsNumber c.sets
  pub busy : IsNumber c.busy
  pub aborted : IsNumber c.aborted
  pub unknown : IsNumber c.unknown

pub record IsSmallTold (t : NodeTold) : Type 0 where
  pub manager : IfSome t.manager (λ place. IsNumber place)
  pub clients : IsAddress t.clients
  pub shards : AreSmallShards t.shards
  pub counts : AreSmallCounts t.counts

pub record IsSmallNode (n : NodeLine) : Type 0 where
  pub number : IsNumber n.node.0
  pub inside : IsAddress n.inside
  pub told : IfSome n.told (λ told. IsSmallTold told)

pub record IsSmallWait (w : WaitLine) : Type 0 where
  pub node : IsNumber w.node.0
  pub other : IsNumber w.other.0
  pub time : IsNumber w.time

-- A group with 9 managers, eight shards with at most 16 members, 64 nodes of which each may wait for others, and 64
-- processes that wait for a number.
pub record IsSmall (s : GroupStatus) : Type 0 where
  pub group : length s.group ≤ 32
  pub founding : IfSome s.founding (λ founding. IsNumber founding)
  pub lease : IsNumber s.lease
  pub skew : IsNumber s.skew
  pub few_managers : length s.managers ≤ 9
  pub managers : All IsSmallManager s.managers
  pub few_views : length s.views ≤ 8
  pub views : All IsSmallView s.views
  pub few_nodes : length s.nodes ≤ 64
  pub nodes : All IsSmallNode s.nodes
  pub few_waits : length s.waits ≤ 256
  pub waits : All IsSmallWait s.waits
  pub few_waiting : length s.waiting ≤ 64
  pub waiting : All IsAddress s.waiting

-- The status of such a group fits the message that carries it.
abbrev pub SmallStatusesFit : Type 0
SmallStatusesFit = (s : GroupStatus) → IsSmall s → length (status_text s) ≤ 65000
