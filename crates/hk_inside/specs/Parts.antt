-- The parts of messages as bytes, which of them may stand in one, and what their types keep.
use Rattle.std.specs.Prelude.{ℕ, ◌<◌, ◌≤◌, ◌^◌, Bool, true, false, List, ◌∷◌, ◌++◌, length, All, IfSome, Option, None, Some, ⊤}
use Rattle.std.specs.Int.{w16, w32, w64, to_be_bytes}
use Rattle.std.specs.List.{flat_map}
use Rattle.hk_base.specs.declared.stamp.NodeId.{NodeId}
use Rattle.hk_fields.specs.Fields.{text_bytes, IsTicket, host_bytes, IsHostValue}
use Rattle.hk_inside.specs.declared.report.NodeState.{NodeState}
use Rattle.hk_inside.specs.declared.report.NodeState.TheVariants as states
use Rattle.hk_inside.specs.declared.report.ShardsTold.{ShardsTold}
use Rattle.hk_inside.specs.declared.report.Counts.{Counts}
use Rattle.hk_inside.specs.declared.report.NodeSeen.{NodeSeen}
use Rattle.hk_inside.specs.declared.report.Report.{Report}
use Rattle.hk_inside.specs.declared.board.Stage.{Stage}
use Rattle.hk_inside.specs.declared.board.Stage.TheVariants as stages
use Rattle.hk_inside.specs.declared.board.Party.{Party}
use Rattle.hk_inside.specs.declared.board.Party.TheVariants as parties
use Rattle.hk_inside.specs.declared.board.Mark.{Mark}
use Rattle.hk_inside.specs.declared.board.Mark.TheVariants as marks
use Rattle.hk_inside.specs.declared.board.BoardLine.{BoardLine}
use Rattle.hk_inside.specs.declared.board.Board.{Board}
use Rattle.hk_inside.specs.declared.inquiry.Leaver.{Leaver}
use Rattle.hk_inside.specs.declared.inquiry.Leaver.TheVariants as leavers
use Rattle.hk_inside.specs.declared.response.ManagerState.{ManagerState}

-- a text has 255 bytes at most, since its length stands in one byte
abbrev pub IsText : List ℕ → Type 0
IsText text = length text < 256

-- ---- who is to leave, how a manager stands

-- 0 and a node's number, or 1 and a host's place, each in 2 bytes
abbrev pub leaver_bytes : Leaver → List ℕ
leaver_bytes (leavers.Node node) = 0 ∷ to_be_bytes w16 node.0
leaver_bytes (leavers.Host place) = 1 ∷ to_be_bytes w16 place

abbrev pub IsLeaverValue : Leaver → Type 0
IsLeaverValue (leavers.Node node) = node.0 < 2 ^ 16
IsLeaverValue (leavers.Host place) = place < 2 ^ 8

abbrev pub IsLeaverInRange : Leaver → Type 0
IsLeaverInRange (leavers.Node node) = ⊤
IsLeaverInRange (leavers.Host place) = place < 9

abbrev pub stage_byte : Stage → ℕ
stage_byte stages.Empty = 0
stage_byte stages.Founded = 1
stage_byte stages.Open = 2

-- the founding, the stage and the place, the tickets of the host, and what it was founded with
abbrev pub state_bytes : ManagerState → List ℕ
state_bytes s = to_be_bytes w64 s.founding ++ (stage_byte s.stage ∷ s.place ∷ (host_bytes s.tickets ++ (to_be_bytes w32 s.lease ++ to_be_bytes w32 s.skew)))

pub record IsStateValue (s : ManagerState) : Type 0 where
  pub founding : s.founding < 2 ^ 64
  pub tickets : IsHostValue s.tickets
  pub lease : s.lease < 2 ^ 32
  pub skew : s.skew < 2 ^ 32

-- ---- reports

-- a node's number; 65,535 says that there is none
abbrev pub number_or_none : Option NodeId → ℕ
number_or_none None = 65535
number_or_none (Some node) = node.0

-- a manager's place; 255 says that there is none
abbrev pub place_or_none : Option ℕ → ℕ
place_or_none None = 255
place_or_none (Some place) = place

-- an age; the greatest number says that there is none
abbrev pub age_or_none : Option ℕ → ℕ
age_or_none None = 4294967295
age_or_none (Some age) = age

abbrev pub node_state_byte : NodeState → ℕ
node_state_byte states.Waiting = 0
node_state_byte states.Seated = 1
node_state_byte states.Copying = 2
node_state_byte states.Ready = 3
node_state_byte states.Leaving = 4

abbrev pub shards_bytes : ShardsTold → List ℕ
shards_bytes s = s.ready ∷ (to_be_bytes w64 s.least_epoch ++ to_be_bytes w32 s.least_lease_left)

abbrev pub counts_bytes : Counts → List ℕ
counts_bytes c =
    to_be_bytes w64 c.keys ++ (to_be_bytes w64 c.bytes ++ (to_be_bytes w64 c.gets ++ (to_be_bytes w64 c.sets ++ (to_be_bytes w64 c.busy ++ (to_be_bytes w64 c.aborted ++ to_be_bytes w64 c.unknown)))))

abbrev pub seen_bytes : NodeSeen → List ℕ
seen_bytes s = to_be_bytes w16 s.node.0 ++ (to_be_bytes w32 (age_or_none s.age_of_ask) ++ to_be_bytes w32 s.unacknowledged)

-- how many there are, in 1 byte, and each of them
abbrev pub nodes_bytes : List NodeSeen → List ℕ
nodes_bytes nodes = length nodes ∷ flat_map seen_bytes nodes

-- who reports: the ticket, the node's number in 2 bytes and its state in 1, the manager's place in 1, and its records in 8
abbrev pub who_bytes : Report → List ℕ
who_bytes r = r.ticket.0 ++ (to_be_bytes w16 (number_or_none r.node) ++ (node_state_byte r.state ∷ place_or_none r.manager ∷ to_be_bytes w64 r.records))

-- where it is reached, and which nodes it has seen
abbrev pub places_bytes : Report → List ℕ
places_bytes r = text_bytes r.inside ++ (text_bytes r.clients ++ nodes_bytes r.nodes)

abbrev pub report_bytes : Report → List ℕ
report_bytes r = who_bytes r ++ (shards_bytes r.shards ++ (counts_bytes r.counts ++ places_bytes r))

pub record IsShardsValue (s : ShardsTold) : Type 0 where
  pub ready : s.ready < 2 ^ 8
  pub least_epoch : s.least_epoch < 2 ^ 64
  pub least_lease_left : s.least_lease_left < 2 ^ 32

pub record IsCountsValue (c : Counts) : Type 0 where
  pub keys : c.keys < 2 ^ 64
  pub bytes : c.bytes < 2 ^ 64
  pub gets : c.gets < 2 ^ 64
  pub sets : c.sets < 2 ^ 64
  pub busy : c.busy < 2 ^ 64
  pub aborted : c.aborted < 2 ^ 64
  pub unknown : c.unknown < 2 ^ 64

pub record IsSeenValue (s : NodeSeen) : Type 0 where
  pub node : s.node.0 < 2 ^ 16
  pub unacknowledged : s.unacknowledged < 2 ^ 32

pub record IsReportValue (r : Report) : Type 0 where
  pub ticket : IsTicket r.ticket
  pub records : r.records < 2 ^ 64
  pub shards : IsShardsValue r.shards
  pub counts : IsCountsValue r.counts
  pub nodes : All IsSeenValue r.nodes

-- an age that is not the greatest number
abbrev pub IsSeenInRange : NodeSeen → Type 0
IsSeenInRange s = IfSome s.age_of_ask (λ age. age < 4294967295)

-- the node's number is not the greatest, managers are 0 to 8, shards are 8, and texts and the list are counted by one byte
pub record IsReportInRange (r : Report) : Type 0 where
  pub node : IfSome r.node (λ node. node.0 < 65535)
  pub manager : IfSome r.manager (λ place. place < 9)
  pub ready : r.shards.ready ≤ 8
  pub inside : IsText r.inside
  pub clients : IsText r.clients
  pub few : length r.nodes < 256
  pub nodes : All IsSeenInRange r.nodes

-- ---- boards

-- 0 and a node's number, 1 and a manager's place, or 2 and 0; the second in 2 bytes
abbrev pub party_bytes : Party → List ℕ
party_bytes (parties.Node node) = 0 ∷ to_be_bytes w16 node.0
party_bytes (parties.Manager place) = 1 ∷ to_be_bytes w16 place
party_bytes parties.Neither = 2 ∷ to_be_bytes w16 0

abbrev pub IsPartyValue : Party → Type 0
IsPartyValue (parties.Node node) = node.0 < 2 ^ 16
IsPartyValue (parties.Manager place) = place < 2 ^ 8
IsPartyValue parties.Neither = ⊤

abbrev pub IsPartyInRange : Party → Type 0
IsPartyInRange (parties.Node node) = ⊤
IsPartyInRange (parties.Manager place) = place < 9
IsPartyInRange parties.Neither = ⊤

abbrev pub mark_byte : Mark → ℕ
mark_byte marks.Bound = 0
mark_byte marks.Member = 1
mark_byte marks.ToLeave = 2
mark_byte marks.Out = 3

abbrev pub flag_byte : Bool → ℕ
flag_byte false = 0
flag_byte true = 1

abbrev pub line_bytes : BoardLine → List ℕ
line_bytes l = party_bytes l.party ++ (l.ticket.0 ++ (mark_byte l.mark ∷ flag_byte l.ready ∷ text_bytes l.inside))

-- how many there are, in 1 byte, and each of them
abbrev pub lines_bytes : List BoardLine → List ℕ
lines_bytes lines = length lines ∷ flat_map line_bytes lines

abbrev pub board_bytes : Board → List ℕ
board_bytes b = to_be_bytes w64 b.founding ++ (stage_byte b.stage ∷ (to_be_bytes w64 b.records ++ (to_be_bytes w16 b.managers_up ++ lines_bytes b.lines)))

pub record IsLineValue (l : BoardLine) : Type 0 where
  pub party : IsPartyValue l.party
  pub ticket : IsTicket l.ticket

pub record IsBoardValue (b : Board) : Type 0 where
  pub founding : b.founding < 2 ^ 64
  pub records : b.records < 2 ^ 64
  pub managers_up : b.managers_up < 2 ^ 16
  pub lines : All IsLineValue b.lines

pub record IsLineInRange (l : BoardLine) : Type 0 where
  pub party : IsPartyInRange l.party
  pub inside : IsText l.inside

pub record IsBoardInRange (b : Board) : Type 0 where
  pub few : length b.lines < 256
  pub lines : All IsLineInRange b.lines
