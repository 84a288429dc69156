-- What a process reports of itself.
use Rattle.std.specs.Prelude.{◌≡◌, ℕ, ◌+◌, ◌-◌, ◌^◌, min, Bool, true, nat_lt, if◌then◌else◌, List, ◌++◌, take, Option, None, Some}
use Rattle.std.specs.List.{filter}
use Rattle.hk_base.specs.declared.stamp.NodeId.{NodeId}
use Rattle.hk_fields.specs.declared.tickets.Ticket.{Ticket}
use Rattle.hk_inside.specs.declared.report.NodeSeen.{NodeSeen}
use Rattle.hk_inside.specs.declared.report.Report.{Report}
use Rattle.hk_inside.specs.declared.report.ShardsTold.{ShardsTold}
use Rattle.hk_inside.specs.declared.inquiry.Inquiry.{Inquiry}
use Rattle.hk_shared_state.specs.declared.identity.Identity.{Identity}
use Rattle.hk_shared_state.specs.declared.standing.ShardsSeen.{ShardsSeen}
use Rattle.hk_shared_state.specs.declared.standing.Standing.{Standing}
use Rattle.hk_shared_state.specs.Seeking.{asks_of}

-- The greatest number says that there is none.
abbrev pub number_told : Option NodeId → Option NodeId
number_told None = None
number_told (Some node) = if nat_lt node.0 65535 then Some node else None

-- the manager of this place, once it is open
abbrev pub manager_told : Option Ticket → Option ℕ → Option ℕ
manager_told None place = None
manager_told (Some ticket) place = place

-- For how long a lease that ends then serves on: the node stops so much before the end as clocks may jump. A reading has 64
-- bits, and a report tells 32.
abbrev pub lease_left : ℕ → ℕ → ℕ → ℕ
lease_left end skew now = min (end - min (now + skew) (2 ^ 64 - 1)) 4294967295

abbrev pub shards_told : ShardsSeen → ℕ → ℕ → ShardsTold
shards_told seen skew now = record {
  ready = min seen.ready 8;
  least_epoch = seen.least_epoch;
  least_lease_left = lease_left seen.lease_end skew now;
}

-- an age that a report may tell, or none
abbrev pub is_age : Option ℕ → Bool
is_age None = true
is_age (Some age) = nat_lt age 4294967295

abbrev pub fits : NodeSeen → Bool
fits seen = is_age seen.age_of_ask

-- Those that asked the process's manager, and behind them those that leave an update of its node unacknowledged: one may be both. A report has room for 255.
abbrev pub nodes_told : List NodeSeen → List NodeSeen → List NodeSeen
nodes_told asks unacknowledged = take 255 (filter fits (asks ++ unacknowledged))

-- what a process tells that stands so at this reading
abbrev pub report_of : Identity → Standing → ℕ → Report
report_of i s now = record {
  ticket = i.ticket;
  node = number_told s.node;
  state = s.state;
  manager = manager_told s.manager i.place;
  records = s.records;
  shards = shards_told s.shards i.skew now;
  counts = s.counts;
  inside = i.inside;
  clients = i.clients;
  nodes = nodes_told s.asks s.unacknowledged;
}

-- it tells how the process stood at some moment of the call
abbrev pub IsReport : Identity → Report → Type 0
IsReport i report = (s : Standing) × (now : ℕ) × (report ≡ report_of i s now)

-- what a process asks of the manager of a place, as it stood at some moment of the call
abbrev pub IsAskedThen : Identity → ℕ → Option Inquiry → Type 0
IsAskedThen i place asked = (s : Standing) × (now : ℕ) × (asked ≡ asks_of s i place now)
