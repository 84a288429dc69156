-- What a manager keeps of what it was told, and what each call makes of it. Readings and ages are in milliseconds, and
-- a list has in front what came last.
use Rattle.std.specs.Prelude.{◌≡◌, ◌≤◌, ⊤, ℕ, ◌+◌, ◌-◌, min, max, Bool, true, false, not, ◌&&◌, ◌==◌, nat_eq, nat_lt, if◌then◌else◌, List, [], ◌∷◌, length, take, replicate, slice_set, slice_index, slice_index_or, Option, None, Some}
use Rattle.std.specs.Cmp.Lexicographic.{pointwise}
use Rattle.std.specs.List.{filter, find, list_any}
use Rattle.hk_base.specs.declared.stamp.NodeId.{NodeId}
use Rattle.hk_fields.specs.declared.tickets.Ticket.{Ticket}
use Rattle.hk_inside.specs.declared.report.NodeState.{NodeState}
use Rattle.hk_inside.specs.declared.report.NodeState.TheVariants.{Waiting, Seated, Copying, Ready, Leaving}
use Rattle.hk_inside.specs.declared.report.Report.{Report}
use Rattle.hk_reports.specs.declared.kept.AskCame.{AskCame}
use Rattle.hk_reports.specs.declared.kept.Came.{Came}
use Rattle.hk_reports.specs.declared.kept.NumberKept.{NumberKept}
use Rattle.hk_reports.specs.declared.kept.Proposed.{Proposed}
use Rattle.hk_reports.specs.declared.kept.SeatGiven.{SeatGiven}
use Rattle.hk_reports.specs.declared.reports.TheConstants.{MOST_PROCESSES, IN_VAIN_FOR}

-- what is kept
pub record ReportsState : Type 0 where
  -- the reading at which this process began
  pub start : ℕ
  -- the reading at which a process told last that its node is ready
  pub ready_at : ℕ
  -- the last report of each ticket
  pub came : List Came
  -- by places of managers, the most records that reports told of the log there
  pub records : List ℕ
  -- each number of a node that was bound or asked
  pub numbers : List NumberKept
  -- by shards, what this manager proposed last
  pub proposed : List Proposed
  -- the addresses of newcomers that have not become ready since their number was given
  pub seats : List SeatGiven

-- how long ago that was
abbrev pub age : ℕ → ℕ → ℕ
age now at = now - at

abbrev pub state : ℕ → ℕ → List Came → List ℕ → List NumberKept → List Proposed → List SeatGiven → ReportsState
state start ready_at came records numbers proposed seats =
    record { start = start; ready_at = ready_at; came = came; records = records; numbers = numbers; proposed = proposed; seats = seats }

-- no change was proposed of any view
abbrev pub none_proposed : Proposed
none_proposed = record { epoch = 0; count = 0; at = 0 }

-- nothing was told yet, and nothing proposed
abbrev pub at_first : ℕ → ReportsState
at_first start = state start start [] (replicate 9 0) [] (replicate 8 none_proposed) []

-- at most 64 of anything are kept
abbrev pub IsFew : {X : Type 0} → List X → Type 0
IsFew xs = length xs ≤ MOST_PROCESSES

abbrev pub AreFew : List Came → List NumberKept → List SeatGiven → Type 0
AreFew came numbers seats = IsFew came × IsFew numbers × IsFew seats

-- ---- reports

abbrev pub same_ticket : Ticket → Ticket → Bool
same_ticket one other = pointwise nat_eq one.0 other.0

abbrev pub is_of : Ticket → Came → Bool
is_of ticket came = same_ticket came.report.ticket ticket

-- the reports of other tickets
abbrev pub other_reports : Ticket → List Came → List Came
other_reports ticket came = filter (λ c. not (is_of ticket c)) came

-- The report is the last one of its ticket. Where there is no room, what came longest ago goes.
abbrev pub with_report : Came → List Came → List Came
with_report last came = take MOST_PROCESSES (last ∷ other_reports last.report.ticket came)

-- the most records of a manager, where a report tells of its log
abbrev pub most_told : Option ℕ → ℕ → List ℕ → List ℕ
most_told None records most = most
most_told (Some place) records most =
    if nat_lt place 9 then slice_set most place (max (slice_index most place) records) else most

abbrev pub is_ready_state : NodeState → Bool
is_ready_state Waiting = false
is_ready_state Seated = false
is_ready_state Copying = false
is_ready_state Ready = true
is_ready_state Leaving = false

abbrev pub is_at : List ℕ → SeatGiven → Bool
is_at inside seat = pointwise nat_eq seat.inside inside

abbrev pub other_seats : List ℕ → List SeatGiven → List SeatGiven
other_seats inside seats = filter (λ seat. not (is_at inside seat)) seats

-- At the address of a process that is ready no number was given in vain.
abbrev pub still_in_vain : Report → List SeatGiven → List SeatGiven
still_in_vain report seats = if is_ready_state report.state then other_seats report.inside seats else seats

-- when a process told last that its node is ready
abbrev pub last_ready : ℕ → Report → ℕ → ℕ
last_ready now report before = if is_ready_state report.state then now else before

-- no ticket has two reports
abbrev pub AreOneEach : List Came → Type 0
AreOneEach [] = ⊤
AreOneEach (c ∷ came) = (find (is_of c.report.ticket) came ≡ None) × AreOneEach came

-- a report came
abbrev pub reported : ℕ → Report → ReportsState → ReportsState
reported now report s =
    record s {
      ready_at = last_ready now report s.ready_at;
      came = with_report (record { report = report; at = now }) s.came;
      records = most_told report.manager report.records s.records;
      seats = still_in_vain report s.seats;
    }

-- ---- numbers of nodes

abbrev pub is_number : NodeId → NumberKept → Bool
is_number node number = number.node.0 == node.0

abbrev pub other_numbers : NodeId → List NumberKept → List NumberKept
other_numbers node numbers = filter (λ n. not (is_number node n)) numbers

-- This is what is known of its number. Where there is no room, that one goes of which nothing came for the longest
-- time.
abbrev pub with_number : NumberKept → List NumberKept → List NumberKept
with_number number numbers = take MOST_PROCESSES (number ∷ other_numbers number.node numbers)

-- of a number of which nothing is known
abbrev pub number_or : NodeId → Option NumberKept → NumberKept
number_or node None = record { node = node; bound = None; asks = replicate 8 None }
number_or node (Some number) = number

abbrev pub number_of : NodeId → List NumberKept → NumberKept
number_of node numbers = number_or node (find (is_number node) numbers)

-- the ask is the last one of the number in the shard
abbrev pub with_ask : ℕ → AskCame → NumberKept → NumberKept
with_ask shard ask number = record number { asks = slice_set number.asks shard (Some ask) }

-- a node asked for a lease in a shard
abbrev pub asked : ℕ → ℕ → NodeId → ℕ → ReportsState → ReportsState
asked now shard node epoch s =
    let ask : AskCame = record { epoch = epoch; at = now } in
    record s { numbers = with_number (with_ask shard ask (number_of node s.numbers)) s.numbers }

abbrev pub with_bound : ℕ → NumberKept → NumberKept
with_bound now number = record number { bound = Some now }

-- the number that was given so is another process's
abbrev pub is_lost_to : NodeId → Ticket → SeatGiven → Bool
is_lost_to node ticket seat = (seat.node.0 == node.0) && not (same_ticket seat.ticket ticket)

abbrev pub still_theirs : NodeId → Ticket → List SeatGiven → List SeatGiven
still_theirs node ticket seats = filter (λ seat. not (is_lost_to node ticket seat)) seats

-- A number was bound to a process. To any other one it was not given in vain: that never had it.
abbrev pub bound_at : ℕ → NodeId → Ticket → ReportsState → ReportsState
bound_at now node ticket s =
    record s { numbers = with_number (with_bound now (number_of node s.numbers)) s.numbers; seats = still_theirs node ticket s.seats }

-- ---- this manager's proposals

-- one more upon the view of an epoch, of which as many are told as a number of 32 bits holds
abbrev pub proposed_again : ℕ → ℕ → Proposed → Proposed
proposed_again now epoch last =
    record { epoch = epoch; count = (if last.epoch == epoch then min (last.count + 1) 4294967295 else 1); at = now }

abbrev pub proposes : ℕ → ℕ → ℕ → ReportsState → ReportsState
proposes now shard epoch s =
    let last = slice_index_or s.proposed shard none_proposed in
    record s { proposed = slice_set s.proposed shard (proposed_again now epoch last) }

-- ---- newcomers

abbrev pub with_seat : SeatGiven → List SeatGiven → List SeatGiven
with_seat seat seats = take MOST_PROCESSES (seat ∷ other_seats seat.inside seats)

-- a number was given to a process at an address
abbrev pub seated : ℕ → NodeId → Ticket → List ℕ → ReportsState → ReportsState
seated now node ticket inside s = record s { seats = with_seat (record { node = node; ticket = ticket; inside = inside; at = now }) s.seats }

-- ---- what is asked of them

abbrev pub most_of : ℕ → ReportsState → ℕ
most_of place s = if nat_lt place 9 then slice_index s.records place else 0

abbrev pub lately_at : ℕ → List ℕ → Ticket → SeatGiven → Bool
lately_at now inside ticket seat = is_at inside seat && (not (same_ticket seat.ticket ticket) && nat_lt (age now seat.at) IN_VAIN_FOR)

-- A number was given in vain to who was at an address before: that process had it, by this manager's roll, and did not become ready. In the last ten minutes
-- one was given there to another process than the asker, nobody else took it, and no process was ready there since. A process that asks again still runs.
abbrev pub was_in_vain : ℕ → List ℕ → Ticket → ReportsState → Bool
was_in_vain now inside ticket s = list_any (lately_at now inside ticket) s.seats
