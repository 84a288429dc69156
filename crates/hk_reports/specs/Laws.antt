-- What holds of what is kept, and of what a keeper hears of it.
use Rattle.std.specs.Prelude.{◌≡◌, ◌≢◌, ⊤, ◌<◌, ◌/◌, ◌%◌, ℕ, zero, suc, max, Bool, true, false, ◌||◌, ◌==◌, nat_eq, nat_lt}
use Rattle.std.specs.Prelude.{List, [], ◌∷◌, length, Some}
use Rattle.std.specs.List.{find, list_any}
use Rattle.hk_base.specs.declared.stamp.NodeId.{NodeId}
use Rattle.hk_base.specs.declared.view.View.{View}
use Rattle.hk_base.specs.View.{is_member}
use Rattle.hk_fields.specs.declared.tickets.Ticket.{Ticket}
use Rattle.hk_inside.specs.declared.report.Report.{Report}
use Rattle.hk_keeper.specs.Heard.{is_up}
use Rattle.hk_reports.specs.declared.reports.TheConstants.{MOST_PROCESSES, IN_VAIN_FOR}
use Rattle.hk_reports.specs.Reports.{ReportsState, age, same_ticket, is_of, other_reports, reported, is_ready_state}
use Rattle.hk_reports.specs.Reports.{other_numbers, number_of, asked, bound_at, seated, most_of, was_in_vain}
use Rattle.hk_reports.specs.Hearing.{is_up_at, managers_up, manager_heard, known_nodes, ask_in, heard_by}

-- ---- reports

-- A report is the last one of its ticket.
abbrev pub ReportIsLast : Type 0
ReportIsLast = (now : ℕ) (report : Report) (s : ReportsState) →
    find (is_of report.ticket) (reported now report s).came ≡ Some (record { report = report; at = now })

-- Where there is room, it takes the place of no other ticket's.
abbrev pub OthersStay : Type 0
OthersStay = (now : ℕ) (report : Report) (s : ReportsState) (other : Ticket) →
    length (other_reports report.ticket s.came) < MOST_PROCESSES → same_ticket report.ticket other ≡ false →
    find (is_of other) (reported now report s).came ≡ find (is_of other) s.came

-- ---- managers

-- the bit of a place, the lowest one being that of place 0
abbrev pub has_bit : ℕ → ℕ → Bool
has_bit zero bits = bits % 2 == 1
has_bit (suc place) bits = has_bit place (bits / 2)

-- The bit of a manager is set exactly where that is up.
abbrev pub BitsAreManagersUp : Type 0
BitsAreManagersUp = (now own lease place : ℕ) (s : ReportsState) → place < 9 →
    has_bit place (managers_up now own lease s) ≡ is_up_at now own lease s.came place

-- Just those managers are up that the keeper takes to be.
abbrev pub UpAsTheKeeperSays : Type 0
UpAsTheKeeperSays = (s : ReportsState) (now own managers lease place : ℕ) (views : List View) (bound : List NodeId) →
    is_up (heard_by s now own managers lease views bound) (manager_heard now s.came place) ≡
    is_up_at now own lease s.came place

-- ---- nodes

-- A node's age in a shard, and the epoch, are those of its last ask there.
abbrev pub LastAskCounts : Type 0
LastAskCounts = (now later shard epoch : ℕ) (node : NodeId) (s : ReportsState) →
    shard < length (number_of node s.numbers).asks →
    ask_in later s.start (number_of node (asked now shard node epoch s).numbers) shard ≡
    record { age = age later now; epoch = Some epoch }

-- In other shards they stay.
abbrev pub OtherShardsStay : Type 0
OtherShardsStay = (now later shard other epoch : ℕ) (node : NodeId) (s : ReportsState) → other ≢ shard →
    ask_in later s.start (number_of node (asked now shard node epoch s).numbers) other ≡
    ask_in later s.start (number_of node s.numbers) other

-- Where there is room, all that is known of other numbers stays.
abbrev pub OtherNumbersStay : Type 0
OtherNumbersStay = (now shard epoch : ℕ) (node other : NodeId) (s : ReportsState) →
    length (other_numbers node s.numbers) < MOST_PROCESSES → nat_eq node.0 other.0 ≡ false →
    number_of other (asked now shard node epoch s).numbers ≡ number_of other s.numbers

-- A keeper hears of a node exactly where its number is bound, or it is a member of a view.
abbrev pub KnowsBoundAndMembers : Type 0
KnowsBoundAndMembers = (views : List View) (bound : List NodeId) (node : NodeId) →
    is_member node (known_nodes views bound) ≡
    (is_member node bound || list_any (λ view. is_member node view.members) views)

-- no node stands there twice
abbrev pub AreOnce : List NodeId → Type 0
AreOnce [] = ⊤
AreOnce (node ∷ nodes) = (is_member node nodes ≡ false) × AreOnce nodes

-- and of each once
abbrev pub KnownOnce : Type 0
KnownOnce = (views : List View) (bound : List NodeId) → AreOnce (known_nodes views bound)

-- ---- newcomers

-- Behind a process that was given a number, any other one at its address was seated in vain for ten minutes from then on,
abbrev pub VainForTenMinutes : Type 0
VainForTenMinutes = (now later : ℕ) (node : NodeId) (ticket other : Ticket) (inside : List ℕ) (s : ReportsState) → same_ticket ticket other ≡ false →
    was_in_vain later inside other (seated now node ticket inside s) ≡ nat_lt (age later now) IN_VAIN_FOR

-- or until a process there is ready,
abbrev pub ReadyIsNotInVain : Type 0
ReadyIsNotInVain = (now later : ℕ) (report : Report) (ticket : Ticket) (s : ReportsState) → is_ready_state report.state ≡ true →
    was_in_vain later report.inside ticket (reported now report s) ≡ false

-- or until the number is bound to another process.
abbrev pub LostIsNotInVain : Type 0
LostIsNotInVain = (now behind later : ℕ) (node : NodeId) (ticket holder other : Ticket) (inside : List ℕ) (s : ReportsState) → same_ticket ticket holder ≡ false →
    was_in_vain later inside other (bound_at behind node holder (seated now node ticket inside s)) ≡ false

-- That process itself was not: who asks again for a number has lost the one that it was given.
abbrev pub OwnIsNotInVain : Type 0
OwnIsNotInVain = (now later : ℕ) (node : NodeId) (ticket : Ticket) (inside : List ℕ) (s : ReportsState) →
    was_in_vain later inside ticket (seated now node ticket inside s) ≡ false

-- ---- logs

-- The most records of a manager are those of its last report, or were told before.
abbrev pub MostRecordsStay : Type 0
MostRecordsStay = (now place : ℕ) (report : Report) (s : ReportsState) → length s.records ≡ 9 → place < 9 →
    report.manager ≡ Some place → most_of place (reported now report s) ≡ max (most_of place s) report.records
