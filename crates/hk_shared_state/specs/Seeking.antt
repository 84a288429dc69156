-- How a process comes to a number of its node, and when it is to end.
use Rattle.std.specs.Prelude.{ℕ, ◌-◌, ◌/◌, Bool, true, false, not, ◌==◌, ◌&&◌, ◌||◌, nat_le, if◌then◌else◌, List, [], ◌∷◌, length, replicate, slice_get, slice_set, Option, None, Some, is_some}
use Rattle.std.specs.List.{count_by}
use Rattle.std.specs.Option.{option_flatten}
use Rattle.hk_base.specs.declared.stamp.NodeId.{NodeId}
use Rattle.hk_fields.specs.declared.tickets.Ticket.{Ticket}
use Rattle.hk_inside.specs.declared.board.Stage.{Stage}
use Rattle.hk_inside.specs.declared.board.Stage.TheVariants as stages
use Rattle.hk_inside.specs.declared.inquiry.Inquiry.{Inquiry}
use Rattle.hk_inside.specs.declared.inquiry.Inquiry.TheVariants.{Seat, Claim}
use Rattle.hk_roll.specs.Boards.{names}
use Rattle.hk_boards.specs.declared.heard.HeardBoard.{HeardBoard}
use Rattle.hk_boards.specs.Holders.{ByPlaces, tickets_told, holder, is_out}
use Rattle.hk_boards.specs.Managers.{heard_at, least_heard, has_another_founding, open_founding, manager}
use Rattle.hk_shared_state.specs.declared.identity.Identity.{Identity}
use Rattle.hk_shared_state.specs.declared.standing.Standing.{Standing}
use Rattle.hk_shared_state.specs.Standings.{is_place}

-- ---- what boards tell

-- of each of the nine places that managers may have
abbrev pub by_places : (ℕ → Option Ticket) → List (Option Ticket)
by_places at = at 0 ∷ at 1 ∷ at 2 ∷ at 3 ∷ at 4 ∷ at 5 ∷ at 6 ∷ at 7 ∷ at 8 ∷ []

-- The group has this founding, and its managers are those that a majority's boards tell.
abbrev pub managers_noted : ℕ → Standing → Standing
managers_noted founding s = record s { founding = founding; managers = by_places (λ place. manager founding place s.boards) }

-- the founding that is known, or the one that is told
abbrev pub founding_by : ℕ → ℕ → ℕ
founding_by known told = if known == 0 then told else known

-- Where no majority is open, nothing is noted.
abbrev pub founding_noted : Option ℕ → Standing → Standing
founding_noted None s = s
founding_noted (Some founding) s = managers_noted (founding_by s.founding founding) s

-- A process whose own manager is open knows the group by that; any other one by the last boards of a majority.
abbrev pub boards_noted : Standing → Standing
boards_noted s = if is_some s.manager then s else founding_noted (open_founding s.boards) s

-- ---- who is to ask for a number

abbrev pub is_empty : Stage → Bool
is_empty stages.Empty = true
is_empty stages.Founded = false
is_empty stages.Open = false

-- A manager that has told nothing may be open, or come to be. One that was not founded won't be, in a group that is open: its log is lost.
abbrev pub may_open : Option HeardBoard → Bool
may_open None = true
may_open (Some heard) = not (is_empty heard.board.stage)

-- the host of this place, if the process has one, has a manager that is open or may come to be
abbrev pub has_manager : Option ℕ → ByPlaces → Bool
has_manager None boards = false
has_manager (Some place) boards = may_open (heard_at place boards)

-- Its group is open, it is no founder of it, and its node has no number; and this is known for sure, by its manager, or since it has none.
abbrev pub is_newcomer : Standing → Identity → Bool
is_newcomer s i =
    not (s.founding == 0) && (not s.is_founder && (not (is_some s.node) && (is_some s.manager || not (has_manager i.place s.boards))))

-- ---- what it asks

-- the ticket to which the manager of a place binds the number, by its last board
abbrev pub ticket_at : Standing → ℕ → NodeId → Option Ticket
ticket_at s place node = option_flatten (slice_get (tickets_told s.founding node s.boards) place)

-- The number is claimed at a manager that does not bind it to this process.
abbrev pub claim : Standing → Identity → ℕ → NodeId → Option Inquiry
claim s i place node = if names i.ticket (ticket_at s place node) then None else Some (Claim node i.ticket)

-- A number is asked for at the open manager of the least place of those that answered within a lease.
abbrev pub seat : Standing → Identity → ℕ → ℕ → Option Inquiry
seat s i place now = if is_place place (least_heard now i.lease s.boards) then Some (Seat i.ticket) else None

-- who was given a number claims it, and who was not asks for one
abbrev pub asked_by_newcomer : Option NodeId → Standing → Identity → ℕ → ℕ → Option Inquiry
asked_by_newcomer None s i place now = seat s i place now
asked_by_newcomer (Some given) s i place now = claim s i place given

-- A node claims its number for as long as it lives. A process without one asks only where it is a newcomer.
abbrev pub asked_by : Option NodeId → Standing → Identity → ℕ → ℕ → Option Inquiry
asked_by (Some node) s i place now = claim s i place node
asked_by None s i place now = if is_newcomer s i then asked_by_newcomer s.given s i place now else None

-- what a process asks of the manager of a place beside its report, at this reading
abbrev pub asks_of : Standing → Identity → ℕ → ℕ → Option Inquiry
asks_of s i place now = asked_by s.node s i place now

-- ---- what it is answered

-- A number was given, and no manager refused it so far.
abbrev pub with_given : NodeId → Standing → Standing
with_given node s = record s { given = Some node; refusals = replicate 9 false }

-- the first one that is given is claimed until it is let go of
abbrev pub given_noted : NodeId → Standing → Standing
given_noted node s = if is_some s.given then s else with_given node s

-- those that did not refuse are no majority
abbrev pub is_refused : ℕ → List Bool → Bool
is_refused managers refusals = nat_le (managers - count_by (λ refused. refused) refusals) (managers / 2)

abbrev pub with_refusals : List Bool → Standing → Standing
with_refusals refusals s =
    if is_refused (length s.boards) refusals
    then record s { given = None; refusals = replicate 9 false }
    else record s { refusals = refusals }

abbrev pub is_given : NodeId → Option NodeId → Bool
is_given node None = false
is_given node (Some given) = given.0 == node.0

-- The manager of this place refused the number. One that is not claimed any more is passed over, and one that no majority can bind any more is let go of.
abbrev pub refusal_noted : NodeId → ℕ → Standing → Standing
refusal_noted node place s = if is_some s.node || not (is_given node s.given) then s else with_refusals (slice_set s.refusals place true) s

-- the number is bound to this process by the last boards of a majority
abbrev pub is_holder : Standing → Identity → NodeId → Bool
is_holder s i node = names i.ticket (holder s.founding node s.boards)

abbrev pub held_of : Option NodeId → Standing → Identity → Option NodeId
held_of None s i = None
held_of (Some given) s i = if is_holder s i given then Some given else None

-- the number that it was given and holds
abbrev pub held : Standing → Identity → Option NodeId
held s i = held_of s.given s i

-- ---- when it is to end

abbrev pub is_node_out : Option NodeId → Standing → Identity → Bool
is_node_out None s i = false
is_node_out (Some node) s i = is_out s.founding node i.ticket s.boards

-- A process is to end where a majority is open with another founding than that of its group, or has left out its node.
abbrev pub is_left_out : Standing → Identity → Bool
is_left_out s i = not (s.founding == 0) && (has_another_founding s.founding s.boards || is_node_out s.node s i)
