-- What the last board of one manager tells. A manager of which no board came tells nothing.
use Rattle.std.specs.Prelude.{ℕ, Bool, true, false, ◌==◌, ◌&&◌, ◌||◌, nat_lt, if◌then◌else◌, length, Option, None, Some}
use Rattle.std.specs.List.{find, list_any}
use Rattle.hk_base.specs.declared.stamp.NodeId.{NodeId}
use Rattle.hk_fields.specs.declared.tickets.Ticket.{Ticket}
use Rattle.hk_inside.specs.declared.board.Stage.{Stage}
use Rattle.hk_inside.specs.declared.board.Stage.TheVariants as stages
use Rattle.hk_inside.specs.declared.board.Party.{Party}
use Rattle.hk_inside.specs.declared.board.Party.TheVariants as parties
use Rattle.hk_inside.specs.declared.board.Mark.{Mark}
use Rattle.hk_inside.specs.declared.board.Mark.TheVariants as marks
use Rattle.hk_inside.specs.declared.board.BoardLine.{BoardLine}
use Rattle.hk_roll.specs.Boards.{same_ticket, names}
use Rattle.hk_boards.specs.declared.heard.HeardBoard.{HeardBoard}

-- ---- boards

abbrev pub is_open : Stage → Bool
is_open stages.Empty = false
is_open stages.Founded = false
is_open stages.Open = true

-- The board is of the group with this founding: its manager is open, with just this founding.
abbrev pub is_of : ℕ → HeardBoard → Bool
is_of founding heard = is_open heard.board.stage && (heard.board.founding == founding)

-- ---- lines

abbrev pub is_node : NodeId → Party → Bool
is_node node (parties.Node other) = node.0 == other.0
is_node node (parties.Manager place) = false
is_node node parties.Neither = false

-- who has no number there
abbrev pub is_neither : Party → Bool
is_neither (parties.Node node) = false
is_neither (parties.Manager place) = false
is_neither parties.Neither = true

-- who was left out
abbrev pub is_left_out : Mark → Bool
is_left_out marks.Bound = false
is_left_out marks.Member = false
is_left_out marks.ToLeave = false
is_left_out marks.Out = true

-- Whom a line tells of by a number is bound to it, until it is left out.
abbrev pub binds : NodeId → BoardLine → Bool
binds node line = if is_left_out line.mark then false else is_node node line.party

-- The line tells that the process of this ticket, which had the number, is left out: by the number; or without one, as where the manager never bound it to the
-- process, which asks by it.
abbrev pub leaves_out : NodeId → Ticket → BoardLine → Bool
leaves_out node ticket line =
    if is_left_out line.mark then (is_node node line.party || is_neither line.party) && same_ticket ticket line.ticket else false

-- who is to leave
abbrev pub is_leave_mark : Mark → Bool
is_leave_mark marks.Bound = false
is_leave_mark marks.Member = false
is_leave_mark marks.ToLeave = true
is_leave_mark marks.Out = false

-- the line tells that the process of this ticket, which has the number, is to leave
abbrev pub wants_to_leave : NodeId → Ticket → BoardLine → Bool
wants_to_leave node ticket line =
    if is_leave_mark line.mark then is_node node line.party && same_ticket ticket line.ticket else false

-- ---- what is told of a number

-- the line that binds the number, of a board of the group
abbrev pub line_of : ℕ → NodeId → HeardBoard → Option BoardLine
line_of founding node heard = if is_of founding heard then find (binds node) heard.board.lines else None

abbrev pub ticket_of : Option BoardLine → Option Ticket
ticket_of None = None
ticket_of (Some line) = Some line.ticket

-- the ticket to which the manager binds the number
abbrev pub ticket_told : ℕ → NodeId → Option HeardBoard → Option Ticket
ticket_told founding node None = None
ticket_told founding node (Some heard) = ticket_of (line_of founding node heard)

-- the manager binds the number to just this ticket
abbrev pub tells : ℕ → NodeId → Ticket → Option HeardBoard → Bool
tells founding node ticket heard = names ticket (ticket_told founding node heard)

-- the line binds the number to this ticket, and tells where its process is reached
abbrev pub tells_address : Ticket → Option BoardLine → Bool
tells_address ticket None = false
tells_address ticket (Some line) = same_ticket ticket line.ticket && nat_lt 0 (length line.inside)

-- The manager binds the number to just this ticket, and was told where its process is reached. One that began only now
-- binds what its log tells, and was told nothing yet.
abbrev pub reaches : ℕ → NodeId → Ticket → Option HeardBoard → Bool
reaches founding node ticket None = false
reaches founding node ticket (Some heard) = tells_address ticket (line_of founding node heard)

-- the manager has left out the process of this ticket, which had the number
abbrev pub tells_out : ℕ → NodeId → Ticket → Option HeardBoard → Bool
tells_out founding node ticket None = false
tells_out founding node ticket (Some heard) =
    if is_of founding heard then list_any (leaves_out node ticket) heard.board.lines else false

-- the manager tells that the process of this ticket, which has the number, is to leave
abbrev pub tells_to_leave : ℕ → NodeId → Ticket → Option HeardBoard → Bool
tells_to_leave founding node ticket None = false
tells_to_leave founding node ticket (Some heard) =
    if is_of founding heard then list_any (wants_to_leave node ticket) heard.board.lines else false

-- ---- who is ready

-- whoever is a member, also one that is to leave
abbrev pub is_member_mark : Mark → Bool
is_member_mark marks.Bound = false
is_member_mark marks.Member = true
is_member_mark marks.ToLeave = true
is_member_mark marks.Out = false

-- the line tells of a member that is ready
abbrev pub is_ready : Option BoardLine → Bool
is_ready None = false
is_ready (Some line) = line.ready && is_member_mark line.mark

-- the manager tells that the node of the number is a member, and ready
abbrev pub tells_ready : ℕ → NodeId → Option HeardBoard → Bool
tells_ready founding node None = false
tells_ready founding node (Some heard) = is_ready (line_of founding node heard)

-- ---- what is told of managers

abbrev pub is_manager : ℕ → Party → Bool
is_manager place (parties.Node node) = false
is_manager place (parties.Manager other) = place == other
is_manager place parties.Neither = false

abbrev pub is_manager_line : ℕ → BoardLine → Bool
is_manager_line place line = is_manager place line.party

-- the line of the manager of a place, of a board of the group
abbrev pub manager_line : ℕ → ℕ → HeardBoard → Option BoardLine
manager_line founding place heard = if is_of founding heard then find (is_manager_line place) heard.board.lines else None

-- the ticket to which the manager binds the manager of a place
abbrev pub manager_told : ℕ → ℕ → Option HeardBoard → Option Ticket
manager_told founding place None = None
manager_told founding place (Some heard) = ticket_of (manager_line founding place heard)
