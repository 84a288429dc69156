-- Who holds which number, by the last board of each manager, by their places.
use Rattle.std.specs.Prelude.{◌≡◌, ◌/◌, ℕ, Bool, false, ◌==◌, ◌&&◌, nat_lt, if◌then◌else◌, List, length, map, max, Option, None, Some, is_some}
use Rattle.std.specs.List.{find, reduce, filter_map, count_by, list_any}
use Rattle.std.specs.List.Sorted.{IsStrictlyIncreasing}
use Rattle.std.specs.Option.{option_map, option_flatten}
use Rattle.hk_base.specs.declared.stamp.NodeId.{NodeId}
use Rattle.hk_base.specs.View.{is_member, member_numbers}
use Rattle.hk_fields.specs.declared.tickets.Ticket.{Ticket}
use Rattle.hk_roll.specs.Boards.{named}
use Rattle.hk_boards.specs.declared.heard.HeardBoard.{HeardBoard}
use Rattle.hk_boards.specs.Heard.{line_of, ticket_told, reaches, tells_out, tells_to_leave, tells_ready}

-- the last board of each manager, if one came, by their places
abbrev pub ByPlaces : Type 0
ByPlaces = List (Option HeardBoard)

-- to which ticket each manager binds the number
abbrev pub tickets_told : ℕ → NodeId → ByPlaces → List (Option Ticket)
tickets_told founding node boards = map (ticket_told founding node) boards

-- The holder of a number is the process to whose ticket a majority binds it.
abbrev pub holder : ℕ → NodeId → ByPlaces → Option Ticket
holder founding node boards = named (tickets_told founding node boards)

-- more than half of all managers have left out the process of this ticket, which had the number
abbrev pub is_out : ℕ → NodeId → Ticket → ByPlaces → Bool
is_out founding node ticket boards = nat_lt (length boards / 2) (count_by (tells_out founding node ticket) boards)

-- more than half of all managers tell that the process of this ticket, which has the number, is to leave
abbrev pub is_to_leave : ℕ → NodeId → Ticket → ByPlaces → Bool
is_to_leave founding node ticket boards = nat_lt (length boards / 2) (count_by (tells_to_leave founding node ticket) boards)

-- ---- where a holder is reached

-- when the board came, if it tells where the process of this ticket is reached, to which it binds the number
abbrev pub came_telling : ℕ → NodeId → Ticket → Option HeardBoard → Option ℕ
came_telling founding node ticket None = None
came_telling founding node ticket (Some heard) =
    if reaches founding node ticket (Some heard) then Some heard.came else None

-- when the newest of those boards came
abbrev pub last_told : ℕ → NodeId → Ticket → ByPlaces → Option ℕ
last_told founding node ticket boards = reduce max (filter_map (came_telling founding node ticket) boards)

abbrev pub is_told_at : ℕ → NodeId → Ticket → ℕ → Option HeardBoard → Bool
is_told_at founding node ticket moment None = false
is_told_at founding node ticket moment (Some heard) = reaches founding node ticket (Some heard) && (heard.came == moment)

-- the newest of those boards; of several that came at one moment, that of the least place
abbrev pub newest_at : Option ℕ → ℕ → NodeId → Ticket → ByPlaces → Option HeardBoard
newest_at None founding node ticket boards = None
newest_at (Some moment) founding node ticket boards =
    option_flatten (find (is_told_at founding node ticket moment) boards)

abbrev pub newest : ℕ → NodeId → Ticket → ByPlaces → Option HeardBoard
newest founding node ticket boards = newest_at (last_told founding node ticket boards) founding node ticket boards

-- the address in the line that binds the number
abbrev pub address_in : ℕ → NodeId → Option HeardBoard → Option (List ℕ)
address_in founding node None = None
address_in founding node (Some heard) = option_map (λ line. line.inside) (line_of founding node heard)

abbrev pub address_by : Option Ticket → ℕ → NodeId → ByPlaces → Option (List ℕ)
address_by None founding node boards = None
address_by (Some ticket) founding node boards = address_in founding node (newest founding node ticket boards)

-- The holder of a number is reached where the newest board tells it that binds the number to the holder and tells an address.
abbrev pub address_of : ℕ → NodeId → ByPlaces → Option (List ℕ)
address_of founding node boards = address_by (holder founding node boards) founding node boards

-- ---- all nodes that have a holder

abbrev pub is_held : ℕ → ByPlaces → NodeId → Bool
is_held founding boards node = is_some (holder founding node boards)

-- The nodes whose numbers have a holder, in rising order.
pub record AreHeld (founding : ℕ) (boards : ByPlaces) (nodes : List NodeId) : Type 0 where
  pub rising : IsStrictlyIncreasing (member_numbers nodes)
  pub held : (node : NodeId) → is_member node nodes ≡ is_held founding boards node

-- ---- all that are ready

-- some manager tells that the node of the number is a member, and ready; and the number has a holder
abbrev pub is_told_ready : ℕ → ByPlaces → NodeId → Bool
is_told_ready founding boards node = list_any (tells_ready founding node) boards && is_held founding boards node

-- Those nodes, in rising order.
pub record AreReady (founding : ℕ) (boards : ByPlaces) (nodes : List NodeId) : Type 0 where
  pub rising : IsStrictlyIncreasing (member_numbers nodes)
  pub ready : (node : NodeId) → is_member node nodes ≡ is_told_ready founding boards node
