-- What holds of holders, whatever boards came.
use Rattle.std.specs.Prelude.{◌≡◌, ◌↔◌, ◌<◌, ◌≤◌, ◌/◌, ℕ, true, List, length, slice_get, Some}
use Rattle.std.specs.List.{count_by}
use Rattle.hk_base.specs.declared.stamp.NodeId.{NodeId}
use Rattle.hk_fields.specs.declared.tickets.Ticket.{Ticket}
use Rattle.hk_roll.specs.declared.binding.Founder.{Founder}
use Rattle.hk_roll.specs.Group.{Group, Event, start, last, IsRun, WereTold}
use Rattle.hk_boards.specs.declared.heard.HeardBoard.{HeardBoard}
use Rattle.hk_boards.specs.Heard.{tells, reaches}
use Rattle.hk_boards.specs.Holders.{ByPlaces, tickets_told, holder, address_in, address_of}

-- A process is told as the holder exactly where the boards of more than half of all managers bind the number to it.
abbrev pub HeldByMost : Type 0
HeldByMost = (founding : ℕ) (node : NodeId) (ticket : Ticket) (boards : ByPlaces) →
    (holder founding node boards ≡ Some ticket) ↔ (length boards / 2 < count_by (tells founding node ticket) boards)

-- To whatever ticket a board binds a number, its manager told at some moment that it did.
abbrev pub AreOf : Group → ℕ → ByPlaces → Type 0
AreOf group founding boards = (node : NodeId) → WereTold group node (tickets_told founding node boards)

-- Two processes never take different ones for the holder of a number, whichever boards each has, and however old these
-- are: in no run of a group that was founded on some hosts, each with a manager.
abbrev pub OneHolderIsHeard : Type 0
OneHolderIsHeard = (hosts : List Founder) (events : List Event) → IsRun (length hosts) (start hosts) events →
    (founding : ℕ) (one other : ByPlaces) → length one ≡ length hosts → length other ≡ length hosts →
    AreOf (last (start hosts) events) founding one → AreOf (last (start hosts) events) founding other →
    (node : NodeId) (t u : Ticket) → holder founding node one ≡ Some t → holder founding node other ≡ Some u → t ≡ u

-- The board of some manager, which came, binds the number to this ticket and tells the address; and none that came
-- later tells one and binds it to the ticket.
pub record TellsAddress (founding : ℕ) (node : NodeId) (ticket : Ticket) (boards : ByPlaces) (text : List ℕ) : Type 0 where
  pub place : ℕ
  pub board : HeardBoard
  pub came : slice_get boards place ≡ Some (Some board)
  pub tells_it : reaches founding node ticket (Some board) ≡ true
  pub newest : (other : ℕ) (later : HeardBoard) → slice_get boards other ≡ Some (Some later) →
      reaches founding node ticket (Some later) ≡ true → later.came ≤ board.came
  pub address : address_in founding node (Some board) ≡ Some text

-- Each holder of which some board tells an address is reached: where the newest of these boards tells it.
abbrev pub HoldersAreReached : Type 0
HoldersAreReached = (founding : ℕ) (node : NodeId) (ticket : Ticket) (boards : ByPlaces) →
    holder founding node boards ≡ Some ticket →
    (place : ℕ) (board : HeardBoard) → slice_get boards place ≡ Some (Some board) → reaches founding node ticket (Some board) ≡ true →
    (at : List ℕ) × (address_of founding node boards ≡ Some at) × TellsAddress founding node ticket boards at
