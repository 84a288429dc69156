-- Which managers answered, and what they told the asker of itself and of the group.
use Rattle.std.specs.Prelude.{ℕ, ◌+◌, ◌-◌, ◌/◌, Bool, false, not, ◌==◌, ◌&&◌, nat_lt, nat_le, if◌then◌else◌, List, length, map, max, Option, None, Some, slice_get}
use Rattle.std.specs.List.{reduce, filter_map, count_by, find, position}
use Rattle.std.specs.Option.{option_flatten}
use Rattle.hk_fields.specs.declared.tickets.Ticket.{Ticket}
use Rattle.hk_roll.specs.Boards.{named}
use Rattle.hk_boards.specs.declared.heard.HeardBoard.{HeardBoard}
use Rattle.hk_boards.specs.Heard.{is_open, is_of, manager_told}
use Rattle.hk_boards.specs.Holders.{ByPlaces}

-- the last board of the manager of this place, if one came
abbrev pub heard_at : ℕ → ByPlaces → Option HeardBoard
heard_at place boards = option_flatten (slice_get boards place)

-- the board of an open manager, which came at most so many milliseconds ago
abbrev pub answered_lately : ℕ → ℕ → Option HeardBoard → Bool
answered_lately now within None = false
answered_lately now within (Some heard) = is_open heard.board.stage && nat_le (now - heard.came) within

-- the least place of an open manager that answered lately
abbrev pub least_heard : ℕ → ℕ → ByPlaces → Option ℕ
least_heard now within boards = position (answered_lately now within) boards

-- a board that was asked for behind a reading
abbrev pub is_answered : ℕ → Option HeardBoard → Bool
is_answered since None = false
is_answered since (Some heard) = nat_lt since heard.asked

-- of how many managers one came
abbrev pub answered : ℕ → ByPlaces → ℕ
answered since boards = count_by (is_answered since) boards

abbrev pub has_answered : ℕ → ℕ → ByPlaces → Bool
has_answered own since boards = is_answered since (heard_at own boards)

-- the same, with the manager of this place counted in any case
abbrev pub answered_with : ℕ → ℕ → ByPlaces → ℕ
answered_with own since boards = if has_answered own since boards then answered since boards else answered since boards + 1

-- they are more than half of all
abbrev pub majority_answered : ℕ → ℕ → ByPlaces → Bool
majority_answered own since boards = nat_lt (length boards / 2) (answered_with own since boards)

-- ---- the founding of the group

-- the founding with which the manager is open
abbrev pub founding_told : Option HeardBoard → Option ℕ
founding_told None = None
founding_told (Some heard) = if is_open heard.board.stage then Some heard.board.founding else None

-- the manager is open with this founding
abbrev pub tells_open : ℕ → Option HeardBoard → Bool
tells_open founding None = false
tells_open founding (Some heard) = is_of founding heard

-- more than half of all managers are so
abbrev pub is_open_with : ByPlaces → ℕ → Bool
is_open_with boards founding = nat_lt (length boards / 2) (count_by (tells_open founding) boards)

-- the founding with which more than half of all managers are open
abbrev pub open_founding : ByPlaces → Option ℕ
open_founding boards = find (is_open_with boards) (filter_map founding_told boards)

-- ---- the tickets of managers

-- to which ticket each manager binds the manager of a place
abbrev pub managers_told : ℕ → ℕ → ByPlaces → List (Option Ticket)
managers_told founding place boards = map (manager_told founding place) boards

-- the ticket to which more than half of all managers bind it
abbrev pub manager : ℕ → ℕ → ByPlaces → Option Ticket
manager founding place boards = named (managers_told founding place boards)

-- ---- another founding

-- the manager is open, with another founding
abbrev pub tells_another : ℕ → Option HeardBoard → Bool
tells_another founding None = false
tells_another founding (Some heard) = is_open heard.board.stage && not (heard.board.founding == founding)

-- more than half of all managers are so
abbrev pub has_another_founding : ℕ → ByPlaces → Bool
has_another_founding founding boards = nat_lt (length boards / 2) (count_by (tells_another founding) boards)

-- ---- the records of the asker's manager

-- how many records the asker's manager had told this one, at most
abbrev pub records_told : Option HeardBoard → Option ℕ
records_told None = None
records_told (Some heard) = Some heard.board.records

abbrev pub tells_records : ℕ → Option HeardBoard → Bool
tells_records records None = false
tells_records records (Some heard) = heard.board.records == records

abbrev pub placed : Option ℕ → ℕ → Option (ℕ × ℕ)
placed None records = None
placed (Some place) records = Some (place, records)

abbrev pub most_at : Option ℕ → ByPlaces → Option (ℕ × ℕ)
most_at None boards = None
most_at (Some records) boards = placed (position (tells_records records) boards) records

-- the most that any board tells, behind the least place of which a board tells it
abbrev pub most_records : ByPlaces → Option (ℕ × ℕ)
most_records boards = most_at (reduce max (filter_map records_told boards)) boards
