-- How the nodes that have a holder are gathered, for the clauses of private functions.
use Rattle.std.specs.Prelude.{ℕ, List, [], ◌∷◌, map, filter, Option, None, Some}
use Rattle.std.specs.List.{flat_map}
use Rattle.hk_base.specs.declared.stamp.NodeId.{NodeId}
use Rattle.hk_inside.specs.declared.board.Party.{Party}
use Rattle.hk_inside.specs.declared.board.Party.TheVariants as parties
use Rattle.hk_inside.specs.declared.board.BoardLine.{BoardLine}
use Rattle.hk_boards.specs.declared.heard.HeardBoard.{HeardBoard}
use Rattle.hk_boards.specs.Holders.{ByPlaces, is_held}

abbrev pub numbers_by : Party → List ℕ
numbers_by (parties.Node node) = node.0 ∷ []
numbers_by (parties.Manager place) = []
numbers_by parties.Neither = []

-- the number of the node of which a line tells, if it is one
abbrev pub numbers_of : BoardLine → List ℕ
numbers_of line = numbers_by line.party

-- all that stand on a board, one behind the other
abbrev pub numbers_in : Option HeardBoard → List ℕ
numbers_in None = []
numbers_in (Some heard) = flat_map numbers_of heard.board.lines

abbrev pub numbered : ℕ → NodeId
numbered number = record { 0 = number }

-- the nodes of those numbers that have a holder
abbrev pub held_among : ℕ → ByPlaces → List ℕ → List NodeId
held_among founding boards numbers = map numbered (filter (λ number. is_held founding boards (numbered number)) numbers)
