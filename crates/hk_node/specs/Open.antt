-- The open rows of a node: those that are not Valid.
use Rattle.std.specs.Prelude.{ℕ, List, Bool, true, Option, Some, None, not, ◌&&◌}
use Rattle.std.specs.Option.{option_map}
use Rattle.std.specs.Ordering.{is_lt}
use Rattle.std.specs.List.{find}
use Rattle.hk_copy.specs.Batches.{key_cmp}
use Rattle.hk_key.specs.declared.row.Row.{Row}
use Rattle.hk_node.specs.Rows.{Rows}
use Rattle.hk_node.specs.Copies.{is_valid}

-- whether a key is behind another one; all are behind the start
abbrev pub is_behind : Option (List ℕ) → List ℕ → Bool
is_behind None key = true
is_behind (Some after) key = is_lt (key_cmp after key)

abbrev pub is_open_behind : Option (List ℕ) → List ℕ × Row → Bool
is_open_behind after r = is_behind after r.0 && not (is_valid r.1.state)

-- the least key behind this one, or of all, whose row is open
abbrev pub next_open : Option (List ℕ) → Rows → Option (List ℕ)
next_open after rows = option_map (λ r. r.0) (find (is_open_behind after) rows)
