-- What a list of publications says of one key. Publications of other keys are passed over, so that a cell may have any number of keys.
use Rattle.std.specs.Prelude.{ℕ, List, [], ◌∷◌, Bool, true, false, not, Option, Some, None, unwrap_or, ◌&&◌, if◌then◌else◌}
use Rattle.std.specs.BTreeMap.{is_at}
use Rattle.hk_base.specs.declared.call.State.{State}
use Rattle.hk_base.specs.declared.call.State.TheVariants.{Valid, Invalid, Write, Replay, Trans}
use Rattle.hk_base.specs.Register.{Register}
use Rattle.hk_copy.specs.Batches.{key_cmp}
use Rattle.hk_key.specs.declared.row.Row.{Row}
use Rattle.hk_key.specs.Table.{first_row}
use Rattle.hk_node.specs.Calls.{register_in}
use Rattle.hk_snap.specs.declared.rule.Publication.{Publication}

-- in these an update of a call waits
abbrev pub is_open : State → Bool
is_open Valid = false
is_open Invalid = false
is_open Write = true
is_open Replay = false
is_open Trans = true

abbrev pub is_write : State → Bool
is_write Valid = false
is_write Invalid = false
is_write Write = true
is_write Replay = false
is_write Trans = false

-- whether the publication is of the key, in a state that is none of these
abbrev pub leaves : (State → Bool) → List ℕ → Publication → Bool
leaves stays key p = is_at (key_cmp key) p.key && not (stays p.row.state)

-- the key's first publication in the list that is in none of these states
abbrev pub next_past : (State → Bool) → List ℕ → List Publication → Option Publication
next_past stays key [] = None
next_past stays key (p ∷ ps) = if leaves stays key p then Some p else next_past stays key ps

-- the row of the key that was published last, or else the given one
abbrev pub last_row : List ℕ → List Publication → Option Row → Option Row
last_row key [] row = row
last_row key (p ∷ ps) row = last_row key ps (if is_at (key_cmp key) p.key then Some p.row else row)

-- the row that the key's last publication shows; without one the first row
abbrev pub row_in : List ℕ → List Publication → Row
row_in key list = unwrap_or (last_row key list None) first_row

-- the register that it shows
abbrev pub register_of : List ℕ → List Publication → Register
register_of key list = register_in (row_in key list)
