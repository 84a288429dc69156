-- The index by which a node finds its open rows.
use Rattle.std.specs.Prelude.{◌≡◌, ◌≢◌, ℕ, List, [], Bool, true, false, Option, Some, None, not}
use Rattle.std.specs.List.{list_any}
use Rattle.std.specs.BTreeMap.{is_at}
use Rattle.hk_copy.specs.Batches.{key_cmp}
use Rattle.hk_key.specs.declared.row.Row.{Row}
use Rattle.hk_node.specs.Rows.{Rows, find_row, row_at}
use Rattle.hk_node.specs.Node.{NodeState}
use Rattle.hk_node.specs.Copies.{is_valid}
use Rattle.hk_node.specs.Sound.{IsNode}

-- whether the key is among these
abbrev pub is_listed : List ℕ → List (List ℕ) → Bool
is_listed key keys = list_any (is_at (key_cmp key)) keys

-- the key of each open row is among these
abbrev pub HasOpen : List (List ℕ) → Rows → Type 0
HasOpen keys rows = (key : List ℕ) (row : Row) → find_row key rows ≡ Some row → is_valid row.state ≡ false → is_listed key keys ≡ true

-- each of the old keys is among the new ones
abbrev pub IsGrown : List (List ℕ) → List (List ℕ) → Type 0
IsGrown old new = (key : List ℕ) → is_listed key old ≡ true → is_listed key new ≡ true

-- What a step that puts a row in the place of an old one makes of the listed keys: the key of the new row is listed where that is
-- open, if it was listed where the old one was, and the other keys stay.
pub record IsRelisted (key : List ℕ) (old row : Row) (was now : List (List ℕ)) : Type 0 where
  pub others : (other : List ℕ) → other ≢ key → is_listed other was ≡ true → is_listed other now ≡ true
  pub opened : is_valid old.state ≡ true → is_valid row.state ≡ false → is_listed key now ≡ true
  pub still : is_valid row.state ≡ false → is_listed key was ≡ true → is_listed key now ≡ true

-- whether the row of the key is open
abbrev pub is_open_at : Rows → List ℕ → Bool
is_open_at rows key = not (is_valid (row_at key rows).state)

-- what a node keeps beside what is seen of it: an index that is whole has the key of each open row
pub record IsIndexed (state : NodeState) (keys : List (List ℕ)) (whole : Bool) : Type 0 where
  pub node : IsNode state
  pub has : whole ≡ true → HasOpen keys state.rows

-- the pieces that are made of the row of a key, if there is one
abbrev pub of_found : {X : Type 0} → Option Row → (Row → List X) → List X
of_found None f = []
of_found (Some row) f = f row

abbrev pub at_key : {X : Type 0} → (List ℕ × Row → List X) → Rows → List ℕ → List X
at_key f rows key = of_found (find_row key rows) (λ row. f (key, row))
