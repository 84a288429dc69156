-- What a read brings.
use Rattle.std.specs.Prelude.{◌≡◌, ℕ, List, [], ◌∷◌, length, Option, Result, Ok, Err}
use Rattle.std.specs.Io.KnownBytes.{Consumes, Keeps, IsAtEnd}
use Rattle.hk_lines.specs.Cut.{Cutting, fed}
use Rattle.hk_conn.specs.Counted.{GivesMore}
use Rattle.hk_conn.specs.declared.ends.ConnEnd.{ConnEnd}
use Rattle.hk_conn.specs.declared.ends.ConnEnd.TheVariants as ends

-- a piece came off the source and to the cutter; none comes only at the end
pub record Comes (count : ℕ) (left left' : Option (List ℕ)) (given given' : Option (List (List ℕ))) (c c' : Cutting) : Type 0 where
  pub piece : List ℕ
  pub long : length piece ≡ count
  pub taken : Consumes left left' piece
  pub grown : GivesMore given given' (piece ∷ [])
  pub ended : count ≡ 0 → IsAtEnd left'
  pub come : c' ≡ record (fed c piece) { room = c'.room }

abbrev pub Pieces : Result ℕ ConnEnd → Option (List ℕ) → Option (List ℕ) → Option (List (List ℕ)) → Option (List (List ℕ)) → Cutting → Cutting → Type 0
Pieces (Ok count) left left' given given' c c' = Comes count left left' given given' c c'
Pieces (Err ends.Memory) left left' given given' c c' = (left' ≡ left) × (given' ≡ given)
Pieces (Err ends.ReadFault) left left' given given' c c' = Keeps left left' × GivesMore given given' []
Pieces (Err end) left left' given given' c c' = ⊥
