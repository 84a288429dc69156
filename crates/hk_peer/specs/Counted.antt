-- The reads of a connection, one piece for each. A connection makes 4,294,967,295 of them at most.
use Rattle.std.specs.Prelude.{◌≡◌, ◌<◌, ◌≤◌, ⊤, ℕ, List, [], ◌∷◌, ◌++◌, length, All, Option, None, Some}
use Rattle.std.specs.List.{concat}
use Rattle.hk_peer.specs.declared.ends.PeerEnd.{PeerEnd}
use Rattle.hk_peer.specs.declared.ends.PeerEnd.TheVariants as ends

-- the source gave these pieces since then, where it records what it gives
abbrev pub GivesMore : Option (List (List ℕ)) → Option (List (List ℕ)) → List (List ℕ) → Type 0
GivesMore None now pieces = ⊤
GivesMore (Some before) now pieces = now ≡ Some (before ++ pieces)

-- so many reads gave these bytes, and each of them gave some
pub record HasGiven (given given' : Option (List (List ℕ))) (bytes : List ℕ) (reads : ℕ) : Type 0 where
  pub pieces : List (List ℕ)
  pub joined : concat pieces ≡ bytes
  pub filled : All (λ piece. 0 < length piece) pieces
  pub many : length pieces ≡ reads
  pub grown : GivesMore given given' pieces

-- what the last read gave, if it gave nothing: that is the end
abbrev pub end_mark : PeerEnd → List (List ℕ)
end_mark ends.End = [] ∷ []
end_mark ended = []

-- How many reads gave some bytes. `Spent` comes exactly where that are all that a connection may make, and none of the other ends came with them; `End` and
-- `ReadFault` come at one read more.
abbrev pub IsCount : PeerEnd → ℕ → Type 0
IsCount (ends.Spent reads) count = (reads ≡ 4294967295) × (count ≡ 4294967295)
IsCount ends.End count = count < 4294967295
IsCount ends.ReadFault count = count < 4294967295
IsCount ended count = count ≤ 4294967295

-- the reads of a call that ended so: the bytes that they gave, piece by piece
pub record AreRead (ended : PeerEnd) (given given' : Option (List (List ℕ))) (bytes : List ℕ) : Type 0 where
  pub pieces : List (List ℕ)
  pub joined : concat pieces ≡ bytes
  pub filled : All (λ piece. 0 < length piece) pieces
  pub grown : GivesMore given given' (pieces ++ end_mark ended)
  pub count : IsCount ended (length pieces)
