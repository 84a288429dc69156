-- One read of a connection, one pass over what is there, and what was done so far.
use Rattle.std.specs.Prelude.{◌≡◌, ⊤, ℕ, List, [], ◌∷◌, length, Option, Result, Ok, Err}
use Rattle.std.specs.Io.KnownBytes.{Consumes, Keeps, IsAtEnd}
use Rattle.hk_link.specs.declared.rule.Known.{Known}
use Rattle.hk_peer.specs.declared.course.Course.{Course}
use Rattle.hk_peer.specs.declared.ends.PeerEnd.{PeerEnd}
use Rattle.hk_peer.specs.declared.ends.PeerEnd.TheVariants as ends
use Rattle.hk_peer.specs.Cut.{Cutting, IsPart, IsBad, fed}
use Rattle.hk_peer.specs.Counted.{GivesMore, HasGiven}
use Rattle.hk_peer.specs.Parcels.{Passes}

-- what a pass over the bytes that are there ends with
abbrev pub IsStop : Result (Unit {0}) PeerEnd → List ℕ → Type 0
IsStop (Ok done) rest = IsPart rest
IsStop (Err ends.Memory) rest = ⊤
IsStop (Err (ends.BadFrame fault)) rest = IsBad fault rest
IsStop (Err ended) rest = ⊥

-- Some bytes were cut into parcels, and those that the connection carries were put: all that are there, up to this rest. At `Memory` that is a beginning of them, up to some rest.
abbrev pub PassesUnlessEnded : Result (Unit {0}) PeerEnd → Course → List ℕ → List ℕ → Known → Known → Type 0
PassesUnlessEnded (Err ends.Memory) course bytes rest before after = (behind : List ℕ) × Passes course bytes behind before after
PassesUnlessEnded result course bytes rest before after = Passes course bytes rest before after

-- a piece came off the source and to the cutter; none comes only at the end
pub record Comes (count : ℕ) (left left' : Option (List ℕ)) (given given' : Option (List (List ℕ))) (c c' : Cutting) : Type 0 where
  pub piece : List ℕ
  pub long : length piece ≡ count
  pub taken : Consumes left left' piece
  pub grown : GivesMore given given' (piece ∷ [])
  pub ended : count ≡ 0 → IsAtEnd left'
  pub come : c' ≡ record (fed c piece) { room = c'.room }

abbrev pub Pieces : Result ℕ PeerEnd → Option (List ℕ) → Option (List ℕ) → Option (List (List ℕ)) → Option (List (List ℕ)) → Cutting → Cutting → Type 0
Pieces (Ok count) left left' given given' c c' = Comes count left left' given given' c c'
Pieces (Err ends.Memory) left left' given given' c c' = (left' ≡ left) × (given' ≡ given)
Pieces (Err ends.ReadFault) left left' given given' c c' = Keeps left left' × GivesMore given given' []
Pieces (Err ended) left left' given given' c c' = ⊥

-- what was put so far, of what was read so far
pub record IsServing (course : Course) (left left' : Option (List ℕ)) (given given' : Option (List (List ℕ))) (before after : Known) (turns : ℕ) (unread : List ℕ) : Type 0 where
  pub read : List ℕ
  pub consumed : Consumes left left' read
  pub reads : HasGiven given given' read turns
  pub passed : Passes course read unread before after
