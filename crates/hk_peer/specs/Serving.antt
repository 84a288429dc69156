-- What is put of what a peer sends, and how its connection ends.
use Rattle.std.specs.Prelude.{◌≡◌, ◌≢◌, ⊤, ℕ, List, [], ◌∷◌, ◌++◌, Option, filter}
use Rattle.std.specs.List.{concat}
use Rattle.std.specs.Io.KnownBytes.{Consumes, IsAtEnd}
use Rattle.hk_link.specs.declared.parcel.Parcel.{Parcel}
use Rattle.hk_link.specs.declared.rule.Known.{Known}
use Rattle.hk_peer.specs.declared.course.Course.{Course}
use Rattle.hk_peer.specs.declared.ends.PeerEnd.{PeerEnd}
use Rattle.hk_peer.specs.declared.ends.PeerEnd.TheVariants as ends
use Rattle.hk_peer.specs.Cut.{IsPart, IsBad}
use Rattle.hk_peer.specs.Counted.{AreRead}
use Rattle.hk_peer.specs.Parcels.{AreFrames, NoFrame, ArePut, is_on}

-- What the bytes behind the last frame are. They are bad exactly at `BadFrame`, and at each other end but `Memory` they end within a frame.
abbrev pub IsRest : PeerEnd → List ℕ → Type 0
IsRest ends.Memory rest = ⊤
IsRest (ends.BadFrame fault) rest = IsBad fault rest
IsRest ended rest = IsPart rest

-- `End` comes only where the source has nothing left
abbrev pub IsOver : PeerEnd → Option (List ℕ) → Type 0
IsOver ends.End left = IsAtEnd left
IsOver ended left = ⊤

-- the bytes are frames, and then they end within one
pub record GoOn (bytes : List ℕ) : Type 0 where
  pub parcels : List Parcel
  pub rest : List ℕ
  pub frames : AreFrames bytes parcels rest
  pub part : IsPart rest

-- `BadFrame` comes at the first read that makes the bytes bad: before its piece they went on
abbrev pub IsFirst : PeerEnd → List (List ℕ) → Type 0
IsFirst (ends.BadFrame fault) pieces = (earlier : List (List ℕ)) × (last : List ℕ) × (pieces ≡ earlier ++ last ∷ []) × GoOn (concat earlier)
IsFirst ended pieces = ⊤

-- The bytes that were read in a call, and what became of them: of the parcels with whose frames they begin those that the connection carries were put, in their order, and
-- nothing else was. At each end but `Memory` these are all parcels that there are.
pub record Serves (course : Course) (ended : PeerEnd) (left left' : Option (List ℕ)) (given given' : Option (List (List ℕ))) (before after : Known) : Type 0 where
  pub read : List ℕ
  pub consumed : Consumes left left' read
  pub reads : AreRead ended given given' read
  pub over : IsOver ended left'
  pub first : IsFirst ended reads.pieces
  pub parcels : List Parcel
  pub rest : List ℕ
  pub frames : AreFrames read parcels rest
  pub put : ArePut before (filter (λ p. is_on course p) parcels) after
  pub rests : IsRest ended rest
  pub all : ended ≢ ends.Memory → NoFrame rest
