-- The parcels whose frames some bytes are.
use Rattle.std.specs.Prelude.{◌≡◌, ℕ, List, [], ◌∷◌, ◌++◌, Bool, true, false, ◌==◌, ◌&&◌, Option, Some, None, filter}
use Rattle.hk_base.specs.declared.letter.Actor.{Actor}
use Rattle.hk_base.specs.declared.letter.Actor.TheVariants.{Node, Manager}
use Rattle.hk_frame.specs.Frames.{frame}
use Rattle.hk_frame.specs.Sendable.{IsSendable}
use Rattle.hk_link.specs.declared.parcel.Parcel.{Parcel}
use Rattle.hk_link.specs.declared.rule.Known.{Known}
use Rattle.hk_link.specs.Ends.{IsPut}
use Rattle.hk_peer.specs.declared.course.Course.{Course}

abbrev pub frame_of : Parcel → List ℕ
frame_of p = frame p.shard p.letter

-- the frames of these parcels, one behind the other
abbrev pub frames_of : List Parcel → List ℕ
frames_of [] = []
frames_of (p ∷ parcels) = frame_of p ++ frames_of parcels

-- its letter has a frame
abbrev pub HasFrame : Parcel → Type 0
HasFrame p = IsSendable p.shard p.letter

-- the bytes are the frames of these parcels, one behind the other, and then the rest
abbrev pub AreFrames : List ℕ → List Parcel → List ℕ → Type 0
AreFrames bytes [] rest = bytes ≡ rest
AreFrames bytes (p ∷ parcels) rest = (behind : List ℕ) × HasFrame p × (bytes ≡ frame_of p ++ behind) × AreFrames behind parcels rest

-- no frame begins the bytes
abbrev pub NoFrame : List ℕ → Type 0
NoFrame bytes = (p : Parcel) (behind : List ℕ) → HasFrame p → bytes ≡ frame_of p ++ behind → ⊥

-- whether two actors are one
abbrev pub is_same : Actor → Actor → Bool
is_same (Node a) (Node b) = a.0 == b.0
is_same (Manager a) (Manager b) = a == b
is_same a b = false

-- whether a letter may be from this actor, which is told where a greeting told who sends
abbrev pub is_from : Option Actor → Actor → Bool
is_from (Some from) actor = is_same from actor
is_from None actor = true

-- whether a letter is one that the connection carries: to its actor, and from the one that greeted, if one did
abbrev pub is_on : Course → Parcel → Bool
is_on course p = is_same course.to p.letter.to && is_from course.from p.letter.from

-- these parcels were put, in this order, and this end of the link put nothing else
abbrev pub ArePut : Known → List Parcel → Known → Type 0
ArePut before [] after = after ≡ before
ArePut before (p ∷ parcels) after = (between : Known) × IsPut before p between × ArePut between parcels after

-- some bytes were cut into parcels, up to this rest, and those that the connection carries were put
pub record Passes (course : Course) (bytes rest : List ℕ) (before after : Known) : Type 0 where
  pub parcels : List Parcel
  pub frames : AreFrames bytes parcels rest
  pub put : ArePut before (filter (λ p. is_on course p) parcels) after
