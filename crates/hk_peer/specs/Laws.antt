-- That the pieces in which bytes come make no difference, and what several puts come to.
use Rattle.std.specs.Prelude.{◌≡◌, ℕ, ◌+◌, List, ◌++◌, length}
use mathlib.Core.List.{IsPrefix}
use Rattle.hk_frame.specs.declared.fault.FrameFault.{FrameFault}
use Rattle.hk_link.specs.declared.parcel.Parcel.{Parcel}
use Rattle.hk_link.specs.declared.rule.Known.{Known}
use Rattle.hk_link.specs.Share.{IsWhole}
use Rattle.hk_peer.specs.Cut.{IsPart, IsBad}
use Rattle.hk_peer.specs.Parcels.{AreFrames, NoFrame, ArePut}

-- Of two ways to cut frames off the same bytes one goes on where the other ends. So where no frame begins the rest, the parcels are the most that there are, and
-- two who cut to such a rest have the same parcels, and the same rest.
pub record CutInOneWay : Type 0 where
  pub goes_on : (bytes : List ℕ) (parcels others : List Parcel) (rest left : List ℕ) → AreFrames bytes parcels rest → AreFrames bytes others left → NoFrame left → IsPrefix parcels others
  pub same : (bytes : List ℕ) (parcels others : List Parcel) (rest left : List ℕ) → AreFrames bytes parcels rest → AreFrames bytes others left → NoFrame rest → NoFrame left → (parcels ≡ others) × (rest ≡ left)

-- Frames stay where they are when more comes, and a fault that lasts stays too. Neither such a fault nor an end within a frame leaves room for a frame.
pub record StepsStay : Type 0 where
  pub frames : (bytes more rest : List ℕ) (parcels : List Parcel) → AreFrames bytes parcels rest → AreFrames (bytes ++ more) parcels (rest ++ more)
  pub bad : (fault : FrameFault) (bytes more : List ℕ) → IsBad fault bytes → IsBad fault (bytes ++ more)
  pub no_frame_in_part : (bytes : List ℕ) → IsPart bytes → NoFrame bytes
  pub no_frame_in_bad : (fault : FrameFault) (bytes : List ℕ) → IsBad fault bytes → NoFrame bytes

-- The end of the link has put so many more itself; and where it has the whole right to put, these parcels are all that was put since, behind what was there.
pub record PutsAddUp : Type 0 where
  pub own : (before after : Known) (parcels : List Parcel) → ArePut before parcels after → after.put.own ≡ before.put.own + length parcels
  pub alone : (before after : Known) (parcels : List Parcel) → ArePut before parcels after → IsWhole before.put.share → after.put.seen ≡ before.put.seen ++ parcels
