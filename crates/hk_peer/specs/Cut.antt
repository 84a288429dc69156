-- What a cutter of frames holds, and what its calls do to that.
use Rattle.std.specs.Prelude.{◌≡◌, ⊤, ℕ, ◌<◌, List, [], ◌++◌, length, take, drop, Option, Some, Result, Ok, Err}
use Rattle.hk_frame.specs.declared.fault.FrameFault.{FrameFault}
use Rattle.hk_frame.specs.declared.fault.FrameFault.TheVariants as faults
use Rattle.hk_frame.specs.Told.{frame_at}
use Rattle.hk_peer.specs.declared.step.PeerStep.{PeerStep}
use Rattle.hk_peer.specs.declared.step.PeerStep.TheVariants as step
use Rattle.hk_peer.specs.Parcels.{frame_of, HasFrame}

pub record Cutting : Type 0 where
  -- the bytes that came and that no parcel took
  pub unread : List ℕ
  -- the fault that was told of them
  pub fault : Option FrameFault
  -- what stands in the room behind them
  pub room : List ℕ

-- the bytes end within a frame: their length, or the rest of what that tells, is not there
abbrev pub IsPart : List ℕ → Type 0
IsPart bytes = (wanted : ℕ) × (frame_at bytes ≡ Err (faults.Short wanted))

-- a fault that no more bytes can mend
abbrev pub IsLasting : FrameFault → Type 0
IsLasting faults.Memory = ⊥
IsLasting (faults.Short wanted) = ⊥
IsLasting fault = ⊤

-- no frame can begin the bytes, and this is the first fault
abbrev pub IsBad : FrameFault → List ℕ → Type 0
IsBad fault bytes = IsLasting fault × (frame_at bytes ≡ Err fault)

-- while fewer bytes than so many are there, they end within a frame, whichever come
abbrev pub IsWanted : ℕ → List ℕ → Type 0
IsWanted wanted bytes = (more : List ℕ) → length (bytes ++ more) < wanted → IsPart (bytes ++ more)

-- a piece comes, and no room is left
abbrev pub fed : Cutting → List ℕ → Cutting
fed c piece = record c { unread = c.unread ++ piece; room = [] }

-- some room is made, whatever stands in it
abbrev pub with_room : Cutting → List ℕ → Cutting
with_room c room = record c { room = room }

-- bytes are written to the front of the room, which stays as long as it is
abbrev pub written : Cutting → List ℕ → Cutting
written c bytes = record c { room = take (length c.room) (bytes ++ drop (length bytes) c.room) }

-- the first bytes of the room come as a piece, and what is behind them is the room
abbrev pub filled : Cutting → ℕ → Cutting
filled c count = record (fed c (take count c.room)) { room = drop count c.room }

-- The next step: the parcel whose frame the bytes begin with, and its frame is gone; or they end within a frame; or the first fault, which is kept.
abbrev pub Steps : {E : Type 0} → Result PeerStep E → Cutting → Cutting → Type 0
Steps (Ok (step.Parcel p)) c c' = HasFrame p × (c.unread ≡ frame_of p ++ c'.unread) × (c' ≡ record c { unread = c'.unread })
Steps (Ok step.Need) c c' = IsPart c.unread × (c' ≡ c)
Steps (Ok (step.Bad fault)) c c' = IsBad fault c.unread × (c' ≡ record c { fault = Some fault })
Steps (Err e) c c' = c' ≡ c
