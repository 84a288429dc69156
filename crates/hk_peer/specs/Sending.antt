-- What is written of frames that are sent: those of a parcel, or of several.
use Rattle.std.specs.Prelude.{◌≡◌, ℕ, List, take, Option, Some, None, Result, Ok, Err}
use Rattle.std.specs.Io.KnownBytes.{Appends}
use Rattle.hk_outside.specs.Causes.{Rose}
use Rattle.hk_outside.specs.Dialling.{Dials}
use Rattle.hk_peer.specs.declared.send.SendFault.{SendFault}
use Rattle.hk_peer.specs.declared.send.SendFault.TheVariants as sending
use Rattle.hk_peer.specs.declared.send.ForwardFault.{ForwardFault}
use Rattle.hk_peer.specs.declared.send.ForwardFault.TheVariants as forwarding

-- a front of the frames was written
abbrev pub IsFront : List ℕ → Option (List ℕ) → Option (List ℕ) → Type 0
IsFront frames held held' = (n : ℕ) × Appends held held' (take n frames)

-- they were written and nothing else; or nothing; or a front
abbrev pub Sends : Result (Unit {0}) SendFault → List ℕ → Option (List ℕ) → Option (List ℕ) → Type 0
Sends (Ok done) frames held held' = Appends held held' frames
Sends (Err sending.Memory) frames held held' = held' ≡ held
Sends (Err sending.WriteFault) frames held held' = IsFront frames held held'

module _ {C : Type 0} (held : C → Option (List ℕ)) (faults : C → ℕ) where
  -- so it is of a connection that there is; writing fails only where the count of its faults rose
  abbrev pub IsWritten : Result (Unit {0}) ForwardFault → List ℕ → C → C → Type 0
  IsWritten (Ok done) frames conn conn' = Appends (held conn) (held conn') frames
  IsWritten (Err forwarding.Memory) frames conn conn' = held conn' ≡ held conn
  IsWritten (Err forwarding.WriteFault) frames conn conn' = IsFront frames (held conn) (held conn') × Rose (faults conn) (faults conn')
  IsWritten (Err forwarding.DialFault) frames conn conn' = ⊥

  -- it is written on the connection that there is afterwards, which was this one
  abbrev pub IsWrittenOn : Result (Unit {0}) ForwardFault → List ℕ → C → Option C → Type 0
  IsWrittenOn result frames conn now = (conn' : C) × (now ≡ Some conn') × IsWritten result frames conn conn'

module _ {C : Type 0} (held : C → Option (List ℕ)) (read_faults write_faults : C → ℕ) where
  -- a connection that was dialled began with no faults
  pub record IsDialled (result : Result (Unit {0}) ForwardFault) (frames : List ℕ) (now : Option C) : Type 0 where
    pub conn : C
    pub no_read_faults : read_faults conn ≡ 0
    pub no_write_faults : write_faults conn ≡ 0
    pub written : IsWrittenOn held write_faults result frames conn now

  -- where there is no connection, one is dialled; where that fails there is none still
  abbrev pub Forwards : Result (Unit {0}) ForwardFault → List ℕ → Option C → Option C → Type 0
  Forwards result frames (Some conn) now = IsWrittenOn held write_faults result frames conn now
  Forwards (Err forwarding.DialFault) frames None now = now ≡ None
  Forwards result frames None now = IsDialled result frames now

-- where there was no connection, this port was dialled once; else none was
abbrev pub DialsFor : {C : Type 0} → Option C → Option (List ℕ) → Option (List ℕ) → ℕ → Type 0
DialsFor (Some conn) before now port = now ≡ before
DialsFor None before now port = Dials before now port
