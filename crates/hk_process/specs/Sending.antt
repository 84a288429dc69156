-- What stands on a connection that is kept: whole frames. And what else may come of frames that are sent.
use Rattle.std.specs.Prelude.{◌≡◌, ◌⊎◌, ⊤, ℕ, List, Option, Some, None, Result, Err}
use Rattle.std.specs.Io.KnownBytes.{Appends}
use Rattle.hk_outside.specs.Causes.{Rose}
use Rattle.hk_peer.specs.declared.send.ForwardFault.{ForwardFault}
use Rattle.hk_peer.specs.declared.send.ForwardFault.TheVariants as forwarding
use Rattle.hk_peer.specs.Sending.{IsWritten, Forwards}

-- the frames were written and nothing else, or nothing was
abbrev pub IsWhole : List ℕ → Option (List ℕ) → Option (List ℕ) → Type 0
IsWhole frames held held' = Appends held held' frames ⊎ (held' ≡ held)

module _ {C : Type 0} (held : C → Option (List ℕ)) (read_faults write_faults : C → ℕ) where
  -- of a connection that was dialled, which began with no faults
  pub record IsNew (frames : List ℕ) (conn' : C) : Type 0 where
    pub conn : C
    pub no_read_faults : read_faults conn ≡ 0
    pub no_write_faults : write_faults conn ≡ 0
    pub whole : IsWhole frames (held conn) (held conn')

  -- a connection that is kept, or dialled, has these frames whole or nothing of them: so no front of a frame is followed by another frame
  abbrev pub HasWhole : List ℕ → Option C → Option C → Type 0
  HasWhole frames before None = ⊤
  HasWhole frames (Some conn) (Some conn') = IsWhole frames (held conn) (held conn')
  HasWhole frames None (Some conn') = IsNew frames conn'

-- ---- how it went
-- a connection on which writing failed is dropped, and any other is kept
abbrev pub IsKeptBy : {C : Type 0} → Result (Unit {0}) ForwardFault → C → Option C → Type 0
IsKeptBy (Err forwarding.WriteFault) conn kept = kept ≡ None
IsKeptBy result conn kept = kept ≡ Some conn

abbrev pub AreKeptBy : {C : Type 0} → Result (Unit {0}) ForwardFault → Option C → Option C → Type 0
AreKeptBy result None kept = kept ≡ None
AreKeptBy result (Some conn) kept = IsKeptBy result conn kept

module _ {C : Type 0} (held : C → Option (List ℕ)) (faults : C → ℕ) where
  -- The frames were written on the connection whole; or nothing was, since memory was wanting; or writing failed, of which its count of faults rose, and it is dropped.
  pub record IsSentOn (frames : List ℕ) (conn : C) (kept : Option C) : Type 0 where
    pub result : Result (Unit {0}) ForwardFault
    pub conn' : C
    pub written : IsWritten held faults result frames conn conn'
    pub keeps : IsKeptBy result conn' kept

module _ {C : Type 0} (held : C → Option (List ℕ)) (read_faults write_faults : C → ℕ) where
  -- As `forward` of hk_peer sends: with one of its results, whose faults have their causes. Behind it a connection on which writing failed is dropped.
  pub record IsForwarded (frames : List ℕ) (before now : Option C) (dial_faults dial_faults' : ℕ) : Type 0 where
    pub result : Result (Unit {0}) ForwardFault
    pub conn : Option C
    pub forwarded : Forwards held read_faults write_faults result frames before conn
    pub dial_fault : result ≡ Err forwarding.DialFault → Rose dial_faults dial_faults'
    pub keeps : AreKeptBy result conn now
