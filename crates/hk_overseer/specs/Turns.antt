-- The turns of a loop over managers.
use Rattle.std.specs.Prelude.{◌≡◌, ◌⊎◌, ℕ, zero, suc, ◌≤◌, List, map, min, Option, Some, IfSome, slice_set}
use Rattle.std.specs.List.{slice_get}
use Rattle.hk_base.specs.declared.letter.Letter.{Letter}
use Rattle.hk_base.specs.declared.time.TheConstants.{MAX_TIME}
use Rattle.hk_link.specs.declared.parcel.Parcel.{Parcel}
use Rattle.hk_link.specs.Ends.{End, IsTaken, WasEmpty, IsSameLink}
use Rattle.hk_manager.specs.Manager.{ManagerState}
use Rattle.hk_manager.specs.Steps.{receives, manager_ticks}
use Rattle.hk_overseer.specs.Overseer.{Overseer}
use Rattle.hk_overseer.specs.Sends.{AreSent}

-- all clocks rise to this reading
abbrev pub ticked : ℕ → List ManagerState → List ManagerState
ticked now managers = map (λ m. (manager_ticks m now).manager) managers

-- the managers' clocks have risen, and nothing else has changed
abbrev pub with_clocks : ℕ → Overseer → Overseer
with_clocks now o = record { managers = ticked now o.managers; inlet = o.inlet; outlets = o.outlets }

-- The manager of the shard makes its step with the letter, and sends these letters.
pub record IsSteppedAt (shard : ℕ) (letter : Letter) (before : List ManagerState) (sent : List Letter) (after : List ManagerState) : Type 0 where
  pub manager : ManagerState
  pub there : slice_get before shard ≡ Some manager
  pub stepped : after ≡ slice_set before shard (receives manager letter).manager
  pub sends : sent ≡ (receives manager letter).letters

-- what it sends goes on for the same shard
pub record IsReceived (shard : ℕ) (letter : Letter) (before after : Overseer) : Type 0 where
  pub sent : List Letter
  pub stepped : IsSteppedAt shard letter before.managers sent after.managers
  pub put : AreSent shard sent before.outlets after.outlets
  pub inlet : after.inlet ≡ before.inlet

-- or memory was wanting, and the letter is lost
pub record IsLetGo (before after : Overseer) : Type 0 where
  pub same : after ≡ before

-- the same, with another state of the inlet
abbrev pub with_inlet : Overseer → End → Overseer
with_inlet o inlet = record { managers = o.managers; inlet = inlet; outlets = o.outlets }

-- a parcel is taken from the inlet, and the manager of its shard takes the letter
pub record IsFed (parcel : Parcel) (before after : Overseer) : Type 0 where
  pub inlet : End
  pub link : IsSameLink inlet before.inlet
  pub taken : IsTaken before.inlet.known parcel inlet.known
  pub rest : IsReceived parcel.shard parcel.letter (with_inlet before inlet) after ⊎ IsLetGo (with_inlet before inlet) after

-- the link was empty at a moment of the turn
pub record IsIdle (before after : Overseer) : Type 0 where
  pub same : after ≡ before
  pub empty : WasEmpty before.inlet

-- One turn: the clocks rise to the reading, cut at the limit of clocks, and then one parcel at most is taken.
pub record IsTurn (reading : Option ℕ) (before after : Overseer) : Type 0 where
  pub now : ℕ
  pub within : now ≤ MAX_TIME
  pub told : IfSome reading (λ time. now ≡ min time MAX_TIME)
  pub made : ((parcel : Parcel) × IsFed parcel (with_clocks now before) after) ⊎ IsIdle (with_clocks now before) after

-- so many turns, one after the other
abbrev pub AreTurns : Option ℕ → ℕ → Overseer → Overseer → Type 0
AreTurns reading zero before after = after ≡ before
AreTurns reading (suc n) before after = (between : Overseer) × AreTurns reading n before between × IsTurn reading between after
