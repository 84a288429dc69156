-- How a server ends whose connections are jobs.
use Rattle.std.specs.Prelude.{◌≡◌, ℕ, ◌+◌, ◌-◌, ◌^◌, ◌≤◌, ◌<◌, min, Option, None, Some, ⊤}
use Rattle.hk_outside.specs.Causes.{RoseBy}
use Rattle.hk_outside.specs.declared.status.Status.{Status}
use Rattle.hk_outside.specs.declared.status.Status.TheVariants as status

-- the statuses with which a server may end
abbrev pub EndsServe : Status → Type 0
EndsServe status.Done = ⊤
EndsServe status.Memory = ⊤
EndsServe status.DoorFault = ⊤
EndsServe status.SpawnFault = ⊤
EndsServe other = ⊥

-- so many connections came through the doors, where they tell how many are left
abbrev pub Came : Option ℕ → Option ℕ → ℕ → Type 0
Came None now count = ⊤
Came (Some before) now count = (count ≤ before) × (now ≡ Some (before - count))

-- so many are all that were left, where the doors tell how many are left
abbrev pub AreAll : Option ℕ → ℕ → Type 0
AreAll None count = ⊤
AreAll (Some before) count = before ≡ count

-- at least so many jobs were taken, as far as their count goes, where the spawner tells it
abbrev pub Taken : Option ℕ → Option ℕ → ℕ → Type 0
Taken None now count = ⊤
Taken (Some before) now count = (jobs : ℕ) × (now ≡ Some jobs) × (min (before + count) (2 ^ 64 - 1) ≤ jobs)

-- So many connections were received: for each a job was taken, or the spawner's count of faults rose by one. So where that count stayed, each got a job.
pub record AreReceived (taken taken' : Option ℕ) (faults faults' : ℕ) (count : ℕ) : Type 0 where
  pub jobs : ℕ
  pub refused : ℕ
  pub each : jobs + refused ≡ count
  pub started : Taken taken taken' jobs
  pub faulted : RoseBy refused faults faults'

-- The stated number of connections came, or all that were left where those were fewer, and they were received.
pub record HasServed (left left' taken taken' : Option ℕ) (faults faults' : ℕ) (conns : ℕ) : Type 0 where
  pub count : ℕ
  pub within : count ≤ conns
  pub came : Came left left' count
  pub received : AreReceived taken taken' faults faults' count
  pub all : count < conns → AreAll left count
