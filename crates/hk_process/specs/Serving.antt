-- The connections that a process takes. How many of them are clients shows only in what they send.
use Rattle.std.specs.Prelude.{ℕ, ◌≤◌, ◌<◌, Option}
use Rattle.hk_accept.specs.Serving.{Came, AreAll, AreReceived, Taken}

-- At least the stated number of connections came, or all that were left where those were fewer, and they were received.
pub record HasTaken (left left' taken taken' : Option ℕ) (faults faults' : ℕ) (conns : ℕ) : Type 0 where
  pub count : ℕ
  pub came : Came left left' count
  pub received : AreReceived taken taken' faults faults' count
  pub all : count < conns → AreAll left count

-- The spawner took so many jobs of the process's own, and then the connections came.
pub record HasTakenBeside (own : ℕ) (left left' taken taken' : Option ℕ) (faults faults' : ℕ) (conns : ℕ) : Type 0 where
  pub between : Option ℕ
  pub began : ℕ
  pub started : Taken taken between own
  pub later : faults ≤ began
  pub served : HasTaken left left' between taken' began faults' conns
