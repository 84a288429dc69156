-- The jobs of a server, which are started one after the other.
use Rattle.std.specs.Prelude.{ℕ, ◌+◌, ◌*◌, ◌≤◌, Option, Result}
use Rattle.hk_outside.specs.Causes.{HasCause}
use Rattle.hk_accept.specs.Serving.{Taken, HasServed}
use Rattle.hk_group.specs.declared.group.Group.{Group}

-- The spawner took what it took, or failed, and then its count of faults rose. No job that it took before is counted no more.
pub record HasStarted {T E : Type 0} (taken taken' : Option ℕ) (faults faults' : ℕ) (result : Result T E) : Type 0 where
  pub jobs : Taken taken taken' 0
  pub cause : HasCause faults faults' result

-- how many jobs a server has of its own: the workers of each node, and a loop for each manager number
abbrev pub own_jobs : Group → ℕ
own_jobs g = g.nodes * g.workers + g.managers

-- The spawner took so many jobs of the server's own. Then the stated number of connections came, or all that were left where those were fewer, and for each of them
-- it took a job, or its count of faults rose by one more.
pub record HasServedBeside (own : ℕ) (left left' taken taken' : Option ℕ) (faults faults' : ℕ) (conns : ℕ) : Type 0 where
  pub between : Option ℕ
  pub began : ℕ
  pub started : Taken taken between own
  pub later : faults ≤ began
  pub served : HasServed left left' between taken' began faults' conns
