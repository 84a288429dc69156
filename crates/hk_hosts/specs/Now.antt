-- Calls of a connection that do not wait, as the ones that wait.
use Rattle.std.specs.Prelude.{ℕ, Option, None, Some, Result, Ok, Err}
use Rattle.hk_hosts.specs.declared.now.Came.{Came}
use Rattle.hk_hosts.specs.declared.now.Came.TheVariants.{Bytes, Nothing, End}

-- a read that would wait takes nothing, as one that fails
abbrev pub read_of : {E : Type 0} → Result Came E → Result ℕ (Unit {0})
read_of (Ok (Bytes n)) = Ok n
read_of (Ok Nothing) = Err tt
read_of (Ok End) = Ok 0
read_of (Err e) = Err tt

-- and so with a write
abbrev pub written_of : {E : Type 0} → Result (Option ℕ) E → Result ℕ (Unit {0})
written_of (Ok (Some n)) = Ok n
written_of (Ok None) = Err tt
written_of (Err e) = Err tt
