-- The walk over the open keys of all shards.
use Rattle.std.specs.Prelude.{ℕ, ◌+◌, List, Option, Some, None, nat_le, if◌then◌else◌}

-- the present shard, 8 where the walk is over; the last key of it; up to which ticket a key must have been open to be due; the ticket at the present call
pub record RoundState : Type 0 where
  pub shard : ℕ
  pub last : Option (List ℕ)
  pub before : ℕ
  pub latest : ℕ

-- no walk yet
abbrev pub resting : RoundState
resting = record { shard = 8; last = None; before = 0; latest = 0 }

-- A call begins at this ticket. A walk that is over begins anew, for the keys that were open at the call before; one that is not goes on.
abbrev pub begun : RoundState → ℕ → RoundState
begun r ticket =
    if nat_le 8 r.shard then record { shard = 0; last = None; before = r.latest; latest = ticket }
    else record { shard = r.shard; last = r.last; before = r.before; latest = ticket }

abbrev pub behind_key : RoundState → ℕ → List ℕ → RoundState
behind_key r shard key = record { shard = shard; last = Some key; before = r.before; latest = r.latest }

abbrev pub next_shard : RoundState → ℕ → RoundState
next_shard r shard = record { shard = shard + 1; last = None; before = r.before; latest = r.latest }
