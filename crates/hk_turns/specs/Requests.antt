-- The requests for leases that are due.
use Rattle.std.specs.Prelude.{◌≡◌, ℕ, ◌+◌, ◌-◌, List, [], ◌∷◌, nat_lt, Option, Some, slice_set, replicate}
use Rattle.std.specs.List.{position, slice_get}

-- how many managers there are, and of each shard to how many its request has still to go
pub record RequestState : Type 0 where
  pub managers : ℕ
  pub left : List ℕ

abbrev pub no_requests : ℕ → RequestState
no_requests managers = record { managers = managers; left = replicate 8 0 }

-- the shard is to ask each manager once
abbrev pub raised : RequestState → ℕ → RequestState
raised r shard = record { managers = r.managers; left = slice_set r.left shard r.managers }

-- how many requests are due
abbrev pub requests_in : List ℕ → ℕ
requests_in [] = 0
requests_in (count ∷ left) = count + requests_in left

abbrev pub first_due : List ℕ → Option ℕ
first_due left = position (λ count. nat_lt 0 count) left

-- the first shard with a request to make asks the next manager, in rising order
pub record IsTaken (shard manager : ℕ) (before after : RequestState) : Type 0 where
  pub first : first_due before.left ≡ Some shard
  pub count : ℕ
  pub there : slice_get before.left shard ≡ Some count
  pub next : manager ≡ before.managers - count
  pub same : after.managers ≡ before.managers
  pub left : after.left ≡ slice_set before.left shard (count - 1)
