-- When somebody is tried again who was not reached.
use Rattle.std.specs.Prelude.{ℕ, ◌+◌, ◌*◌, ◌-◌, ◌^◌, min, Bool, nat_le}
use Rattle.hk_channel.specs.declared.retry.Retry.{Retry}
use Rattle.hk_channel.specs.declared.retry.TheConstants.{MOST_PAUSE}

-- Nobody was tried: one may try at once, and the first pause is this long, a second at most.
abbrev pub at_once : ℕ → Retry
at_once least = record { least = min least MOST_PAUSE; pause = min least MOST_PAUSE; due_at = 0 }

-- one may try once the last pause is over
abbrev pub is_due : Retry → ℕ → Bool
is_due retry now = nat_le retry.due_at now

-- It was tried in vain: a pause begins, and the next one is twice as long, a second at most. A reading has 64 bits.
abbrev pub in_vain : ℕ → Retry → Retry
in_vain now retry = record retry {
  pause = min (retry.pause * 2) MOST_PAUSE;
  due_at = min (now + retry.pause) (2 ^ 64 - 1);
}

-- It went well: one may try at once, and the pauses begin anew.
abbrev pub after_all : Retry → Retry
after_all retry = record retry { pause = retry.least; due_at = 0 }
