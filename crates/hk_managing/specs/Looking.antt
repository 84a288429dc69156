-- When a manager looks at what it heard, and when it wishes nothing by that.
use Rattle.std.specs.Prelude.{ℕ, ◌+◌, ◌*◌, ◌-◌, ◌/◌, Bool, not, ◌&&◌, nat_lt, if◌then◌else◌}
use Rattle.hk_managing.specs.declared.looks.Looks.{Looks}

-- A quarter of a lease, four beats, and more has gone by since it looked last: it stood still itself, for want of a
-- processor or while its disk synced. Of whoever asked meanwhile it may not have heard yet.
abbrev pub stood_still : ℕ → ℕ → Looks → Bool
stood_still lease now l = not (nat_lt (now - l.last) (lease / 4))

-- It has not wished nothing for that reason for two leases: where it stands still again and again, it goes by what it hears.
abbrev pub may_rest : ℕ → ℕ → Looks → Bool
may_rest lease now l = not (nat_lt (now - l.rests_until) (2 * lease))

abbrev pub rests_until : ℕ → ℕ → Looks → ℕ
rests_until lease now l = if stood_still lease now l && may_rest lease now l then now + lease / 4 else l.rests_until

-- It looks. Where it stood still it wishes nothing for a quarter of a lease.
abbrev pub looked : ℕ → ℕ → Looks → Looks
looked lease now l = record { last = now; rests_until = rests_until lease now l }

abbrev pub rests : ℕ → Looks → Bool
rests now l = nat_lt now l.rests_until
