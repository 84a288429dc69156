-- The steps of a stamp, and its one number.
use Rattle.std.specs.Prelude.{ℕ, ◌+◌, ◌*◌, Option, None, Some, nat_lt, if◌then◌else◌}
use Rattle.hk_base.specs.declared.stamp.Stamp.{Stamp}
use Rattle.hk_base.specs.declared.stamp.TheConstants.{MAX_VERSION}

-- some versions on, at a node; none past the last version
abbrev pub stamp_after : ℕ → Stamp → ℕ → Option Stamp
stamp_after step s node = if nat_lt MAX_VERSION (s.version + step) then None else Some (record { version = s.version + step; node = node })

-- the stamp as one number
abbrev pub tag_of : Stamp → ℕ
tag_of s = s.version * 65536 + s.node
