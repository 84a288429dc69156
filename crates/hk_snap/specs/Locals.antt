-- What a read is told from what a shard shows, the tests in their order.
use Rattle.std.specs.Prelude.{ℕ, ◌+◌, List, Option, Some, None, nat_lt, if◌then◌else◌}
use Rattle.std.specs.Str.{bytes_eq}
use Rattle.hk_base.specs.Stamp.{tag_of}
use Rattle.hk_base.specs.declared.stamp.Stamp.{Stamp}
use Rattle.hk_base.specs.declared.call.State.{State}
use Rattle.hk_base.specs.declared.call.State.TheVariants as of_state
use Rattle.hk_base.specs.declared.call.Why.TheVariants as of_why
use Rattle.hk_snap.specs.declared.snapshot.Snapshot.{Snapshot}
use Rattle.hk_snap.specs.declared.snapshot.Shape.{Shape}
use Rattle.hk_snap.specs.declared.snapshot.Shape.TheVariants as of_kind
use Rattle.hk_snap.specs.declared.local.Local.{Local}
use Rattle.hk_snap.specs.declared.local.Local.TheVariants as told

-- a Valid row: Large, then Missing, then Found
abbrev pub of_shape : Stamp → ℕ → Shape → Local
of_shape stamp ticket (of_kind.Small content) = told.Found content (tag_of stamp) ticket
of_shape stamp ticket of_kind.Large = told.Large
of_shape stamp ticket of_kind.Missing = told.Missing ticket

-- any other row is told with its state
abbrev pub of_row : State → Stamp → ℕ → Shape → Local
of_row of_state.Valid stamp ticket shape = of_shape stamp ticket shape
of_row state stamp ticket shape = told.Busy (of_why.Row state stamp)

-- Elsewhere where the cell shows another key or none. Then the lease, which may be over where the clock and the skew pass its
-- end. Then the row.
abbrev pub local_of : Option Snapshot → List ℕ → ℕ → ℕ → ℕ → Local
local_of None key end now skew = told.Elsewhere
local_of (Some s) key end now skew =
    if bytes_eq s.key key then (if nat_lt end (now + skew) then told.Busy (of_why.Lease end now) else of_row s.state s.stamp s.ticket s.shape) else told.Elsewhere
