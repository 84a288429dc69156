-- How the node of a process leaves its group, and goes on to be there.
use Rattle.std.specs.Prelude.{ℕ, ◌+◌, ◌*◌, Bool, true, false, not, ◌&&◌, nat_le, if◌then◌else◌, Option, None, Some}
use Rattle.hk_base.specs.declared.stamp.NodeId.{NodeId}
use Rattle.hk_inside.specs.declared.report.NodeState.{NodeState}
use Rattle.hk_inside.specs.declared.report.NodeState.TheVariants as states
use Rattle.hk_boards.specs.Holders as boards
use Rattle.hk_shared_state.specs.declared.identity.Identity.{Identity}
use Rattle.hk_shared_state.specs.declared.standing.Standing.{Standing}

abbrev pub is_ready : NodeState → Bool
is_ready states.Waiting = false
is_ready states.Seated = false
is_ready states.Copying = false
is_ready states.Ready = true
is_ready states.Leaving = false

abbrev pub is_wanted : Option NodeId → Standing → Identity → Bool
is_wanted None s i = false
is_wanted (Some node) s i = boards.is_to_leave s.founding node i.ticket s.boards

-- the last boards of a majority tell that its node is to leave
abbrev pub is_to_leave : Standing → Identity → Bool
is_to_leave s i = is_wanted s.node s i

-- It begins to leave. That its state tells only two leases later: its own leases are over then, so a view without it begins at once.
abbrev pub begins : Standing → ℕ → Standing
begins s now = record s { leaving = Some now }

abbrev pub stays : Standing → Standing
stays s = record s { state = states.Ready; leaving = None }

abbrev pub goes : Standing → Standing
goes s = record s { state = states.Leaving }

-- It began to leave at a reading. Four leases later, it stays after all, unless it still is to leave.
abbrev pub leaves_on : ℕ → Standing → Identity → ℕ → Standing
leaves_on since s i now =
    if nat_le (since + 4 * i.lease) now && not (is_to_leave s i) then stays s else (
    if nat_le (since + 2 * i.lease) now then goes s else s)

abbrev pub leaving_by : Option ℕ → Standing → Identity → ℕ → Standing
leaving_by None s i now = if is_ready s.state && is_to_leave s i then begins s now else s
leaving_by (Some since) s i now = leaves_on since s i now

-- What becomes of how it stands at this reading: a node that is ready leaves where it is to.
abbrev pub leaving_noted : Standing → Identity → ℕ → Standing
leaving_noted s i now = leaving_by s.leaving s i now
