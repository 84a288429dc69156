-- What the node of a process is to be, and how it stands.
use Rattle.std.specs.Prelude.{ℕ, Bool, not, ◌==◌, ◌&&◌, if◌then◌else◌, Option, None, Some}
use Rattle.std.specs.Option.{option_map}
use Rattle.hk_base.specs.declared.stamp.NodeId.{NodeId}
use Rattle.hk_inside.specs.declared.report.NodeState.{NodeState}
use Rattle.hk_inside.specs.declared.report.NodeState.TheVariants.{Waiting, Seated, Copying, Ready, Leaving}
use Rattle.hk_shared_state.specs.declared.identity.Identity.{Identity}
use Rattle.hk_shared_state.specs.declared.standing.Standing.{Standing}
use Rattle.hk_shared_state.specs.declared.part.Part.{Part}
use Rattle.hk_shared_state.specs.declared.part.Part.TheVariants.{Founder, Joiner}
use Rattle.hk_shared_state.specs.Seeking.{is_holder, held}

-- A founder has the number of its host's place.
abbrev pub number : Part → NodeId
number (Founder place) = record { 0 = place }
number (Joiner node) = node

-- in a founding that is known, the number of the host's place is bound to this process by the last boards of a majority
abbrev pub holds_place : Standing → Identity → ℕ → Bool
holds_place s i place = not (s.founding == 0) && is_holder s i (record { 0 = place })

abbrev pub joins : Standing → Identity → Option Part
joins s i = option_map Joiner (held s i)

abbrev pub part_at : Option ℕ → Standing → Identity → Option Part
part_at None s i = joins s i
part_at (Some place) s i = if holds_place s i place then Some (Founder place) else joins s i

-- A process on a host with a manager founds, where it holds the number of that place; any other one joins by the number that it was given and holds.
abbrev pub part : Standing → Identity → Option Part
part s i = part_at i.place s i

-- A node copies rows once its shards have a view, until all eight are ready.
abbrev pub copying : ℕ → ℕ → NodeState
copying ready least_epoch = if ready == 8 then Ready else (if least_epoch == 0 then Seated else Copying)

-- Once it is ready it is so on, until it leaves.
abbrev pub state_behind : NodeState → ℕ → ℕ → NodeState
state_behind Waiting ready least_epoch = copying ready least_epoch
state_behind Seated ready least_epoch = copying ready least_epoch
state_behind Copying ready least_epoch = copying ready least_epoch
state_behind Ready ready least_epoch = Ready
state_behind Leaving ready least_epoch = Leaving
