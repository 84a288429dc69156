-- The tests by which the code tells which node an event lets act.
use Rattle.std.specs.Prelude.{ℕ, ◌+◌, List, [], ◌∷◌, Bool, true, false, not, nat_lt, nat_le, ◌&&◌, if◌then◌else◌}
use Rattle.hk_base.specs.declared.stamp.NodeId.{NodeId}
use Rattle.hk_base.specs.declared.view.View.{View}
use Rattle.hk_base.specs.View.{is_member}
use Rattle.hk_node.specs.Made.{joiner}
use Rattle.hk_node.specs.Steps.{ticks}
use Rattle.hk_world.specs.declared.process.Process.{Process}
use Rattle.hk_world.specs.declared.process.ManagerProcess.{ManagerProcess}
use Rattle.hk_world.specs.Steps.{is_live}

-- A live node that was given its number before an epoch, and that the view leaves out, may still have a lease.
abbrev pub may_run_by : ℕ → ℕ → View → NodeId × Process → Bool
may_run_by skew given view p = is_live p && (nat_lt p.0.0 given && (not (is_member p.0 view.members) && nat_le (p.1.node.clock + skew) p.1.node.granted))

abbrev pub ticked : ℕ → Process → Process
ticked to process = if not process.crashed then record process { node = (ticks process.node to).node } else process

-- a joiner's process
abbrev pub joined : NodeId → (skew managers clock : ℕ) → Process
joined id skew managers clock = record { node = (ticks (joiner id skew managers) clock).node; crashed = false }

-- there are managers
abbrev pub is_managed : List ManagerProcess → Bool
is_managed [] = false
is_managed (p ∷ managers) = true
