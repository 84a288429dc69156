-- What a process is.
use Rattle.std.specs.Prelude.{ℕ, ◌+◌, ◌-◌, ◌≤◌, ◌<◌}
use Rattle.hk_base.specs.declared.time.TheConstants.{MAX_TIME}
use Rattle.hk_group.specs.declared.group.Group.{Group}
use Rattle.hk_process.specs.declared.process.Process.{Process}

-- the limits of a process: a node of a group of at most 16, each of which has a port of its own, from the stated one on
pub record IsProcess (p : Process) : Type 0 where
  pub id : p.id < p.nodes
  pub few_nodes : p.nodes ≤ 16
  pub ports : p.port + p.nodes ≤ 65536

-- the group that a process founds its node in: without managers, with leases that are never over and clocks that differ by nothing
abbrev pub group_of : Process → Group
group_of p = record { nodes = p.nodes; workers = p.workers; managers = 0; lease = MAX_TIME; skew = 0; port = p.port + p.id; conns = p.conns }

-- how many jobs a process has of its own: the workers of its node, and a loop for each other node
abbrev pub process_jobs : Process → ℕ
process_jobs p = p.workers + (p.nodes - 1)
