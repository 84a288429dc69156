-- What a process has of the group that it founds its node in.
use Rattle.std.proofs.Common.{◌≡◌, ℕ, ◌+◌, ◌<◌, ◌∙◌, Option, ap, subst, sym, arith}
use Rattle.hk_group.specs.declared.group.Group.{Group}
use Rattle.hk_process.specs.declared.process.Process.{Process}
use Rattle.hk_process.specs.Process.{IsProcess, group_of, process_jobs}
use Rattle.hk_process.specs.Serving.{HasTakenBeside}

pub is_below : (p : Process) (g : Group) → g ≡ group_of p → IsProcess p → p.id < g.nodes
is_below p g same is = subst (λ (h : Group). p.id < h.nodes) (sym same) is.id

-- what holds of the group that it founds its node in, which has no managers, is said of the process
pub of_group : (p : Process) (g : Group) (workers queues : ℕ) → g ≡ group_of p → workers ≡ g.workers → queues + 1 ≡ g.nodes + g.managers → (workers ≡ p.workers) × (queues + 1 ≡ p.nodes)
of_group p g workers queues same hired paths =
    let none : p.nodes + 0 ≡ p.nodes = omega arith in
    (hired ∙ ap (λ (h : Group). h.workers) same, paths ∙ (ap (λ (h : Group). h.nodes + h.managers) same ∙ none))

-- all jobs of its own were started: a worker for each that it is to have, and a loop for each other node
pub all_started : (p : Process) (workers senders : ℕ) (left left' taken taken' : Option ℕ) (faults faults' conns : ℕ) → workers ≡ p.workers → senders + 1 ≡ p.nodes → HasTakenBeside (workers + senders) left left' taken taken' faults faults' conns → HasTakenBeside (process_jobs p) left left' taken taken' faults faults' conns
all_started p workers senders left left' taken taken' faults faults' conns hired sent served =
    let all : workers + senders ≡ process_jobs p = omega (arith, hired, sent) in
    subst (λ n. HasTakenBeside n left left' taken taken' faults faults' conns) all served
