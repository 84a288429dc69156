use Rattle.std.proofs.Common.{ℕ, ◌+◌, ◌*◌, ◌∙◌, ap, subst, length}
use Rattle.hk_group.specs.Jobs.{HasServedBeside}
use Rattle.hk_group.proofs.server.run.Goals as goal

pub returns-clause-done : goal.returns-clause-done
returns-clause-done g c done =
    let served = c.serve_conns-status.new in
    let workers = c.in-Ok.ensures.workers ∙ ap (λ n. n * c.args.group.now.workers) c.requires.nodes in
    subst
    (λ (own : ℕ). HasServedBeside own (g.D.Doors.left c.args.doors.now) (g.D.Doors.left served.doors) (g.S.Spawner.taken c.args.spawner.now) (g.S.Spawner.taken served.spawner) (g.S.Spawner.faults c.args.spawner.now) (g.S.Spawner.faults served.spawner) c.args.group.now.conns)
    (λ i. workers i + c.in-Ok.ensures.managers i)
    (c.serve_conns-status.ensures.done done)
