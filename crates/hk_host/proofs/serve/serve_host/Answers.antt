use Rattle.hk_group.proofs.Alone.{anywhere_named}
use Rattle.hk_host.proofs.serve.serve_host.Goals as goal

pub serve_process-requires-clause-places : goal.serve_process-requires-clause-places
serve_process-requires-clause-places g c κs within = anywhere_named _
