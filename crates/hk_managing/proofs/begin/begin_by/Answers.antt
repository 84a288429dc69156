use Rattle.hk_managing.proofs.Beginning.{few_hosts}
use Rattle.hk_managing.proofs.begin.begin_by.Goals as goal

pub begun_by-requires-clause-hosts : goal.begun_by-requires-clause-hosts
begun_by-requires-clause-hosts c =
    few_hosts c.args.terms c.args.first.now c.args.records.now c.in-Ok.found c.in-Ok.ensures c.requires.few
