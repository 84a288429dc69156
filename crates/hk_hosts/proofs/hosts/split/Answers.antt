use Rattle.hk_hosts.proofs.Entries.{split_entries, split_shorter}
use Rattle.hk_hosts.proofs.hosts.split.Goals as goal

pub returns-clause-entries : goal.returns-clause-entries
returns-clause-entries c = split_entries c.args.text.now c.split_once.result c.split_once.ensures.cases

pub returns-clause-shorter : goal.returns-clause-shorter
returns-clause-shorter c = split_shorter c.args.text.now c.split_once.result c.split_once.ensures.cases
