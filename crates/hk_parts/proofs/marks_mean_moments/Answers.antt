use Rattle.hk_parts.proofs.Marked.{exact_means, covers_mean}
use Rattle.hk_parts.proofs.marks_mean_moments.Goals as goal

pub returns-clause-exact : goal.returns-clause-exact
returns-clause-exact c = exact_means c.runs_keep_parts.ensures

pub returns-clause-covers : goal.returns-clause-covers
returns-clause-covers c = covers_mean c.runs_keep_parts.ensures
