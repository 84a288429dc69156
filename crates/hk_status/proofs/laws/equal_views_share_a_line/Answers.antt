use Rattle.hk_status.proofs.Shared.{equal_views_share}
use Rattle.hk_status.proofs.laws.equal_views_share_a_line.Goals as goal

pub returns : goal.returns
returns c = equal_views_share
