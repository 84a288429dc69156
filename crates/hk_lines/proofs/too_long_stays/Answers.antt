use Rattle.hk_lines.proofs.Over.{long_stays}
use Rattle.hk_lines.proofs.too_long_stays.Goals as goal

pub returns : goal.returns
returns c = long_stays
