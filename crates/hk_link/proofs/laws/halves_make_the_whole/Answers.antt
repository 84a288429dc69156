use Rattle.hk_link.proofs.Shares.{whole_again, whole_at}
use Rattle.hk_link.proofs.Alone.{all_is_whole}
use Rattle.hk_link.proofs.laws.halves_make_the_whole.Goals as goal

pub returns-clause-first : goal.returns-clause-first
returns-clause-first c = all_is_whole

pub returns-clause-again : goal.returns-clause-again
returns-clause-again c = whole_again

pub returns-clause-at_one_scale : goal.returns-clause-at_one_scale
returns-clause-at_one_scale c = whole_at
