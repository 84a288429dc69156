use Rattle.hk_clocks.proofs.Exactly.{refused_exactly, others_stay}
use Rattle.hk_clocks.proofs.laws.refused_exactly.Goals as goal

pub returns-clause-exactly : goal.returns-clause-exactly
returns-clause-exactly c = λ skew low events all rise up a b p q is its. refused_exactly skew low events all rise up a b p q is its

pub returns-clause-others : goal.returns-clause-others
returns-clause-others c = λ skew low events all a to b d p q ne is. others_stay skew low events all a to b d p q ne is
