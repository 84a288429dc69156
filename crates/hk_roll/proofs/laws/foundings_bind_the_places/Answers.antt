use Rattle.hk_roll.proofs.Founding.{founding_binds, managers_stay}
use Rattle.hk_roll.proofs.laws.foundings_bind_the_places.Goals as goal

pub returns-clause-places : goal.returns-clause-places
returns-clause-places c = founding_binds

pub returns-clause-stay : goal.returns-clause-stay
returns-clause-stay c = managers_stay
